-- A session is left as it is, or it forms a slot, or its user puts, takes or closes: its id keeps it.
use Rattle.std.proofs.Common.{◌≡◌, ℕ, suc, ⊎_elim, sym, ap, ◌∙◌, refl, subst, Bool, true, false, not, cond, ◌&&◌, ◌||◌, List, [], ◌∷◌, ◌++◌, nat_eq, nat_le, eqb-true}
use Rattle.std.proofs.lemmas.Bool.{and_parts, and_left, or_parts, true≢false, false≢true, not-true}
use Rattle.lat_model.specs.sessions.Slots.{Slot, is_stop, has_stop, starts, turned, slot_len}
use Rattle.lat_model.specs.sessions.Session.{Session, free, gone, answered, rejected, stopped, waits}
use Rattle.lat_model.specs.sessions.Sessions.{Sessions}
use Rattle.lat_model.specs.sessions.Offers.{Offer, Nothing, Unfit, Offers, fit, start_of, start_offer, later_offer, reject_offer, live_offer, offer}
use Rattle.lat_model.specs.sessions.Packing.{Packing, form, formed, first_form, next_form, turn_by, turn, turn_all, turns, pack}
use Rattle.lat_model.specs.sessions.Calls.{touch}
use Rattle.lat_model.specs.Lists.{is_empty, updated}
use Rattle.lat_lines.specs.Later.{asked_for}
use Rattle.lat_model.proofs.sessions.Words.{has_stop-append}
use Rattle.lat_model.proofs.sessions.Starts.{free_cases, turned_not_starts}
use Rattle.lat_model.proofs.sessions.Forms.{formed_as}

-- once free it stays as it is, and while it waits it goes on waiting
pub record Tended (s t : Session) : Type 0 where
  pub id : t.id ≡ s.id
  pub accepted : t.accepted ≡ s.accepted
  pub rejects : t.rejects ≡ s.rejects
  pub came : t.came ≡ s.came
  pub asked_for : asked_for t ≡ asked_for s
  pub over : s.rejects ≡ false → free s ≡ true → t ≡ s
  pub waits : waits s ≡ true → waits t ≡ true

pub record AllTended (s t : Sessions) : Type 0 where
  pub master : t.master ≡ s.master
  pub made : t.made ≡ s.made
  pub at_id : t.at_id ≡ s.at_id
  pub each : (k : ℕ) → Tended (s.session k) (t.session k)

pub tended : (s : Session) → Tended s s
tended s = record { id = refl; accepted = refl; rejects = refl; came = refl; asked_for = refl; over = λ r f. refl; waits = λ w. w }

pub all_tended : (s : Sessions) → AllTended s s
all_tended s = record { master = refl; made = refl; at_id = refl; each = λ k. tended (s.session k) }

tended_on : (s t u : Session) → Tended s t → Tended t u → Tended s u
tended_on s t u p q = record {
  id = q.id ∙ p.id;
  accepted = q.accepted ∙ p.accepted;
  rejects = q.rejects ∙ p.rejects;
  came = q.came ∙ p.came;
  asked_for = q.asked_for ∙ p.asked_for;
  over = λ r f. q.over (p.rejects ∙ r) (ap free (p.over r f) ∙ f) ∙ p.over r f;
  waits = λ w. q.waits (p.waits w);
}

pub all_tended_on : (s t u : Sessions) → AllTended s t → AllTended t u → AllTended s u
all_tended_on s t u p q = record {
  master = q.master ∙ p.master;
  made = q.made ∙ p.made;
  at_id = q.at_id ∙ p.at_id;
  each = λ k. tended_on (s.session k) (t.session k) (u.session k) (p.each k) (q.each k);
}

-- one session is put anew
pub tended_at : (f : ℕ → Session) (k : ℕ) (s : Session) → Tended (f k) s → (j : ℕ) → Tended (f j) (updated f k s j)
tended_at f k s h j = go (nat_eq j k) refl
  where
    go : (b : Bool) → nat_eq j k ≡ b → Tended (f j) (cond b s (f j))
    go true q = subst (λ z. Tended (f z) s) (sym (eqb-true j k q)) h
    go false q = tended (f j)

-- a user's touch of a session that isn't free
pub all_touched : (e : Sessions) (k : ℕ) (s : Session) → Tended (e.session k) s → AllTended e (touch e k s)
all_touched e k s h = record { master = refl; made = refl; at_id = refl; each = tended_at e.session k s h }

-- forming

no_offer : {C : Type 0} (x : Slot) → Nothing ≡ Offers x → C
no_offer x q = absurd (wrong q)
  where
    wrong : Nothing ≡ Offers x → ⊥
    wrong r = cc

-- a free session that doesn't reject offers nothing
free_offers_none : {C : Type 0} (m : Bool) (c room : ℕ) (s : Session) (x : Slot) → s.rejects ≡ false → free s ≡ true → offer m c room s ≡ Offers x → C
free_offers_none {C} m c room s x r f h = ⊎_elim {C = C} (λ t. off_turned t) (λ p. off_stopped s.out refl (and_parts (has_stop s.out) (has_stop s.came) p).0) (free_cases s r f)
  where
    -- no reject, so a start or what stands behind it
    later : cond (is_empty s.out) (start_offer m c room s) (later_offer c room s) ≡ Offers x
    later = sym (ap (λ b. cond b (reject_offer room s) (cond (is_empty s.out) (start_offer m c room s) (later_offer c room s))) r) ∙ h

    off_turned : turned s.came ≡ true → C
    off_turned t = go (is_empty s.out) (s.accepted && not (turned s.came)) (answered s && not (has_stop s.out)) (and_not s.accepted (turned s.came) t) (and_left (answered s) (not (has_stop s.out)) (and_off s.accepted (starts s.came) (turned_not_starts s.came t))) later
      where
        and_not : (a b : Bool) → b ≡ true → (a && not b) ≡ false
        and_not true b q = ap not q
        and_not false b q = refl

        and_off : (a b : Bool) → b ≡ false → (a && b) ≡ false
        and_off true b q = q
        and_off false b q = refl

        go : (o a l : Bool) → a ≡ false → l ≡ false → cond o (cond a (fit room (start_of m c s)) Nothing) (cond l (live_offer c room s s.attention) Nothing) ≡ Offers x → C
        go true a l p q w = no_offer x (sym (ap (λ b. cond b (fit room (start_of m c s)) Nothing) p) ∙ w)
        go false a l p q w = no_offer x (sym (ap (λ b. cond b (live_offer c room s s.attention) Nothing) q) ∙ w)

    off_stopped : (xs : List Slot) → s.out ≡ xs → has_stop xs ≡ true → C
    off_stopped [] q p = absurd (false≢true p)
    off_stopped (y ∷ ys) q p = no_offer x (sym (go (answered s) (has_stop s.out) (ap has_stop q ∙ p)) ∙ sym (ap (λ z. cond (is_empty z) (start_offer m c room s) (later_offer c room s)) q) ∙ later)
      where
        go : (a b : Bool) → b ≡ true → cond (a && not b) (live_offer c room s s.attention) Nothing ≡ Nothing
        go a false p = absurd (false≢true p)
        go true true p = refl
        go false true p = refl

-- what a waiting session offers is no stop
waiting_offer : (m : Bool) (c room : ℕ) (s : Session) (x : Slot) → waits s ≡ true → offer m c room s ≡ Offers x → is_stop x ≡ false
waiting_offer m c room s x w = go s.rejects (is_empty s.out) (answered s) (s.accepted && not (turned s.came)) rejects (not-true (answered s) p.0)
  where
    p : (not (answered s) ≡ true) × (not (gone s) ≡ true)
    p = and_parts (not (answered s)) (not (gone s)) w

    rejects : s.rejects ≡ false
    rejects = (or_parts s.rejects (turned s.came) (or_parts (rejected s) (stopped s) (not-true (gone s) p.1)).0).0

    start : (n : Bool) → is_stop (start_of n c s) ≡ false
    start true = refl
    start false = refl

    fits : (b : Bool) (y : Slot) → is_stop y ≡ false → cond b (Offers y) Unfit ≡ Offers x → is_stop x ≡ false
    fits true y q h = let same : y ≡ x = cc in sym (ap is_stop same) ∙ q
    fits false y q h = absurd (wrong h)
      where
        wrong : Unfit ≡ Offers x → ⊥
        wrong r = cc

    go : (r o a b : Bool) → r ≡ false → a ≡ false → cond r (reject_offer room s) (cond o (cond b (fit room (start_of m c s)) Nothing) (cond (a && not (has_stop s.out)) (live_offer c room s s.attention) Nothing)) ≡ Offers x → is_stop x ≡ false
    go true o a b q v h = absurd (true≢false q)
    go false true a true q v h = fits (nat_le (slot_len (start_of m c s)) room) (start_of m c s) (start m) h
    go false true a false q v h = no_offer x h
    go false false true b q v h = absurd (true≢false v)
    go false false false b q v h = no_offer x h

-- a session that forms what it offers
formed_tended : (m : Bool) (c room n : ℕ) (s : Session) (x : Slot) → offer m c room s ≡ Offers x → Tended s (formed_as s n x)
formed_tended m c room n s x h = record {
  id = refl;
  accepted = refl;
  rejects = refl;
  came = refl;
  asked_for = refl;
  over = λ r f. free_offers_none m c room s x r f h;
  waits = λ w. ap (λ z. not (answered s) && not (rejected s || (z && has_stop s.came))) (same (waiting_offer m c room s x w h)) ∙ w;
}
  where
    or_none : (a b : Bool) → b ≡ false → (a || (b || false)) ≡ a
    or_none true b q = refl
    or_none false b q = ap (λ z. z || false) q

    same : is_stop x ≡ false → has_stop (s.out ++ x ∷ []) ≡ has_stop s.out
    same q = has_stop-append s.out (x ∷ []) ∙ or_none (has_stop s.out) (is_stop x) q

form_tended : (e : Sessions) (k room : ℕ) (x : Slot) → offer e.master e.ceiling room (e.session k) ≡ Offers x → AllTended e (form e k x)
form_tended e k room x h = go (nat_eq (e.session k).generation 0)
  where
    go : (b : Bool) → AllTended e (cond b (first_form e k x) (next_form e k x))
    go true = record { master = refl; made = refl; at_id = refl; each = tended_at e.session k (formed_as (e.session k) (suc e.generations) x) (formed_tended e.master e.ceiling room (suc e.generations) (e.session k) x h) }
    go false = record { master = refl; made = refl; at_id = refl; each = tended_at e.session k (formed (e.session k) x) (formed_tended e.master e.ceiling room (e.session k).generation (e.session k) x h) }

turn_tended : (p : Packing) (k : ℕ) → AllTended p.after (turn p k).after
turn_tended p k = go p.going (offer p.after.master p.after.ceiling p.room (p.after.session k)) refl
  where
    go : (b : Bool) (o : Offer) → offer p.after.master p.after.ceiling p.room (p.after.session k) ≡ o → AllTended p.after (cond b (turn_by p k o) p).after
    go true Nothing h = all_tended p.after
    go true Unfit h = all_tended p.after
    go true (Offers x) h = form_tended p.after k p.room x h
    go false o h = all_tended p.after

turns_tended : (ks : List ℕ) (p : Packing) → AllTended p.after (turn_all ks p).after
turns_tended [] p = all_tended p.after
turns_tended (k ∷ ks) p = all_tended_on p.after (turn p k).after (turn_all ks (turn p k)).after (turn_tended p k) (turns_tended ks (turn p k))

pub pack_tended : (room : ℕ) (e : Sessions) → AllTended e (pack room e).after
pack_tended room e = turns_tended (turns e) (record { after = e; slots = []; room = room; left = 255; going = true })
