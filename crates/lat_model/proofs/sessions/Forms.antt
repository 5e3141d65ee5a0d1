-- What forming a slot keeps of the session that forms it, of its end and of the wires.
use Rattle.std.proofs.Common.{◌≡◌, ◌≢◌, ℕ, zero, suc, ◌+◌, ◌<◌, ◌≤◌, ⊎_elim, sym, ap, ◌∙◌, refl, subst, arith, Bool, true, false, cond, ◌&&◌, ◌||◌, List, [], ◌∷◌, ◌++◌, length, nat_eq, nat_le, append_assoc, append-nil, eqb-true, ne_eqb, le_refl}
use Rattle.std.proofs.lemmas.Bool.{cases_lt, or_parts, true≢false, false≢true, false_from_ne_true, both_ways, eqb-false}
use Rattle.lat_model.specs.sessions.Slots.{Slot, Start, DataA, DataB, Attention, Reject, Stop, items, credits, costs, credits_of, cost_of, items_of, has_stop, is_start, is_ask, is_stop, is_reject}
use Rattle.lat_model.specs.sessions.Session.{Session, blank, free, rejected, peer}
use Rattle.lat_model.specs.sessions.Sessions.{Sessions, of_generation}
use Rattle.lat_model.specs.sessions.Packing.{TaggedSlot, formed, served_after, first_form, next_form}
use Rattle.lat_model.specs.Lists.{updated, IsPrefixOf}
use Rattle.lat_model.specs.sessions.EndOk.{Behind, Tail, Shape, SessionOk, Accounts, EndOk}
use Rattle.lat_model.specs.sessions.MayForm.{MayForm, Starts, Rejects, Follows, Affords}
use Rattle.lat_model.specs.sessions.Joined.{Flows, slots_of}
use Rattle.lat_model.proofs.sessions.Words.{items-append, credits-append, costs-append, has_stop-append, upd_same, upd_other, upd_all, upd_field, slots_of-append, not_blank}
use Rattle.lat_model.proofs.sessions.Wire.{end_placed}
use Rattle.lat_model.proofs.sessions.Meets.{not_nil}
use Rattle.lat_model.proofs.sessions.Starts.{reject_turns, slots_here}
use Rattle.lat_model.proofs.sessions.Asks.{no_gen}

-- the session after it formed x, with this generation
abbrev pub formed_as : Session → ℕ → Slot → Session
formed_as s n x = formed (record s { generation = n }) x

reject_no_ask : (x : Slot) → is_reject x ≡ true → is_ask x ≡ false
reject_no_ask (Start to from c size service request) e = absurd (false≢true e)
reject_no_ask (DataA to from c bytes) e = refl
reject_no_ask (DataB to from c setting) e = refl
reject_no_ask (Attention to from flag) e = refl
reject_no_ask (Reject to from reason) e = refl
reject_no_ask (Stop to from reason) e = refl

tail_more : (to from : ℕ) (xs : List Slot) (x : Slot) → Tail to from xs → has_stop xs ≡ false → Behind to from x → Tail to from (xs ++ x ∷ [])
tail_more to from [] x t n b = (b, λ e. refl, tt)
tail_more to from (y ∷ ys) x t n b =
    let p : (is_stop y ≡ false) × (has_stop ys ≡ false) = or_parts (is_stop y) (has_stop ys) n in
    (t.0, λ e. absurd (both_ways (is_stop y) p.0 e), tail_more to from ys x t.2 p.1 b)

formed_shape : (m : Bool) (s : Session) (n : ℕ) (x : Slot) → (m ≡ false → s.generation ≡ 0 → ⊥) → SessionOk m s → MayForm m s x → Shape m (formed_as s n x) (s.out ++ x ∷ [])
formed_shape m s n x g ok (Starts o a r tu st k so d) =
    subst (λ w. Shape m (formed_as s n x) (w ++ x ∷ [])) (sym o)
    (record {
      asks = k;
      start = λ e. (so, a, r);
      reject = λ e. absurd (both_ways (is_start x) e st);
      reply = λ e. (d e, ok.asked e (g e));
      tail = tt;
      behind = λ e. absurd (e refl);
    })
formed_shape m s n x g ok (Rejects o r c j d) =
    subst (λ w. Shape m (formed_as s n x) (w ++ x ∷ [])) (sym o)
    (record {
      asks = reject_no_ask x j ∙ sym slave;
      start = λ e. absurd (both_ways (is_start x) (reject_turns x j) e);
      reject = λ e. (j, r, refl);
      reply = λ e. (d, ok.asked e (g e));
      tail = tt;
      behind = λ e. absurd (e refl);
    })
  where
    slave : m ≡ false
    slave = false_from_ne_true m (λ e. c (ok.never_rejects e r).1)
formed_shape m s n x g ok (Follows r o a st b) = go s.out o st ok.shape
  where
    go : (xs : List Slot) → (xs ≡ [] → ⊥) → has_stop xs ≡ false → Shape m s xs → Shape m (formed_as s n x) (xs ++ x ∷ [])
    go [] o st h = absurd (o refl)
    go (y ∷ ys) o st h = record {
      asks = h.asks;
      start = h.start;
      reject = λ e. absurd (both_ways s.rejects r (h.reject e).1);
      reply = h.reply;
      tail = tail_more (peer s) s.id ys x h.tail (or_parts (is_stop y) (has_stop ys) st).1 b;
      behind = λ e. a;
    }

pub formed_ok : (m : Bool) (s : Session) (n : ℕ) (x : Slot) → (n ≡ 0 → ⊥) → (m ≡ false → s.generation ≡ 0 → ⊥) → SessionOk m s → MayForm m s x → SessionOk m (formed_as s n x)
formed_ok m s n x nz g ok may = record {
  shape = formed_shape m s n x g ok may;
  unnamed = λ e. absurd (nz e);
  asked = λ e h. ok.asked e (g e);
  id_some = ok.id_some;
  peer_some = λ e h. ok.peer_some e (g e);
  ask_out = λ e h. not_nil s.out x [];
  never_rejects = λ e h. absurd (both_ways s.rejects (unrejected e may) h);
}
  where
    unrejected : m ≡ true → MayForm m s x → s.rejects ≡ false
    unrejected e (Starts o a r tu st k so d) = r
    unrejected e (Rejects o r c j d) = absurd (c (ok.never_rejects e r).1)
    unrejected e (Follows r o a st b) = r

pub formed_accounts : (c : ℕ) (s : Session) (n : ℕ) (x : Slot) → Accounts c s → Affords c s x → Accounts c (formed_as s n x)
formed_accounts c s n x ac af =
    let k : costs (s.out ++ x ∷ []) ≡ costs s.out + (cost_of x + 0) = costs-append s.out (x ∷ []) in
    let l : credits (s.out ++ x ∷ []) ≡ credits s.out + (credits_of x + 0) = credits-append s.out (x ∷ []) in
    let i : items (s.out ++ x ∷ []) ≡ items s.out ++ items_of x = items-append s.out (x ∷ []) ∙ ap (λ z. items s.out ++ z) (append-nil (items_of x)) in
    record {
      spends = omega (arith, af.cost);
      spent = omega (arith, ac.spent);
      gives = omega (arith, ac.gives, ac.spent, af.gives);
      framed = subst (λ z. IsPrefixOf z s.put) (sym i) af.items;
      taken = ac.taken;
    }

-- what was free stays free
pub formed_free : (s : Session) (n : ℕ) (x : Slot) → free (formed_as s n x) ≡ false → free s ≡ false
formed_free s n x h = go (rejected s) (has_stop s.out) (has_stop (s.out ++ x ∷ [])) (has_stop s.came) (s.closed || nat_le (length (items s.came)) s.taken) (λ e. has_stop-append s.out (x ∷ []) ∙ ap (λ z. z || has_stop (x ∷ [])) e) h
  where
    go : (a b b' c d : Bool) → (b ≡ true → b' ≡ true) → (a || ((b' && c) && d)) ≡ false → (a || ((b && c) && d)) ≡ false
    go true b b' c d i e = e
    go false false b' c d i e = refl
    go false true true c d i e = e
    go false true false c d i e = absurd (false≢true (i refl))

no_blank_forms : (m : Bool) (x : Slot) → MayForm m blank x → ⊥
no_blank_forms m x (Starts o a r tu st k so d) = true≢false r
no_blank_forms m x (Rejects o r c j d) = c refl
no_blank_forms m x (Follows r o a st b) = true≢false r

pub former_some : (e : Sessions) (k : ℕ) (x : Slot) → EndOk e → MayForm e.master (e.session k) x → k ≡ 0 → ⊥
former_some e k x ok may q = not_blank e (λ z. MayForm e.master z x) (no_blank_forms e.master x) ok.none k may q

pub former_made : (e : Sessions) (k : ℕ) (x : Slot) → EndOk e → MayForm e.master (e.session k) x → k ≤ e.made
former_made e k x ok may = ⊎_elim {C = k ≤ e.made} (λ h. absurd (no_blank_forms e.master x (subst (λ z. MayForm e.master z x) (ok.past k h) may))) (λ h. h) (cases_lt e.made k)

pub slave_named : (e : Sessions) (k : ℕ) (x : Slot) → EndOk e → MayForm e.master (e.session k) x → e.master ≡ false → (e.session k).generation ≡ 0 → ⊥
slave_named e k x ok may m = ok.all_named m k (pos k (former_some e k x ok may)) (former_made e k x ok may)
  where
    pos : (n : ℕ) → (n ≡ 0 → ⊥) → 0 < n
    pos zero h = absurd (h refl)
    pos (suc n) h = omega arith

-- a session with a generation forms

pub next_ok : (e : Sessions) (k : ℕ) (x : Slot) → EndOk e → ((e.session k).generation ≡ 0 → ⊥) → MayForm e.master (e.session k) x → Affords e.ceiling (e.session k) x → EndOk (next_form e k x)
next_ok e k x ok n may af =
    let s : Session = e.session k in
    end_placed e k (formed s x) (served_after e k) ok (former_some e k x ok may) (former_made e k x ok may)
    (record { id = refl; generation = refl; free = formed_free s s.generation x })
    (formed_ok e.master s s.generation x n (slave_named e k x ok may) (ok.each k) may)
    (formed_accounts e.ceiling s s.generation x (ok.accounts k) af)

-- a session of the master forms its ask, with the next generation

first_other : (e : Sessions) → EndOk e → (k : ℕ) → (e.session k).generation ≡ 0 → (k ≡ 0 → ⊥) → (g : ℕ) → e.serial_of g ≡ k → ⊥
first_other e ok k z nz g q =
    let w : g ≡ 0 = sym (ok.generation_found g (λ h. nz (sym q ∙ h))) ∙ ap (λ n. (e.session n).generation) q ∙ z in
    nz (sym q ∙ ap e.serial_of w ∙ ok.serial_zero)

pub first_ok : (e : Sessions) (k : ℕ) (x : Slot) → EndOk e → e.master ≡ true → (e.session k).generation ≡ 0 → MayForm e.master (e.session k) x → Affords e.ceiling (e.session k) x → EndOk (first_form e k x)
first_ok e k x ok m z may af = record {
  agreed = ok.agreed;
  each = upd_all (λ w. SessionOk e.master w) e.session k t (formed_ok e.master s (suc e.generations) x (λ q. absurd (omega (arith, q))) (λ q. absurd (true≢false (sym m ∙ q))) (ok.each k) may) ok.each;
  accounts = upd_all (λ w. Accounts e.ceiling w) e.session k t (formed_accounts e.ceiling s (suc e.generations) x (ok.accounts k) af) ok.accounts;
  holds = λ j. holds j (nat_eq j k) refl;
  at_made = ok.at_made;
  found = λ i h. upd_field (λ (z : Session). z.id) e.session k t refl (e.at_id i) ∙ ok.found i h;
  generation_found = λ g. generation_found g (nat_eq g (suc e.generations)) refl;
  serial_found = λ j. serial_found j (nat_eq j k) refl;
  serial_zero = upd_other e.serial_of (suc e.generations) k 0 (λ q. absurd (omega (arith, q))) ∙ ok.serial_zero;
  serial_past = λ g h. upd_other e.serial_of (suc e.generations) k g (λ q. absurd (omega (arith, q))) ∙ ok.serial_past g (omega arith);
  serial_made = upd_all (λ w. w ≤ e.made) e.serial_of (suc e.generations) k (former_made e k x ok may) ok.serial_made;
  none = upd_other e.session k t 0 (λ q. nz (sym q)) ∙ ok.none;
  past = λ j h. upd_other e.session k t j (λ q. absurd (omega (arith, former_made e k x ok may, q))) ∙ ok.past j h;
  all_named = λ q. absurd (true≢false (sym m ∙ q));
}
  where
    s : Session
    s = e.session k

    t : Session
    t = formed_as s (suc e.generations) x

    nz : k ≡ 0 → ⊥
    nz = former_some e k x ok may

    holds : (j : ℕ) (b : Bool) → nat_eq j k ≡ b → free (cond b t (e.session j)) ≡ false → e.at_id (cond b t (e.session j)).id ≡ j
    holds j true q h = ok.holds k (formed_free s (suc e.generations) x h) ∙ sym (eqb-true j k q)
    holds j false q h = ok.holds j h

    generation_found : (g : ℕ) (b : Bool) → nat_eq g (suc e.generations) ≡ b → cond b k (e.serial_of g) ≢ 0 → (updated e.session k t (cond b k (e.serial_of g))).generation ≡ g
    generation_found g true q h = ap (λ (w : Session). w.generation) (upd_same e.session k t) ∙ sym (eqb-true g (suc e.generations) q)
    generation_found g false q h = ap (λ (w : Session). w.generation) (upd_other e.session k t (e.serial_of g) (first_other e ok k z nz g)) ∙ ok.generation_found g h

    serial_found : (j : ℕ) (b : Bool) → nat_eq j k ≡ b → (cond b t (e.session j)).generation ≢ 0 → updated e.serial_of (suc e.generations) k (cond b t (e.session j)).generation ≡ j
    serial_found j true q h = upd_same e.serial_of (suc e.generations) k ∙ sym (eqb-true j k q)
    serial_found j false q h = upd_other e.serial_of (suc e.generations) k (e.session j).generation (fresh_gen) ∙ ok.serial_found j h
      where
        fresh_gen : (e.session j).generation ≡ suc e.generations → ⊥
        fresh_gen p =
            let w : j ≡ 0 = sym (ok.serial_found j h) ∙ ap e.serial_of p ∙ ok.serial_past (suc e.generations) (le_refl _) in
            h (ap (λ n. (e.session n).generation) w ∙ ap (λ (v : Session). v.generation) ok.none)

-- the sessions by generation after that
pub first_new : (e : Sessions) (k : ℕ) (x : Slot) → of_generation (first_form e k x) (suc e.generations) ≡ formed_as (e.session k) (suc e.generations) x
first_new e k x = ap (updated e.session k (formed_as (e.session k) (suc e.generations) x)) (upd_same e.serial_of (suc e.generations) k) ∙ upd_same e.session k (formed_as (e.session k) (suc e.generations) x)

pub first_old : (e : Sessions) (k : ℕ) (x : Slot) → EndOk e → (e.session k).generation ≡ 0 → (k ≡ 0 → ⊥) → (g : ℕ) → (g ≡ suc e.generations → ⊥) → of_generation (first_form e k x) g ≡ of_generation e g
first_old e k x ok z nz g n =
    ap (updated e.session k (formed_as (e.session k) (suc e.generations) x)) (upd_other e.serial_of (suc e.generations) k g n)
    ∙ upd_other e.session k (formed_as (e.session k) (suc e.generations) x) (e.serial_of g) (first_other e ok k z nz g)

pub first_flow : (a b : Sessions) (k : ℕ) (x : Slot) (wire : List TaggedSlot) → EndOk a → (a.session k).generation ≡ 0 → (k ≡ 0 → ⊥) → Flows a b wire → Flows (first_form a k x) b (wire ++ record { generation = suc a.generations; slot = x } ∷ [])
first_flow a b k x wire ok z nz f = record { at_generation = λ g. go g (nat_eq g (suc a.generations)) refl }
  where
    o : TaggedSlot
    o = record { generation = suc a.generations; slot = x }

    go : (g : ℕ) (c : Bool) → nat_eq g (suc a.generations) ≡ c → (of_generation (first_form a k x) g).out ≡ (of_generation b g).came ++ slots_of g (wire ++ o ∷ [])
    go g true q =
        let w : g ≡ suc a.generations = eqb-true g (suc a.generations) q in
        let before : (of_generation b g).came ++ slots_of g wire ≡ [] = sym (f.at_generation g) ∙ ap (λ (v : Session). v.out) (no_gen a ok g (omega (arith, w))) in
        let one : slots_of g (o ∷ []) ≡ x ∷ [] = ap (λ n. slots_of n (o ∷ [])) w ∙ slots_here o [] in
        ap (λ n. (of_generation (first_form a k x) n).out) w ∙ ap (λ (v : Session). v.out) (first_new a k x) ∙ ap (λ v. v ++ x ∷ []) ((ok.each k).unnamed z)
        ∙ sym (ap (λ v. (of_generation b g).came ++ v) (slots_of-append g wire (o ∷ []) ∙ ap (λ v. slots_of g wire ++ v) one) ∙ sym (append_assoc (of_generation b g).came (slots_of g wire) (x ∷ [])) ∙ ap (λ v. v ++ x ∷ []) before)
    go g false q =
        let w : g ≡ suc a.generations → ⊥ = eqb-false g (suc a.generations) q in
        let none : slots_of g (o ∷ []) ≡ [] = ap (λ c. cond c (x ∷ []) []) (ne_eqb (suc a.generations) g (λ e. w (sym e))) in
        ap (λ (v : Session). v.out) (first_old a k x ok z nz g w) ∙ f.at_generation g
        ∙ sym (ap (λ v. (of_generation b g).came ++ v) (slots_of-append g wire (o ∷ []) ∙ ap (λ v. slots_of g wire ++ v) none ∙ append-nil (slots_of g wire)))

pub first_came : (e : Sessions) (k : ℕ) (x : Slot) → EndOk e → (e.session k).generation ≡ 0 → (k ≡ 0 → ⊥) → (e.session k).came ≡ [] → (g : ℕ) → (of_generation (first_form e k x) g).came ≡ (of_generation e g).came
first_came e k x ok z nz q0 g = go (nat_eq g (suc e.generations)) refl
  where
    go : (c : Bool) → nat_eq g (suc e.generations) ≡ c → (of_generation (first_form e k x) g).came ≡ (of_generation e g).came
    go true q =
        let w : g ≡ suc e.generations = eqb-true g (suc e.generations) q in
        ap (λ n. (of_generation (first_form e k x) n).came) w ∙ ap (λ (v : Session). v.came) (first_new e k x) ∙ q0 ∙ sym (ap (λ (v : Session). v.came) (no_gen e ok g (omega (arith, w))))
    go false q = ap (λ (v : Session). v.came) (first_old e k x ok z nz g (eqb-false g (suc e.generations) q))
