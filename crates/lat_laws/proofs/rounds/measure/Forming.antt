-- Forming slots brings the sessions of an end further by as many.
use Rattle.std.proofs.Common.{◌≡◌, ◌≢◌, ℕ, zero, suc, ◌+◌, ◌<◌, ◌≤◌, ⊎_elim, sym, ap, ◌∙◌, refl, arith, Bool, true, false, not, cond, ◌&&◌, List, [], ◌∷◌, ◌++◌, length, take, Option, Some, None, nat_eq, nat_le, eqb-true, length-append}
use Rattle.std.proofs.lemmas.Bool.{cases_lt, eqb-false, true≢false}
use Rattle.lat_model.specs.sessions.Slots.{Item, Byte, Setting, Slot, DataA, DataB, Reject, Stop, is_attention, slot_len, turned, has_stop}
use Rattle.lat_model.specs.sessions.Session.{Session, answered, peer, unframed, due}
use Rattle.lat_model.specs.sessions.Sessions.{Sessions, of_generation}
use Rattle.lat_model.specs.sessions.Packing.{formed, first_form, next_form, form, tagged, Packing, turn_by, turn, turn_all, turns, pack}
use Rattle.lat_model.specs.sessions.Offers.{Offer, Nothing, Unfit, Offers, fit, start_of, leading, most_bytes, may_spend, bytes_offer, credit_offer, data_offer, stop_due, live_offer, reject_offer, start_offer, later_offer, offer}
use Rattle.lat_model.specs.Lists.{is_empty, updated}
use Rattle.lat_model.specs.sessions.EndOk.{EndOk}
use Rattle.lat_model.specs.sessions.MayForm.{MayForm}
use Rattle.lat_model.proofs.sessions.Words.{upd_same, upd_other}
use Rattle.lat_model.proofs.sessions.Forms.{formed_as, former_some, first_new, first_old}
use Rattle.lat_model.proofs.sessions.Offers.{Fine, offer_fine}
use Rattle.lat_model.proofs.sessions.Packs.{accepted_named}
use Rattle.lat_model.proofs.sessions.Alone.{turn_alone}
use Rattle.lat_laws.specs.rounds.Measure.{total, lasting, calm, weight, weights}
use Rattle.lat_laws.proofs.rounds.measure.Totals.{total_same, total_bump}

pub lasting-append : (xs ys : List Slot) → lasting (xs ++ ys) ≡ lasting xs + lasting ys
lasting-append [] ys = omega arith
lasting-append (x ∷ xs) ys = omega (arith, lasting-append xs ys)

-- an attention is offered where one waits

fit_calm : (room : ℕ) (y x : Slot) → is_attention y ≡ false → fit room y ≡ Offers x → is_attention x ≡ true → ⊥
fit_calm room y x n = go (nat_le (slot_len y) room)
  where
    go : (b : Bool) → cond b (Offers y) Unfit ≡ Offers x → is_attention x ≡ true → ⊥
    go true e a = let q : y ≡ x = cc in true≢false (sym a ∙ ap is_attention (sym q) ∙ n)
    go false e a = cc

credit_calm : (room n : ℕ) (s : Session) (x : Slot) → credit_offer room n s ≡ Offers x → is_attention x ≡ true → ⊥
credit_calm room zero s x e a = cc
credit_calm room (suc n) s x e a = fit_calm room (DataA (peer s) s.id (suc n) []) x refl e a

bytes_calm : (c : ℕ) (s : Session) (bs : List ℕ) (x : Slot) → bytes_offer c s bs ≡ Offers x → is_attention x ≡ true → ⊥
bytes_calm c s [] x e a = cc
bytes_calm c s (b ∷ bs) x e a = let q : DataA (peer s) s.id c (b ∷ bs) ≡ x = cc in true≢false (sym a ∙ ap is_attention (sym q))

data_calm : (c room : ℕ) (s : Session) (us : List Item) (x : Slot) → data_offer c room s us ≡ Offers x → is_attention x ≡ true → ⊥
data_calm c room s [] x e a = credit_calm room (due c s) s x e a
data_calm c room s (Byte b ∷ xs) x e a = go (may_spend s) e
  where
    go : (t : Bool) → cond t (bytes_offer (due c s) s (take (most_bytes room s) (leading (Byte b ∷ xs)))) (credit_offer room (due c s) s) ≡ Offers x → ⊥
    go true e = bytes_calm (due c s) s _ x e a
    go false e = credit_calm room (due c s) s x e a
data_calm c room s (Setting t ∷ xs) x e a = go (may_spend s) e
  where
    go : (b : Bool) → cond b (fit room (DataB (peer s) s.id (due c s) t)) (credit_offer room (due c s) s) ≡ Offers x → ⊥
    go true e = fit_calm room (DataB (peer s) s.id (due c s) t) x refl e a
    go false e = credit_calm room (due c s) s x e a

live_calm : (c room : ℕ) (s : Session) (o : Option ℕ) (x : Slot) → live_offer c room s o ≡ Offers x → is_attention x ≡ true → calm o ≡ 0
live_calm c room s (Some flag) x e a = refl
live_calm c room s None x e a = absurd (go (stop_due s) e)
  where
    go : (b : Bool) → cond b (fit room (Stop (peer s) s.id 1)) (data_offer c room s (unframed s)) ≡ Offers x → ⊥
    go true e = fit_calm room (Stop (peer s) s.id 1) x refl e a
    go false e = data_calm c room s (unframed s) x e a

start_calm : (m : Bool) (c : ℕ) (s : Session) → is_attention (start_of m c s) ≡ false
start_calm true c s = refl
start_calm false c s = refl

offer_calm : (m : Bool) (c room : ℕ) (s : Session) (x : Slot) → offer m c room s ≡ Offers x → is_attention x ≡ true → calm s.attention ≡ 0
offer_calm m c room s x e a = go s.rejects (is_empty s.out) e
  where
    rejects : (b : Bool) → cond b (fit room (Reject (peer s) 0 s.reason)) Nothing ≡ Offers x → calm s.attention ≡ 0
    rejects true e = absurd (fit_calm room (Reject (peer s) 0 s.reason) x refl e a)
    rejects false e = cc

    begins : (b : Bool) → cond b (fit room (start_of m c s)) Nothing ≡ Offers x → calm s.attention ≡ 0
    begins true e = absurd (fit_calm room (start_of m c s) x (start_calm m c s) e a)
    begins false e = cc

    later : (b : Bool) → cond b (live_offer c room s s.attention) Nothing ≡ Offers x → calm s.attention ≡ 0
    later true e = live_calm c room s s.attention x e a
    later false e = cc

    go : (r o : Bool) → cond r (reject_offer room s) (cond o (start_offer m c room s) (later_offer c room s)) ≡ Offers x → calm s.attention ≡ 0
    go true o e = rejects (is_empty s.out && not (is_empty s.came)) e
    go false true e = begins (s.accepted && not (turned s.came)) e
    go false false e = later (answered s && not (has_stop s.out)) e

-- one slot is one more

formed_weight : (s : Session) (n : ℕ) (x : Slot) → (is_attention x ≡ true → calm s.attention ≡ 0) → weight (formed_as s n x) ≡ suc (weight s)
formed_weight s n x h = go (is_attention x) refl
  where
    l : lasting (s.out ++ x ∷ []) ≡ lasting s.out + (cond (is_attention x) 0 1 + 0)
    l = lasting-append s.out (x ∷ [])

    go : (b : Bool) → is_attention x ≡ b → lasting (s.out ++ x ∷ []) + calm (cond b None s.attention) ≡ suc (lasting s.out + calm s.attention)
    go true q = let k : cond {A = ℕ} (is_attention x) 0 1 ≡ 0 = ap (λ b. cond b 0 1) q in omega (arith, l, k, h q)
    go false q = let k : cond {A = ℕ} (is_attention x) 0 1 ≡ 1 = ap (λ b. cond b 0 1) q in omega (arith, l, k)

first_more : (e : Sessions) (k : ℕ) (x : Slot) → EndOk e → (e.session k).generation ≡ 0 → MayForm e.master (e.session k) x → (is_attention x ≡ true → calm (e.session k).attention ≡ 0) → suc (weights e) ≤ weights (first_form e k x)
first_more e k x ok z may h =
    let n : weight (of_generation (first_form e k x) (suc e.generations)) ≡ suc (weight (e.session k)) = ap weight (first_new e k x) ∙ formed_weight (e.session k) (suc e.generations) x h in
    let o : total (λ g. weight (of_generation (first_form e k x) g)) e.generations ≡ total (λ g. weight (of_generation e g)) e.generations = total_same (λ g. weight (of_generation e g)) (λ g. weight (of_generation (first_form e k x) g)) e.generations (λ g l. ap weight (first_old e k x ok z (former_some e k x ok may) g (λ q. absurd (omega (arith, q, l))))) in
    omega (arith, n, o)

next_more : (e : Sessions) (k : ℕ) (x : Slot) → EndOk e → (e.session k).generation ≢ 0 → MayForm e.master (e.session k) x → (is_attention x ≡ true → calm (e.session k).attention ≡ 0) → suc (weights e) ≤ weights (next_form e k x)
next_more e k x ok nz may h = omega (arith, total_bump (λ g. weight (of_generation e g)) (λ g. weight (of_generation (next_form e k x) g)) i e.generations (pos i nz) most here there)
  where
    i : ℕ
    i = (e.session k).generation

    t : Session
    t = formed (e.session k) x

    pos : (n : ℕ) → (n ≡ 0 → ⊥) → 0 < n
    pos zero w = absurd (w refl)
    pos (suc n) w = omega arith

    at : e.serial_of i ≡ k
    at = ok.serial_found k nz

    most : i ≤ e.generations
    most = ⊎_elim {C = i ≤ e.generations} (λ w. absurd (former_some e k x ok may (sym at ∙ ok.serial_past i w))) (λ w. w) (cases_lt e.generations i)

    here : weight (updated e.session k t (e.serial_of i)) ≡ suc (weight (e.session (e.serial_of i)))
    here = ap (λ z. weight (updated e.session k t z)) at ∙ ap weight (upd_same e.session k t) ∙ formed_weight (e.session k) i x h ∙ ap (λ z. suc (weight (e.session z))) (sym at)

    there : (j : ℕ) → j ≢ i → weight (updated e.session k t (e.serial_of j)) ≡ weight (e.session (e.serial_of j))
    there j n = ap weight (upd_other e.session k t (e.serial_of j) (λ q. n (sym (ok.generation_found j (λ w. former_some e k x ok may (sym q ∙ w))) ∙ ap (λ z. (e.session z).generation) q)))

form_more : (e : Sessions) (k : ℕ) (x : Slot) → EndOk e → MayForm e.master (e.session k) x → (is_attention x ≡ true → calm (e.session k).attention ≡ 0) → suc (weights e) ≤ weights (form e k x)
form_more e k x ok may h = go (nat_eq (e.session k).generation 0) refl
  where
    go : (b : Bool) → nat_eq (e.session k).generation 0 ≡ b → suc (weights e) ≤ weights (cond b (first_form e k x) (next_form e k x))
    go true q = first_more e k x ok (eqb-true (e.session k).generation 0 q) may h
    go false q = next_more e k x ok (eqb-false (e.session k).generation 0 q) may h

turn_more : (p : Packing) (k : ℕ) → EndOk p.after → weights p.after + length (turn p k).slots ≤ weights (turn p k).after + length p.slots
turn_more p k ok = go p.going (offer p.after.master p.after.ceiling p.room (p.after.session k)) refl
  where
    go : (b : Bool) (o : Offer) → offer p.after.master p.after.ceiling p.room (p.after.session k) ≡ o → weights p.after + length (cond b (turn_by p k o) p).slots ≤ weights (cond b (turn_by p k o) p).after + length p.slots
    go true Nothing e = omega arith
    go true Unfit e = omega arith
    go true (Offers x) e =
        let f : Fine p.after.master p.after.ceiling (p.after.session k) x = offer_fine p.after.master p.after.ceiling p.room (p.after.session k) x (ok.each k) (ok.accounts k) (accepted_named p.after k ok) e in
        let l : length (p.slots ++ tagged p.after k x ∷ []) ≡ length p.slots + length (tagged p.after k x ∷ []) = length-append p.slots (tagged p.after k x ∷ []) in
        let w : suc (weights p.after) ≤ weights (form p.after k x) = form_more p.after k x ok f.may (offer_calm p.after.master p.after.ceiling p.room (p.after.session k) x e) in
        omega (arith, l, w)
    go false o e = omega arith

turns_more : (ks : List ℕ) (p : Packing) → EndOk p.after → weights p.after + length (turn_all ks p).slots ≤ weights (turn_all ks p).after + length p.slots
turns_more [] p ok = omega arith
turns_more (k ∷ ks) p ok = omega (arith, turn_more p k ok, turns_more ks (turn p k) (turn_alone p k ok))

-- a message brings them further by as many slots as it has
pub pack_more : (room : ℕ) (e : Sessions) → EndOk e → weights e + length (pack room e).slots ≤ weights (pack room e).after
pack_more room e ok = omega (arith, turns_more (turns e) (record { after = e; slots = []; room = room; left = 255; going = true }) ok)
