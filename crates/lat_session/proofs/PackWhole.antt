-- A whole packing: the rejects, and the ids once round.
use Rattle.std.proofs.Common.{◌≡◌, ℕ, zero, suc, ◌+◌, ◌-◌, ◌<◌, ◌≤◌, sym, ap, ◌∙◌, refl, arith, true, false, List, [], ◌++◌, map, append-nil}
use Rattle.std.proofs.lemmas.List.{map-append}
use Rattle.lat_model.specs.Lists.{upwards}
use Rattle.lat_model.specs.sessions.Session.{free}
use Rattle.lat_model.specs.sessions.Sessions.{Sessions, named}
use Rattle.lat_model.specs.sessions.Packing.{Packing, turn, turn_all, pack, waiting_rejects}
use Rattle.lat_session.specs.Table.{Table}
use Rattle.lat_session.specs.Stands.{Stands}
use Rattle.lat_session.specs.Packed.{Packed, NoRejects}
use Rattle.lat_session.proofs.PackIds.{turn_free}
use Rattle.lat_session.proofs.PackAll.{turn_all-append, turn_all-at_id, turns_stay, upwards-append}

-- nothing is packed yet
abbrev pub empty : ℕ → Sessions → Packing
empty room e = record { after = e; slots = []; room = room; left = 255; going = true }

pub begins : (t : Table) (e : Sessions) (room : ℕ) (payload : List ℕ) → Stands t e → Packed payload t (record { room = room; formed = 0; ended = false }) payload (empty room e)
begins t e room payload st = record { stands = st; room = refl; formed = refl; left = refl; going = refl; text = sym (append-nil payload); slots = tt }

-- ids without a session have no turn
past_ids : (n : ℕ) (f : ℕ → ℕ) (a m : ℕ) (p : Packing) → ((i : ℕ) → n < i → free (p.after.session (f i)) ≡ true) → n ≤ a → NoRejects p → turn_all (map f (upwards a m)) p ≡ p
past_ids n f a zero p w l r = refl
past_ids n f a (suc m) p w l r =
    let none : turn p (f (suc a)) ≡ p = turn_free p (f (suc a)) r (w (suc a) (omega (arith, l))) in
    ap (turn_all (map f (upwards (suc a) m))) none ∙ past_ids n f (suc a) m p w (omega (arith, l)) r

abbrev pub after_rejects : ℕ → Sessions → Packing
after_rejects room e = turn_all (waiting_rejects e) (empty room e)

abbrev pub after_ids : Packing → (from to : ℕ) → Packing
after_ids p from to = turn_all (map p.after.at_id (upwards from (to - from))) p

-- behind n no id has a session
pub whole : (e : Sessions) (room n s : ℕ) → s ≡ e.served → s ≤ n → n ≤ 64 → ((i : ℕ) → n < i → free (named e i) ≡ true) →
    NoRejects (after_ids (after_rejects room e) s n) → after_ids (after_ids (after_rejects room e) s n) 0 s ≡ pack room e
whole e room n s q l h w none =
    let p0 : Packing = empty room e in
    let p1 : Packing = after_rejects room e in
    let p2 : Packing = after_ids p1 s n in
    let at1 : p1.after.at_id ≡ e.at_id = turn_all-at_id (waiting_rejects e) p0 in
    let at2 : p2.after.at_id ≡ e.at_id = turn_all-at_id (map p1.after.at_id (upwards s (n - s))) p1 ∙ at1 in
    let rests : (i : ℕ) → n < i → free (p2.after.session (e.at_id i)) ≡ true =
    λ i b. turns_stay (map p1.after.at_id (upwards s (n - s))) p1 (e.at_id i) (turns_stay (waiting_rejects e) p0 (e.at_id i) (w i b)) in
    let past : turn_all (map e.at_id (upwards n (64 - n))) p2 ≡ p2 = past_ids n e.at_id n (64 - n) p2 rests (omega arith) none in
    let count : 64 - s ≡ (n - s) + (64 - n) = omega (arith, l, h) in
    let start : s + (n - s) ≡ n = omega (arith, l) in
    let split : upwards s (64 - s) ≡ upwards s (n - s) ++ upwards n (64 - n) = ap (upwards s) count ∙ upwards-append s (n - s) (64 - n) ∙ ap (λ a. upwards s (n - s) ++ upwards a (64 - n)) start in
    let first : turn_all (map e.at_id (upwards s (64 - s))) p1 ≡ p2 =
    ap (λ z. turn_all (map e.at_id z) p1) split
    ∙ ap (λ z. turn_all z p1) (map-append e.at_id (upwards s (n - s)) (upwards n (64 - n)))
    ∙ turn_all-append (map e.at_id (upwards s (n - s))) (map e.at_id (upwards n (64 - n))) p1
    ∙ ap (turn_all (map e.at_id (upwards n (64 - n)))) (ap (λ (f : ℕ → ℕ). turn_all (map f (upwards s (n - s))) p1) (sym at1))
    ∙ past in
    let none_less : s - 0 ≡ s = omega arith in
    let all : pack room e ≡ turn_all (map e.at_id (upwards 0 s)) p2 =
    ap (λ z. turn_all (waiting_rejects e ++ map e.at_id (upwards z (64 - z) ++ upwards 0 z)) p0) (sym q)
    ∙ turn_all-append (waiting_rejects e) (map e.at_id (upwards s (64 - s) ++ upwards 0 s)) p0
    ∙ ap (λ z. turn_all z p1) (map-append e.at_id (upwards s (64 - s)) (upwards 0 s))
    ∙ turn_all-append (map e.at_id (upwards s (64 - s))) (map e.at_id (upwards 0 s)) p1
    ∙ ap (turn_all (map e.at_id (upwards 0 s))) first in
    ap (λ (f : ℕ → ℕ). turn_all (map f (upwards 0 (s - 0))) p2) at2 ∙ ap (λ z. turn_all (map e.at_id (upwards 0 z)) p2) none_less ∙ sym all
