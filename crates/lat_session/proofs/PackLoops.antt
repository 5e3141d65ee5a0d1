-- The steps of the loops of packing.
use Rattle.std.proofs.Common.{◌≡◌, ℕ, suc, ◌+◌, ◌-◌, ◌<◌, ◌≤◌, sym, ap, ◌∙◌, arith, Bool, true, false, cond, List, [], ◌∷◌, length, map, get_or, take, drop, length-drop, length-take-le}
use Rattle.std.specs.List.{remove}
use Rattle.std.proofs.lemmas.List.{take_more, drop-drop, drop_at, get_or-drop}
use Rattle.lat_model.specs.Lists.{upwards}
use Rattle.lat_model.specs.sessions.Packing.{Packing, turn, turn_all}
use Rattle.lat_session.specs.Packed.{open_serials}
use Rattle.lat_session.proofs.PackAll.{turn_all-append, turn_all-at_id, turns_more}

-- the turns of the ids behind `from`, up to the one behind `at`
pub ids_more : (p : Packing) (from at : ℕ) → from ≤ at →
    turn (turn_all (map p.after.at_id (upwards from (at - from))) p) ((turn_all (map p.after.at_id (upwards from (at - from))) p).after.at_id (at + 1)) ≡ turn_all (map p.after.at_id (upwards from (at + 1 - from))) p
ids_more p from at l =
    let ks : List ℕ = map p.after.at_id (upwards from (at - from)) in
    ap (λ (f : ℕ → ℕ). turn (turn_all ks p) (f (at + 1))) (turn_all-at_id ks p)
    ∙ sym (turns_more p.after.at_id from (at - from) (at + 1) p (omega (arith, l)))
    ∙ ap (λ n. turn_all (map p.after.at_id (upwards from n)) p) count
  where
    count : at - from + 1 ≡ at + 1 - from
    count = omega (arith, l)

with_none : (n : ℕ) → n ≡ n + 0
with_none n = omega arith

-- the first of what is left
first_left : (xs ks : List ℕ) (at c : ℕ) → drop at xs ≡ drop c ks → get_or xs at 0 ≡ get_or ks c 0
first_left xs ks at c e =
    ap (λ n. get_or xs n 0) (with_none at) ∙ sym (get_or-drop at xs 0 0) ∙ ap (λ z. get_or z 0 0) e ∙ get_or-drop c ks 0 0 ∙ ap (λ n. get_or ks n 0) (sym (with_none c))

pub asks_more : (p : Packing) (ks : List ℕ) (c at : ℕ) → c < length ks → drop at (open_serials (turn_all (take c ks) p).after) ≡ drop c ks → turn (turn_all (take c ks) p) (get_or (open_serials (turn_all (take c ks) p).after) at 0) ≡ turn_all (take (c + 1) ks) p
asks_more p ks c at l e =
    ap (turn (turn_all (take c ks) p)) (first_left (open_serials (turn_all (take c ks) p).after) ks at c e)
    ∙ sym (turn_all-append (take c ks) (get_or ks c 0 ∷ []) p)
    ∙ ap (λ z. turn_all z p) (sym (take_more ks c 0 l))

one_more : (n : ℕ) → suc n ≡ n + 1
one_more n = omega arith

-- the place goes on where the ask stays
pub asks_left : (xs ks : List ℕ) (c at : ℕ) (sent : Bool) → c < length ks → drop at xs ≡ drop c ks → drop (cond sent at (at + 1)) (cond sent (remove xs at) xs) ≡ drop (c + 1) ks
asks_left xs ks c at true l e =
    let less : at ≤ length xs = omega (arith, ap length e, length-drop at xs, length-drop c ks) in
    drop_at (take at xs) (drop (suc at) xs) at (length-take-le at xs less) ∙ ap (λ n. drop n xs) (one_more at) ∙ sym (drop-drop 1 at xs) ∙ ap (drop 1) e ∙ drop-drop 1 c ks
asks_left xs ks c at false l e = sym (drop-drop 1 at xs) ∙ ap (drop 1) e ∙ drop-drop 1 c ks
