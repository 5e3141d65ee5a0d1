-- Settings that were heard and not taken: each stands in a held slot of its own.
use Rattle.std.proofs.Common.{◌≡◌, ℕ, zero, suc, ◌+◌, ◌-◌, ◌<◌, ◌≤◌, sym, ap, ◌∙◌, refl, arith, Bool, true, false, cond, List, [], ◌∷◌, ◌++◌, map, length, drop, nat_lt, ltb-true, ltb-false, drop-drop}
use Rattle.std.proofs.lemmas.List.{map-append, drop-append-le, drop_at}
use Rattle.lat_model.specs.sessions.Slots.{Byte, Slot, Start, DataA, DataB, Attention, Reject, Stop, items_of, items, credits, costs}
use Rattle.lat_model.specs.sessions.Session.{Session, held_from, held_slots}
use Rattle.lat_model.specs.sessions.EndOk.{Accounts}
use Rattle.lat_stream.specs.Kept.{stream_of, item_of}
use Rattle.lat_stream.specs.RingItems.{settings_in}
use Rattle.lat_stream.proofs.RingItems.{settings-append}

no_item : (n : ℕ) → settings_in (map item_of (drop n [])) ≡ 0
no_item zero = refl
no_item (suc n) = refl

bytes_only : (n : ℕ) (bs : List ℕ) → settings_in (map item_of (drop n (map Byte bs))) ≡ 0
bytes_only n [] = no_item n
bytes_only zero (b ∷ bs) = bytes_only zero bs
bytes_only (suc n) (b ∷ bs) = bytes_only n bs

one_at_most : (x : Slot) (n : ℕ) → settings_in (map item_of (drop n (items_of x))) ≤ 1
one_at_most (Start to from k size service request) n = omega (arith, no_item n)
one_at_most (DataA to from k bytes) n = omega (arith, bytes_only n bytes)
one_at_most (DataB to from k t) zero = omega arith
one_at_most (DataB to from k t) (suc n) = omega (arith, no_item n)
one_at_most (Attention to from flag) n = omega (arith, no_item n)
one_at_most (Reject to from reason) n = omega (arith, no_item n)
one_at_most (Stop to from reason) n = omega (arith, no_item n)

settings_held : (n : ℕ) (xs : List Slot) → settings_in (map item_of (drop n (items xs))) ≤ held_from n xs
settings_held n [] = omega (arith, no_item n)
settings_held n (x ∷ xs) = go (nat_lt n l) refl (settings_held (n - l) xs)
  where
    l : ℕ
    l = length (items_of x)

    go : (b : Bool) → nat_lt n l ≡ b → settings_in (map item_of (drop (n - l) (items xs))) ≤ held_from (n - l) xs → settings_in (map item_of (drop n (items_of x ++ items xs))) ≤ cond b 1 0 + held_from (n - l) xs
    go true e ih =
        let z : n - l ≡ 0 = omega (arith, ltb-true n l e) in
        let cut : settings_in (map item_of (drop n (items_of x ++ items xs))) ≡ settings_in (map item_of (drop n (items_of x)) ++ map item_of (items xs)) =
        ap (λ t. settings_in (map item_of t)) (drop-append-le n (items_of x) (items xs) (omega (arith, ltb-true n l e)))
        ∙ ap settings_in (map-append item_of (drop n (items_of x)) (items xs)) in
        let rest : settings_in (map item_of (drop (n - l) (items xs))) ≡ settings_in (map item_of (items xs)) = ap (λ k. settings_in (map item_of (drop k (items xs)))) z in
        omega (arith, cut, settings-append (map item_of (drop n (items_of x))) (map item_of (items xs)), one_at_most x n, rest, ih)
    go false e ih =
        let m : l + (n - l) ≡ n = omega (arith, ltb-false n l e) in
        let cut : settings_in (map item_of (drop (n - l) (items xs))) ≡ settings_in (map item_of (drop n (items_of x ++ items xs))) =
        ap (λ t. settings_in (map item_of (drop (n - l) t))) (sym (drop_at (items_of x) (items xs) l refl))
        ∙ ap (λ t. settings_in (map item_of t)) (drop-drop (n - l) l (items_of x ++ items xs) ∙ ap (λ k. drop k (items_of x ++ items xs)) m) in
        omega (arith, cut, ih)

-- where a credit is left, fewer wait than slots may be held
pub room_for_setting : (m : Bool) (c : ℕ) (s : Session) → c ≤ 15 → Accounts c s → costs s.came + 1 ≤ credits s.out → settings_in (stream_of m c s).heard < 15
room_for_setting m c s most ac fit = go s.closed refl
  where
    go : (b : Bool) → s.closed ≡ b → settings_in (cond b [] (map item_of (drop s.taken (items s.came)))) < 15
    go true q = omega arith
    go false q =
        let held : held_slots s ≡ held_from s.taken s.came = ap (λ b. cond b 0 (held_from s.taken s.came)) q in
        omega (arith, held, settings_held s.taken s.came, ac.gives, fit, most)
