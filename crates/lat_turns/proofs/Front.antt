-- How many items are written with so many bytes.
use Rattle.std.proofs.Common.{◌≡◌, ℕ, suc, ◌+◌, ◌-◌, ◌≤◌, List, [], ◌∷◌, ◌++◌, take, length, refl, sym, ap, ◌∙◌, arith}
use Rattle.std.specs.Prelude.{Bool, true, false, ◌==◌, if◌then◌else◌, Result, Ok, Err, IfOk}
use Rattle.std.proofs.lemmas.Bool.Decides.{nat_tests}
use Rattle.std.proofs.lemmas.List.{length-take-le}
use Rattle.std.proofs.Math.Seq.{take-nil}
use Rattle.lat_base.specs.declared.item.Item.{Item}
use Rattle.lat_base.specs.declared.item.Item.TheVariants as items
use Rattle.lat_outside.specs.declared.outside.Failed.{Failed}
use Rattle.lat_outside.specs.Visits.{VisitView, VisitsView, with_present, written_by}
use Rattle.lat_turns.specs.Written.{IsWhole, front_of, items_bytes, wrote_by}

take_more : {A : Type 0} → (n : ℕ) (x : A) (xs : List A) → take (n + 1) (x ∷ xs) ≡ x ∷ take n xs
take_more n x xs =
    let more : n + 1 ≡ suc n = omega arith in
    ap (λ m. take m (x ∷ xs)) more

at_byte : (k byte : ℕ) (rest : List Item) (z : Bool) → (k == 0) ≡ z → items_bytes (take (front_of (k - 1) rest) rest) ≡ take (k - 1) (items_bytes rest)
    → items_bytes (take (if z then 0 else front_of (k - 1) rest + 1) (items.Byte byte ∷ rest)) ≡ take k (byte ∷ items_bytes rest)
at_byte k byte rest true is ih =
    let none : 0 ≡ k = grind (arith, nat_tests, is) in
    ap (λ m. take m (byte ∷ items_bytes rest)) none
at_byte k byte rest false is ih =
    let more : suc (k - 1) ≡ k = grind (arith, nat_tests, is) in
    ap items_bytes (take_more (front_of (k - 1) rest) (items.Byte byte) rest) ∙ ap (λ w. byte ∷ w) ih ∙ ap (λ m. take m (byte ∷ items_bytes rest)) more

-- the items at the front up to the byte behind so many bytes have these bytes
pub front_bytes : (k : ℕ) (xs : List Item) → items_bytes (take (front_of k xs) xs) ≡ take k (items_bytes xs)
front_bytes k [] = sym (take-nil k)
front_bytes k (items.Set setting ∷ rest) = ap items_bytes (take_more (front_of k rest) (items.Set setting) rest) ∙ front_bytes k rest
front_bytes k (items.Byte byte ∷ rest) = at_byte k byte rest (k == 0) refl (front_bytes (k - 1) rest)

pub front_whole : (k n : ℕ) (xs : List Item) → k ≤ length (items_bytes xs) → n ≡ front_of k xs → IsWhole n xs
front_whole k n xs le is =
    let bytes : items_bytes (take n xs) ≡ take k (items_bytes xs) = ap (λ m. items_bytes (take m xs)) is ∙ front_bytes k xs in
    let count : length (items_bytes (take n xs)) ≡ k = ap length bytes ∙ length-take-le k (items_bytes xs) le in
    is ∙ ap (λ m. front_of m xs) (sym count)

pub front_written : (vs : VisitsView) (k n : ℕ) (piece : List ℕ) (xs : List Item) → piece ≡ items_bytes xs → n ≡ front_of k xs
    → with_present vs (written_by {E = Failed} (Ok k) piece) ≡ with_present vs (wrote_by {E = Failed} (Ok n) xs)
front_written vs k n piece xs same is =
    let bytes : take k piece ≡ items_bytes (take n xs) = ap (take k) same ∙ sym (front_bytes k xs) ∙ ap (λ m. items_bytes (take m xs)) (sym is) in
    let P : List ℕ → VisitsView = λ w. with_present vs (λ (v : VisitView). record v { written = v.written ++ w }) in
    ap P bytes

pub if_ok : {T E : Type 0} (P Q : T → Type 0) → ((x : T) → P x → Q x) → (r : Result T E) → IfOk r P → IfOk r Q
if_ok P Q f (Ok x) h = f x h
if_ok P Q f (Err e) h = tt
