-- The first bytes of a put, and the pieces so far.
use Rattle.std.proofs.Common.{◌≡◌, ℕ, zero, suc, ◌+◌, ◌≤◌, refl, sym, ap, ◌∙◌, List, [], ◌∷◌, ◌++◌, length, take, drop, length-drop, ◌-◌, arith, append_assoc}
use Rattle.lat_switch.specs.declared.piece.Piece.{Piece}
use Rattle.lat_switch.specs.Pieces.{pieces_of}

take_all : (n : ℕ) (xs : List ℕ) → length xs ≤ n → xs ≡ take n xs
take_all zero [] h = refl
take_all zero (x ∷ xs) h = absurd (omega arith)
take_all (suc n) [] h = refl
take_all (suc n) (x ∷ xs) h = ap (λ z. x ∷ z) (take_all n xs (omega arith))

-- all are read of a put that isn't longer
pub whole : (xs : List ℕ) → length xs ≤ 65535 → xs ≡ take 65535 xs
whole xs h = take_all 65535 xs h

-- what stands behind a place
pub rest_is : (at : ℕ) (bytes : List ℕ) → take (length bytes - at) (drop at bytes) ≡ drop at bytes
rest_is at bytes = sym (take_all (length bytes - at) (drop at bytes) (omega (arith, length-drop at bytes)))

drop_more : (n m k : ℕ) (xs : List ℕ) → k ≡ n + m → drop m (drop n xs) ≡ drop k xs
drop_more zero m k xs e = ap (drop m) (none xs) ∙ ap (λ z. drop z xs) (let q : m ≡ k = omega arith in q)
  where
    none : (xs : List ℕ) → drop 0 xs ≡ xs
    none [] = refl
    none (x ∷ xs) = refl
drop_more (suc n) m k [] e = nil m ∙ sym (nil k)
  where
    nil : (j : ℕ) → drop {A = ℕ} j [] ≡ []
    nil zero = refl
    nil (suc j) = refl
drop_more (suc n) m zero (x ∷ xs) e = absurd (omega arith)
drop_more (suc n) m (suc k) (x ∷ xs) e = drop_more n m k xs (omega arith)

-- one piece more
pub pieces_more : (items new : List Piece) (p : Piece) (at size : ℕ) (bytes : List ℕ)
    → new ≡ items ++ p ∷ []
    → pieces_of (drop at bytes) ≡ p ∷ pieces_of (drop size (drop at bytes))
    → items ++ pieces_of (drop at bytes) ≡ pieces_of bytes
    → new ++ pieces_of (drop (at + size) bytes) ≡ pieces_of bytes
pieces_more items new p at size bytes e first so_far =
    ap (λ z. z ++ pieces_of (drop (at + size) bytes)) e
    ∙ append_assoc items (p ∷ []) (pieces_of (drop (at + size) bytes))
    ∙ ap (λ z. items ++ p ∷ pieces_of z) (sym (drop_more at size (at + size) bytes refl))
    ∙ ap (λ z. items ++ z) (sym first)
    ∙ so_far
