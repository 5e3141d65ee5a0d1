-- A datagram is what its parts are.
use Rattle.std.proofs.Common.{◌≡◌, ℕ, List, [], ◌∷◌, ◌++◌, length, take, drop, sym, ap, ap₂, ◌∙◌, subst, ◌⊎◌, inl, inr}
use Rattle.std.proofs.lemmas.List.{take-append-drop}
use Rattle.std.proofs.Math.Seq.{take-append_seam, drop-append_seam}
use Rattle.lat_udp.specs.Datagrams.{datagram, IsFor, IsSentTo}

both : (n : ℕ) (xs front back : List ℕ) → front ≡ take n xs → back ≡ drop n xs → xs ≡ front ++ back
both n xs front back f b = sym (take-append-drop n xs) ∙ ap₂ (λ (x y : List ℕ). x ++ y) (sym f) (sym b)

whole : (to from kind payload bytes one two : List ℕ) → bytes ≡ to ++ one → one ≡ from ++ two → two ≡ kind ++ payload → kind ≡ 96 ∷ 4 ∷ [] → bytes ≡ datagram to from payload
whole to from kind payload bytes one two a b c k = a ∙ ap (λ x. to ++ x) (b ∙ ap (λ x. from ++ x) (c ∙ ap (λ x. x ++ payload) k))

pub is_for : (own every to from kind payload bytes one two : List ℕ) → to ≡ take 6 bytes → one ≡ drop 6 bytes → from ≡ take 6 one → two ≡ drop 6 one → kind ≡ take 2 two → payload ≡ drop 2 two
    → kind ≡ 96 ∷ 4 ∷ [] → (to ≡ own) ⊎ (to ≡ every) → IsFor own every from payload bytes
is_for own every to from kind payload bytes one two a1 a2 b1 b2 c1 c2 k (inl h) =
    inl (whole to from kind payload bytes one two (both 6 bytes to one a1 a2) (both 6 one from two b1 b2) (both 2 two kind payload c1 c2) k ∙ ap (λ x. datagram x from payload) h)
is_for own every to from kind payload bytes one two a1 a2 b1 b2 c1 c2 k (inr h) =
    inr (whole to from kind payload bytes one two (both 6 bytes to one a1 a2) (both 6 one from two b1 b2) (both 2 two kind payload c1 c2) k ∙ ap (λ x. datagram x from payload) h)

front_is : (n : ℕ) (xs ys : List ℕ) → length xs ≡ n → take n (xs ++ ys) ≡ xs
front_is n xs ys e = subst (λ k. take k (xs ++ ys) ≡ xs) e (take-append_seam xs ys)

behind_is : (n : ℕ) (xs ys : List ℕ) → length xs ≡ n → drop n (xs ++ ys) ≡ ys
behind_is n xs ys e = subst (λ k. drop k (xs ++ ys) ≡ ys) e (drop-append_seam xs ys)

-- the type of a datagram, and whom it is sent to
kind_at : (to from payload bytes : List ℕ) → length to ≡ 6 → length from ≡ 6 → bytes ≡ datagram to from payload → (take 6 bytes ≡ to) × (take 2 (drop 6 (drop 6 bytes)) ≡ 96 ∷ 4 ∷ [])
kind_at to from payload bytes a b e =
    let rest : drop 6 bytes ≡ from ++ 96 ∷ 4 ∷ payload = ap (λ x. drop 6 x) e ∙ behind_is 6 to (from ++ 96 ∷ 4 ∷ payload) a in
    (ap (λ x. take 6 x) e ∙ front_is 6 to (from ++ 96 ∷ 4 ∷ payload) a, ap (λ x. take 2 (drop 6 x)) rest ∙ ap (λ x. take 2 x) (behind_is 6 from (96 ∷ 4 ∷ payload) b))

pub told : (own every to kind bytes one two : List ℕ) → length own ≡ 6 → length every ≡ 6 → to ≡ take 6 bytes → one ≡ drop 6 bytes → two ≡ drop 6 one → kind ≡ take 2 two → IsSentTo own every bytes → (kind ≡ 96 ∷ 4 ∷ []) × ((to ≡ own) ⊎ (to ≡ every))
told own every to kind bytes one two a b t o w k s = go s.sent
  where
    kind_is : take 2 (drop 6 (drop 6 bytes)) ≡ 96 ∷ 4 ∷ [] → kind ≡ 96 ∷ 4 ∷ []
    kind_is e = k ∙ ap (λ x. take 2 x) (w ∙ ap (λ x. drop 6 x) o) ∙ e

    go : IsFor own every s.from s.payload bytes → (kind ≡ 96 ∷ 4 ∷ []) × ((to ≡ own) ⊎ (to ≡ every))
    go (inl e) = let at = kind_at own s.from s.payload bytes a s.address e in (kind_is at.1, inl (t ∙ at.0))
    go (inr e) = let at = kind_at every s.from s.payload bytes b s.address e in (kind_is at.1, inr (t ∙ at.0))
