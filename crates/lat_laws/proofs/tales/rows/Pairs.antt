-- Rows beside their sessions.
use Rattle.std.proofs.Common.{◌≡◌, ℕ, zero, suc, ◌+◌, ◌<◌, inl, inr, refl, ap, arith, List, [], ◌∷◌, ◌++◌, length}
use Rattle.lat_machines.specs.cores.Cores.{Seat}
use Rattle.lat_laws.specs.tales.Rows.{RowAfter, Pairs}
use Rattle.lat_laws.specs.tales.Keeping.{change}
use Rattle.lat_laws.proofs.tales.mates.Places.{IsAt, at_above}

pub pairs_each : (P Q : Seat → RowAfter → Type 0) (n : ℕ) (ss : List Seat) (rs : List RowAfter) → ((s : Seat) (r : RowAfter) (j : ℕ) → IsAt s j n ss → P s r → Q s r) → Pairs P ss rs → Pairs Q ss rs
pairs_each P Q n [] rs h p = p
pairs_each P Q n (s ∷ ss) [] h p = absurd p
pairs_each P Q n (s ∷ ss) (r ∷ rs) h p = (h s r (suc n) (inl (refl, refl)) p.0, pairs_each P Q (suc n) ss rs (λ t v j i. h t v j (inr i)) p.1)

pub record Changed (Q : Seat → RowAfter → Type 0) (s : Seat) (r : RowAfter) (f : RowAfter → RowAfter) (j k : ℕ) : Type 0 where
  pub here : j ≡ k → Q s (f r)
  pub else : (j ≡ k → ⊥) → Q s r

pub pairs_change : (P Q : Seat → RowAfter → Type 0) (f : RowAfter → RowAfter) (k n : ℕ) (ss : List Seat) (rs : List RowAfter) → ((s : Seat) (r : RowAfter) (j : ℕ) → IsAt s j n ss → P s r → Changed Q s r f j (n + k)) → Pairs P ss rs → Pairs Q ss (change k f rs)
pairs_change P Q f zero n ss rs h p = pairs_each P Q n ss rs (λ s r j i q. (h s r j i q).else (λ e. let l : n < j = at_above s j n ss i in absurd (omega (arith, l, e)))) p
pairs_change P Q f (suc k) n [] [] h p = refl
pairs_change P Q f (suc k) n [] (r ∷ rs) h p = let z : ⊥ = cc in absurd z
pairs_change P Q f (suc k) n (s ∷ ss) [] h p = absurd p
pairs_change P Q f (suc zero) n (s ∷ ss) (r ∷ rs) h p = (
  (h s r (suc n) (inl (refl, refl)) p.0).here (omega arith),
  pairs_each P Q (suc n) ss rs (λ t v j i q. (h t v j (inr i) q).else (λ e. let l : suc n < j = at_above t j (suc n) ss i in absurd (omega (arith, l, e)))) p.1,
)
pairs_change P Q f (suc (suc k)) n (s ∷ ss) (r ∷ rs) h p = (
  (h s r (suc n) (inl (refl, refl)) p.0).else (λ e. absurd (omega (arith, e))),
  pairs_change P Q f (suc k) (suc n) ss rs (λ t v j i q. let c : Changed Q t v f j (n + suc (suc k)) = h t v j (inr i) q in record { here = λ e. c.here (omega (arith, e)); else = λ e. c.else (λ z. e (omega (arith, z))) }) p.1,
)

pub pairs_more : (P : Seat → RowAfter → Type 0) (ss : List Seat) (rs : List RowAfter) (s : Seat) (r : RowAfter) → Pairs P ss rs → P s r → Pairs P (ss ++ s ∷ []) (rs ++ r ∷ [])
pairs_more P [] [] s r p q = (q, refl)
pairs_more P [] (x ∷ xs) s r p q = let z : ⊥ = cc in absurd z
pairs_more P (t ∷ ts) [] s r p q = absurd p
pairs_more P (t ∷ ts) (x ∷ xs) s r p q = (p.0, pairs_more P ts xs s r p.1 q)

pub pairs_length : (P : Seat → RowAfter → Type 0) (ss : List Seat) (rs : List RowAfter) → Pairs P ss rs → length rs ≡ length ss
pairs_length P [] rs p = ap length p
pairs_length P (s ∷ ss) [] p = absurd p
pairs_length P (s ∷ ss) (r ∷ rs) p = ap suc (pairs_length P ss rs p.1)
