-- Words about lists, and about maps from numbers.
use Rattle.std.specs.Prelude.{◌≡◌, ℕ, suc, Bool, true, false, cond, List, [], ◌∷◌, ◌++◌, zero, ◌||◌, nat_eq}

abbrev pub is_empty {ℓ} : {A : Type ℓ} → List A → Bool
is_empty [] = true
is_empty (x ∷ xs) = false

abbrev pub updated {ℓ} : {A : Type ℓ} → (ℕ → A) → ℕ → A → ℕ → A
updated f k a j = cond (nat_eq j k) a (f j)

-- some serial from 1 to n passes
abbrev pub any_up_to : (ℕ → Bool) → ℕ → Bool
any_up_to p zero = false
any_up_to p (suc n) = p (suc n) || any_up_to p n

-- the numbers from n + 1 on, k of them
abbrev pub upwards : ℕ → ℕ → List ℕ
upwards n zero = []
upwards n (suc k) = suc n ∷ upwards (suc n) k

abbrev pub keep : (ℕ → Bool) → List ℕ → List ℕ
keep p [] = []
keep p (x ∷ xs) = cond (p x) (x ∷ keep p xs) (keep p xs)

-- the least free id; 0 where there is none
abbrev pub least : (ℕ → Bool) → List ℕ → ℕ
least p [] = 0
least p (x ∷ xs) = cond (p x) x (least p xs)

abbrev pub Each : {X : Type 0} → (X → Type 0) → List X → Type 0
Each P [] = Unit {0}
Each P (x ∷ xs) = P x × Each P xs

abbrev pub IsPrefixOf : {X : Type 0} → List X → List X → Type 0
IsPrefixOf {X} xs ys = (rest : List X) × (xs ++ rest ≡ ys)
