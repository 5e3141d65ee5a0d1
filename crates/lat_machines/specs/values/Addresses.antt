-- Addresses as numbers.
use Rattle.std.specs.Prelude.{ℕ, ◌+◌, ◌*◌, List, [], ◌∷◌}

-- An address is the number of its six bytes, the first one highest
abbrev pub address : List ℕ → ℕ
address bytes = go 0 bytes
  where
    go : ℕ → List ℕ → ℕ
    go n [] = n
    go n (b ∷ bs) = go (256 * n + b) bs

-- 09-00-2B-00-00-0F
abbrev pub everyone : ℕ
everyone = 9896326070287
