-- The draws of a generated schedule.
use Rattle.std.specs.Prelude.{ℕ, zero, suc, ◌+◌, ◌*◌, ◌/◌, ◌%◌, ◌^◌, List, [], ◌∷◌}
use Rattle.lat_cmd.specs.declared.generate.generator.Generator.{Generator}

-- what is drawn, with the generator behind it
abbrev pub Drawn : Type 0 → Type 0
Drawn A = A × Generator

-- what is drawn next may rest on what was drawn before
infixl 10 ◌>>=◌
abbrev pub ◌>>=◌ : {A B : Type 0} → Drawn A → (A → Generator → Drawn B) → Drawn B
drawn >>= f = f drawn.0 drawn.1

-- the number behind a number
abbrev pub next : ℕ → ℕ
next x = (x * 6364136223846793005 + 1442695040888963407) % 2 ^ 64

-- a number below m
unfoldable pub below : ℕ → Generator → Drawn ℕ
below m g = (next g.drawn / 2 ^ 33 % m, record g { drawn = next g.drawn })

-- a line, 1 to 8
unfoldable pub line : Generator → Drawn ℕ
line g = below 8 g >>= λ n g. (1 + n, g)

-- a byte before others
abbrev pub before : ℕ → Drawn (List ℕ) → Drawn (List ℕ)
before b drawn = (b ∷ drawn.0, drawn.1)

-- so many bytes
unfoldable pub so_many : ℕ → Generator → Drawn (List ℕ)
so_many zero g = ([], g)
so_many (suc n) g = before (below 256 g).0 (so_many n (below 256 g).1)

-- 1 to m bytes: first their number, then each of them
unfoldable pub bytes : ℕ → Generator → Drawn (List ℕ)
bytes m g = below m g >>= λ n g. so_many (1 + n) g
