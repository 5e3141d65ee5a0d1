-- The numbers of a node's requests.
use Rattle.std.specs.Prelude.{ℕ, ◌+◌, ◌<◌, ◌==◌, if◌then◌else◌, List, [], ◌∷◌, Option, Some, None, zero, suc}
use Rattle.lat_mind.specs.Good.{Each}

-- the number that is drawn where this was the last one
abbrev pub number_drawn : ℕ → Option ℕ
number_drawn last = if last == 65535 then None else Some (last + 1)

abbrev pub numbers_after : ℕ → ℕ
numbers_after last = if last == 65535 then last else last + 1

abbrev pub with_number : Option ℕ → List ℕ → List ℕ
with_number (Some n) ns = n ∷ ns
with_number None ns = ns

-- what so many draws give, where this was the last number before
abbrev pub drawn_in : ℕ → ℕ → List ℕ
drawn_in zero last = []
drawn_in (suc count) last = with_number (number_drawn last) (drawn_in count (numbers_after last))

-- each is below all that follow it
abbrev pub Rising : List ℕ → Type 0
Rising [] = Unit {0}
Rising (n ∷ ns) = Each (λ m. n < m) ns × Rising ns

-- each number that is drawn is above all that were drawn before, so none comes twice
abbrev pub NumbersAreNew : Type 0
NumbersAreNew = (count last : ℕ) → Each (λ n. last < n) (drawn_in count last) × Rising (drawn_in count last)
