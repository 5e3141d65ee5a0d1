-- The ids of a core's circuits. The first circuit that is drawn has a chosen id; each next one has the id behind it, and 1
-- comes behind 65,535. A core draws 65,535 at most. What it would draw behind them is said too, so that no id comes twice.
use Rattle.std.specs.Prelude.{◌≡◌, ℕ, suc, ◌+◌, ◌-◌, ◌<◌, Bool, true, cond, ◌&&◌, ◌||◌, List, [], ◌∷◌, ◌++◌, min, nat_eq, nat_lt, nat_le}
use Rattle.lat_model.specs.Lists.{upwards}
use Rattle.lat_model.specs.circuits.World.{Table}

-- how many ids there are from the first one up to 65,535
abbrev pub ids_up : ℕ → ℕ
ids_up first = 65535 - (first - 1)

-- how many of the first n ids came behind 65,535
abbrev pub ids_round : ℕ → ℕ → ℕ
ids_round first n = min n 65535 - ids_up first

-- the id that is drawn when n have been
abbrev pub id_behind : ℕ → ℕ → ℕ
id_behind first n = cond (nat_lt n (ids_up first)) (suc (first - 1 + n)) (cond (nat_lt n 65535) (suc (n - ids_up first)) (suc n))

-- the n ids that are drawn first, by rising number
abbrev pub ids_of : ℕ → ℕ → List ℕ
ids_of first n = upwards 0 (ids_round first n) ++ (upwards (first - 1) (min (ids_up first) n) ++ upwards 65535 (n - 65535))

-- each above the one before it, and the first above n
abbrev pub Rises : ℕ → List ℕ → Type 0
Rises n [] = Unit {0}
Rises n (x ∷ xs) = (n < x) × Rises x xs

-- x is one of the first n ids
unfoldable pub is_id_of : ℕ → ℕ → ℕ → Bool
is_id_of first n x =
    (nat_lt (first - 1) x && nat_le x (first - 1 + min (ids_up first) n))
    || (nat_lt 0 x && nat_le x (ids_round first n))
    || (nat_lt 65535 x && nat_le x n)

abbrev pub next_id : Table → ℕ
next_id t = id_behind t.first t.drawn

abbrev pub ids : Table → List ℕ
ids t = ids_of t.first t.drawn

-- a circuit of the core has this id
abbrev pub is_drawn : Table → ℕ → Bool
is_drawn t x = is_id_of t.first t.drawn x

-- no circuit, which is 0, or one of the core's
abbrev pub is_known : Table → ℕ → Bool
is_known t x = nat_eq x 0 || is_drawn t x

-- no id is lost from the one table to the other
abbrev pub IdsStay : Table → Table → Type 0
IdsStay t v = (x : ℕ) → is_drawn t x ≡ true → is_drawn v x ≡ true
