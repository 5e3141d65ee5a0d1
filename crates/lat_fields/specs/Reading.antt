-- Reading fields from left to right. What is read is the value with the place behind it and the bytes from there on,
-- or the first bad field with its place.
use Rattle.std.specs.Prelude.{◌≡◌, ℕ, ◌+◌, ◌*◌, Bool, List, [], ◌∷◌, length, take, drop, Result, Ok, Err, Option, Some, None, nat_lt, if◌then◌else◌, is_ok}
use Rattle.lat_base.specs.Names.{name_read}
use Rattle.lat_base.specs.declared.field.Field.{Field}
use Rattle.lat_base.specs.declared.field.Bad.{Bad}
use Rattle.lat_fields.specs.declared.fault.LayoutFault.{LayoutFault}
use Rattle.lat_fields.specs.declared.fault.LayoutFault.TheVariants as faults

-- the next field is read where this one is right
infixl 10 ◌>>=◌
abbrev pub ◌>>=◌ : {A B : Type 0} → Result A Bad → (A → Result B Bad) → Result B Bad
(Ok x) >>= f = f x
(Err e) >>= f = Err e

-- What a call answered, seen by view, is what reading gives; want of memory may stand in place of any answer.
abbrev pub Fails : {Y : Type 0} → LayoutFault → Result Y Bad → Type 0
Fails faults.Memory read = Unit {0}
Fails (faults.Bad b) read = read ≡ Err b

abbrev pub Gives : {X Y : Type 0} → (X → Y) → Result X LayoutFault → Result Y Bad → Type 0
Gives view (Ok x) read = read ≡ Ok (view x)
Gives view (Err e) read = Fails e read

abbrev pub bad : {A : Type 0} → Field → ℕ → Result A Bad
bad field at = Err (record { field = field; at = at })

abbrev pub fault : Field → ℕ → LayoutFault
fault field at = faults.Bad (record { field = field; at = at })

-- the field is bad unless its condition holds
abbrev pub wanted : Bool → Field → ℕ → Result (Unit {0}) Bad
wanted holds field at = if holds then Ok tt else bad field at

-- what the field stands for, which is bad where that is nothing
abbrev pub known : {A : Type 0} → Option A → Field → ℕ → Result A Bad
known (Some x) field at = Ok x
known None field at = bad field at

-- one byte; `at` is the place that is told where it is missing
abbrev pub byte_at : Field → ℕ → ℕ → List ℕ → Result (ℕ × ℕ × List ℕ) Bad
byte_at field at place [] = bad field at
byte_at field at place (b ∷ rest) = Ok (b, place + 1, rest)

-- a number of two bytes, low byte first
unfoldable pub number_at : Field → ℕ → List ℕ → Result (ℕ × ℕ × List ℕ) Bad
number_at field place bytes = do
  low ← byte_at field place place bytes
  high ← byte_at field place low.1 low.2
  Ok (low.0 + high.0 * 256, high.1, high.2)

-- a counted text: a length byte and that many bytes
unfoldable pub counted_at : Field → ℕ → ℕ → List ℕ → Result (List ℕ × ℕ × List ℕ) Bad
counted_at field at place bytes = do
  n ← byte_at field at place bytes
  if nat_lt (length n.2) n.0 then bad field at else Ok (take n.0 n.2, n.1 + n.0, drop n.0 n.2)

-- a counted text whose bytes are a name
unfoldable pub name_at : Field → ℕ → List ℕ → Result (List ℕ × ℕ × List ℕ) Bad
name_at field place bytes = do
  t ← counted_at field place place bytes
  if is_ok (name_read t.0) then Ok t else bad field place
