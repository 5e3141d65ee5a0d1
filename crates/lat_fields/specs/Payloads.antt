-- A payload is one message or notice, then trailing bytes.
use Rattle.std.specs.Prelude.{◌≡◌, ℕ, ◌-◌, ◌/◌, ◌≤◌, ◌||◌, ◌⊎◌, List, [], ◌++◌, length, replicate, Option, Result, Ok, nat_le, ◌==◌}
use Rattle.lat_base.specs.declared.field.Field.TheVariants.{Size, Kind, Trailing}
use Rattle.lat_base.specs.declared.field.Bad.{Bad}
use Rattle.lat_fields.specs.Reading.{◌>>=◌, wanted, known, byte_at}

-- The whole payload is a text of the value, followed by any bytes where it has at most 46 in all.
pub record PayloadText {V : Type 0} (IsText : V → List ℕ → Type 0) (v : V) (payload : List ℕ) : Type 0 where
  pub text : List ℕ
  pub rest : List ℕ
  pub is : payload ≡ text ++ rest
  pub of : IsText v text
  pub size : length payload ≤ 1500
  pub trailing : (rest ≡ []) ⊎ (length payload ≤ 46)

-- a text with zeros up to 46 bytes, and nothing behind a longer one
abbrev pub padded : List ℕ → List ℕ
padded text = text ++ replicate (46 - length text) 0

-- Reading a payload: its size, the type in the high bits of its first byte, what stands behind that byte, which
-- depends on the type, and the rule on trailing bytes. `kind_of` has the type that a number stands for.
abbrev pub payload_at : {K V : Type 0} → (ℕ → Option K) → (K → ℕ → List ℕ → Result (V × ℕ × List ℕ) Bad) → List ℕ → Result V Bad
payload_at kind_of layout payload = do
  s ← wanted (nat_le (length payload) 1500) Size 1500
  first ← byte_at Kind 0 0 payload
  kind ← known (kind_of (first.0 / 4)) Kind 0
  v ← layout kind first.0 first.2
  t ← wanted (length v.2 == 0 || nat_le (length payload) 46) Trailing v.1
  Ok v.0
