-- Moments in print, in UTC.
use Rattle.std.specs.Prelude.{◌≡◌, ℕ, ◌/◌, ◌%◌, min, ◌*ℤ◌, pos, List, ◌++◌, codes, decimal}
use Rattle.jiff_core.specs.DateTime.{civil_nanos}
use Rattle.jiff_core.specs.declared.civil.datetime.DateTime.{DateTime}
use Rattle.jiff.specs.Names.{iso_datetime_text}

-- the second of a moment in milliseconds, both counted from 1970-01-01T00:00:00Z; from 9999-12-30T22:00:00Z on it stays
abbrev pub whole_second : ℕ → ℕ
whole_second ms = min (ms / 1000) 253_402_207_200

-- a point, three digits and a `Z`
abbrev pub thousandths : ℕ → List ℕ
thousandths n = codes "." ++ (decimal (n / 100) ++ (decimal (n / 10 % 10) ++ (decimal (n % 10) ++ codes "Z")))

-- the moment's text: its second as jiff writes it in ISO 8601, and its milliseconds
pub record IsStamp (ms : ℕ) (text : List ℕ) : Type 0 where
  pub second : DateTime
  pub is : civil_nanos second ≡ pos (whole_second ms) *ℤ pos 1_000_000_000
  pub text_is : text ≡ iso_datetime_text second ++ thousandths (ms % 1000)

-- behind a text a stamp was added
pub record StampAdded (ms : ℕ) (old new : List ℕ) : Type 0 where
  pub stamp : List ℕ
  pub is : IsStamp ms stamp
  pub added : new ≡ old ++ stamp
