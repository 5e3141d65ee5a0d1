-- Bytes that were read ahead.
use Rattle.std.specs.Prelude.{◌≡◌, ℕ, ◌≤◌, Bool, List, [], ◌++◌, take, length, Option, Some, None, Result, Ok, Err}
use Rattle.std.specs.Io.KnownBytes.{Consumes, prepend_known}
use Rattle.lat_outside.specs.declared.callers.CallerGot.{CallerGot}
use Rattle.lat_outside.specs.declared.callers.CallerGot.TheVariants as gots
use Rattle.lat_outside.specs.Visits.{VisitView}

-- a connection: its stream, the bytes that were read ahead, and the visit of its caller
pub record ConnectionView (S : Type 0) : Type 0 where
  pub stream : S
  pub ahead : List ℕ
  pub broken : Bool
  pub visit : VisitView

-- what was held, and behind it the bytes that the reader gave
abbrev pub Fills : Option (List ℕ) → Option (List ℕ) → List ℕ → List ℕ → Type 0
Fills left left' held held' = (bs : List ℕ) × (held' ≡ held ++ bs) × Consumes left left' bs

-- the bytes of a read
abbrev pub got_bytes : {E : Type 0} → Result CallerGot E → List ℕ → List ℕ
got_bytes (Ok (gots.Bytes n)) buf = take n buf
got_bytes _ buf = []

-- the bytes that a caller's reads will give: those that were read ahead, and then those that its stream gives, where these are known
abbrev pub waiting : List ℕ → Option (List ℕ) → Option (List ℕ)
waiting ahead left = prepend_known ahead left
