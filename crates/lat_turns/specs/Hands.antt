-- The bytes at hand behind a read.
use Rattle.std.specs.Prelude.{◌≡◌, ℕ, ◌<◌, ◌≤◌, List, length, Result, Ok}
use Rattle.lat_outside.specs.declared.callers.CallerGot.{CallerGot}
use Rattle.lat_outside.specs.declared.callers.CallerGot.TheVariants as gots
use Rattle.lat_outside.specs.declared.outside.Failed.{Failed}

-- what was read takes the place of what was there
abbrev pub HandAfter : Result CallerGot Failed → List ℕ → List ℕ → Type 0
HandAfter (Ok (gots.Bytes n)) old new = (length new ≡ n) × (0 < n) × (n ≤ 1024)
HandAfter _ old new = new ≡ old
