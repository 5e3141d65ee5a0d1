-- What a call that reads all lines answers.
use Rattle.std.specs.Prelude.{◌≡◌, ℕ, Result, Ok, Err}
use Rattle.lat_schedule.specs.declared.read.Stop.{Stop}
use Rattle.lat_schedule.specs.declared.read.Stop.TheVariants.{Line, Memory}

-- what reading gives, or the number of the first wrong line; want of memory may stand in place of either
abbrev pub ReadsAll : {A : Type 0} → Result A Stop → Result A ℕ → Type 0
ReadsAll (Ok x) read = Ok x ≡ read
ReadsAll (Err (Line number)) read = Err number ≡ read
ReadsAll (Err Memory) read = Unit {0}
