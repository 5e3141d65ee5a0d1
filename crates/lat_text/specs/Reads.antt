-- What a call that reads answers.
use Rattle.std.specs.Prelude.{◌≡◌, Option, Some, None, Result, Ok, Err}
use Rattle.lat_text.specs.declared.fault.LineFault.{LineFault}
use Rattle.lat_text.specs.declared.fault.LineFault.TheVariants.{Form, Memory}

-- What a call answered, seen by view, is what reading gives; want of memory may stand in place of any answer
abbrev pub Reads : {X Y : Type 0} → (X → Y) → Result X LineFault → Option Y → Type 0
Reads view (Ok x) read = read ≡ Some (view x)
Reads view (Err Form) read = read ≡ None
Reads view (Err Memory) read = Unit {0}
