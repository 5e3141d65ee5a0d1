-- What is answered is what the machines hear.
use Rattle.std.proofs.Common.{ℕ, List, Result, Ok, Err, ap}
use Rattle.lat_fields.specs.declared.fault.LayoutFault.{LayoutFault}
use Rattle.lat_fields.specs.declared.fault.LayoutFault.TheVariants as faults
use Rattle.lat_fields.specs.Reading.{Gives}
use Rattle.lat_value.specs.declared.value.Value.{Value}
use Rattle.lat_value.specs.Reading.{value_read}
use Rattle.lat_payload.specs.Reads.{reading_of, read_shown, Answers}

pub answers_as_read : (payload : List ℕ) (r : Result Value LayoutFault) → Gives (λ v. v) r (value_read payload) → Answers r (reading_of payload)
unfolding reading_of
answers_as_read payload (Ok value) read = ap read_shown read
answers_as_read payload (Err (faults.Bad bad)) read = ap read_shown read
answers_as_read payload (Err faults.Memory) read = tt
