-- What the machines hear of a payload.
use Rattle.std.specs.Prelude.{◌≡◌, ℕ, List, Result, Ok, Err}
use Rattle.lat_base.specs.declared.field.Bad.{Bad}
use Rattle.lat_fields.specs.declared.fault.LayoutFault.{LayoutFault}
use Rattle.lat_fields.specs.declared.fault.LayoutFault.TheVariants as faults
use Rattle.lat_machines.specs.values.Frames as values
use Rattle.lat_machines.specs.values.Frames.{Reading, Whole, Malformed}
use Rattle.lat_circuit.specs.Messages.{message_shown}
use Rattle.lat_value.specs.declared.value.Value.{Value}
use Rattle.lat_value.specs.declared.value.Value.TheVariants as own
use Rattle.lat_value.specs.Reading.{value_read}
use Rattle.lat_payload.specs.FieldNumbers.{field_number}
use Rattle.lat_payload.specs.Notices.{notice_shown}

-- a value, as the machines know it
abbrev pub value_shown : Value → values.Value
value_shown (own.Circuit message) = values.OfCircuit (message_shown message)
value_shown (own.Notice notice) = values.OfNotice (notice_shown notice)

-- a payload whose first bad field is this one
abbrev pub malformed : Bad → Reading
malformed bad = Malformed (field_number bad.field) bad.at

-- what was read, as the machines know it
abbrev pub read_shown : Result Value Bad → Reading
read_shown (Ok value) = Whole (value_shown value)
read_shown (Err bad) = malformed bad

-- what a payload reads as
unfoldable pub reading_of : List ℕ → Reading
reading_of payload = read_shown (value_read payload)

-- A call answered as the payload reads. Want of memory may stand in place of any answer.
abbrev pub Answers : Result Value LayoutFault → Reading → Type 0
Answers (Ok value) reading = reading ≡ Whole (value_shown value)
Answers (Err (faults.Bad bad)) reading = reading ≡ malformed bad
Answers (Err faults.Memory) reading = Unit {0}
