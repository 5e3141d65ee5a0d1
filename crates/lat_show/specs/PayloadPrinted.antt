-- Payloads in print.
use Rattle.std.specs.Prelude.{ℕ, List, Result, Ok, Err}
use Rattle.lat_base.specs.declared.field.Bad.{Bad}
use Rattle.lat_value.specs.declared.value.Value.{Value}
use Rattle.lat_value.specs.declared.value.Value.TheVariants.{Circuit, Notice}
use Rattle.lat_value.specs.Reading.{value_read}
use Rattle.lat_show.specs.BadPrinted.{bad_printed}
use Rattle.lat_show.specs.MessagePrinted.{message_printed}
use Rattle.lat_show.specs.NoticePrinted.{notice_printed}

-- what is printed of a value
abbrev pub value_printed : Value → List ℕ
value_printed (Circuit message) = message_printed message
value_printed (Notice notice) = notice_printed notice

-- what is printed of what was read
abbrev pub read_printed : Result Value Bad → List ℕ
read_printed (Ok value) = value_printed value
read_printed (Err bad) = bad_printed bad

-- what is printed of a payload
unfoldable pub payload_printed : List ℕ → List ℕ
payload_printed payload = read_printed (value_read payload)
