-- The texts of values.
use Rattle.std.specs.Prelude.{ℕ, List}
use Rattle.lat_fields.specs.Payloads.{PayloadText}
use Rattle.lat_frames.specs.MessageText.{MessageText}
use Rattle.lat_frames.specs.Written.{IsWritable as MessageIsWritable}
use Rattle.lat_notices.specs.Texts.{NoticeText, IsWritable as NoticeIsWritable}
use Rattle.lat_value.specs.declared.value.Value.{Value}
use Rattle.lat_value.specs.declared.value.Value.TheVariants.{Circuit, Notice}

-- the payload is a text of the value, perhaps with trailing bytes
abbrev pub IsPayloadOf : Value → List ℕ → Type 0
IsPayloadOf (Circuit message) payload = PayloadText MessageText message payload
IsPayloadOf (Notice notice) payload = PayloadText NoticeText notice payload

-- there is a text of the value that a payload has room for
abbrev pub IsWritable : Value → Type 0
IsWritable (Circuit message) = MessageIsWritable message
IsWritable (Notice notice) = NoticeIsWritable notice
