-- Reading a payload by its type.
use Rattle.std.specs.Prelude.{ℕ, ◌/◌, List, [], ◌∷◌, Result, Ok, Err, if◌then◌else◌}
use Rattle.lat_base.specs.declared.field.Bad.{Bad}
use Rattle.lat_base.specs.declared.field.Field.TheVariants.{Kind}
use Rattle.lat_fields.specs.Reading.{bad}
use Rattle.lat_frames.specs.Kinds.{is_kind}
use Rattle.lat_frames.specs.Reading.{message_read}
use Rattle.lat_notices.specs.Kinds.{is_notice}
use Rattle.lat_notices.specs.Reading.{notice_read}
use Rattle.lat_value.specs.declared.value.Value.{Value}
use Rattle.lat_value.specs.declared.value.Value.TheVariants.{Circuit, Notice}

-- what a reader gives, as a value
abbrev pub read_as : {V : Type 0} → (V → Value) → Result V Bad → Result Value Bad
read_as value (Ok v) = Ok (value v)
read_as value (Err bad) = Err bad

-- a payload of no known type
abbrev pub unknown : Result Value Bad
unknown = bad Kind 0

-- the value that the payload is, or the first bad field, by the reader that the type in its first byte chooses
unfoldable pub value_read : List ℕ → Result Value Bad
value_read [] = unknown
value_read (first ∷ rest) =
    if is_kind (first / 4) then read_as Circuit (message_read (first ∷ rest))
    else if is_notice (first / 4) then read_as Notice (notice_read (first ∷ rest))
    else unknown
