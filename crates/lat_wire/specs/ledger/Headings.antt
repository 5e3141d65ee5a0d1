-- The two circuits that a RUN names.
use Rattle.std.specs.Prelude.{ℕ, ◌+◌, ◌*◌, ◌/◌, Bool, true, false, cond, ◌&&◌, List, length, slice_index, Option, Some, None, option_map, nat_lt}
use Rattle.lat_frames.specs.declared.kind.MessageKind.{MessageKind}
use Rattle.lat_frames.specs.declared.kind.MessageKind.TheVariants as kinds
use Rattle.lat_frames.specs.Kinds.{kind_of}
use Rattle.lat_machines.specs.values.Messages.{Head}
use Rattle.lat_machines.specs.values.Frames.{Value}
use Rattle.lat_machines.specs.world.Young.{head_of}
use Rattle.lat_wire.specs.declared.ledger.heading.Heading.{Heading}

abbrev pub heading : Head → Heading
heading h = record { to = h.to; from = h.from }

-- None of any other value
abbrev pub heading_of : Value → Option Heading
heading_of v = option_map heading (head_of v)

abbrev pub is_run : Option MessageKind → Bool
is_run (Some kinds.Run) = true
is_run (Some kinds.WideRun) = true
is_run (Some kinds.Start) = false
is_run (Some kinds.Stop) = false
is_run None = false

-- as it stands in a payload of the type of a RUN
abbrev pub heading_in : List ℕ → Option Heading
heading_in p =
    cond (nat_lt 5 (length p) && is_run (kind_of (slice_index p 0 / 4)))
    (Some (record { to = slice_index p 2 + slice_index p 3 * 256; from = slice_index p 4 + slice_index p 5 * 256 }))
    None
