-- What holds of the payloads of frames.
use Rattle.std.specs.Prelude.{◌≡◌, ◌+◌, Bool, List, length, max}
use Rattle.lat_model.specs.numbers.Link.{Frame}
use Rattle.lat_model.specs.sessions.Slots.{Slot}
use Rattle.lat_machines.specs.values.Runs.{slots_in}
use Rattle.lat_seq.specs.declared.span.Span.{Span}
use Rattle.lat_circuit.specs.declared.ids.Ids.{Ids}
use Rattle.lat_circuit.specs.Payloads.{head_size, slots_as_text, run_text, run_payload}

-- the lengths of a frame's text and of its payload
pub record HasLengths (ids : Ids) (span : Span) (ask : Bool) (f : Frame (List Slot)) : Type 0 where
  pub text : length (run_text ids span ask f) ≡ head_size span + length (slots_as_text (slots_in f))
  pub payload : length (run_payload ids span ask f) ≡ max 46 (head_size span + length (slots_as_text (slots_in f)))

abbrev pub RunsHaveLengths : Type 0
RunsHaveLengths = (ids : Ids) (span : Span) (ask : Bool) (f : Frame (List Slot)) → HasLengths ids span ask f
