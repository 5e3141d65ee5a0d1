-- How a young RUN of a pair is heard by its number fields.
use Rattle.std.specs.Prelude.{ℕ, ◌<◌, Bool, not, List}
use Rattle.lat_model.specs.sessions.Slots.{Slot}
use Rattle.lat_model.specs.numbers.Link.{Frame}
use Rattle.lat_model.specs.numbers.NetOk.{Young, as_bytes}
use Rattle.lat_model.specs.ends.End.{End}
use Rattle.lat_model.specs.circuits.Pair.{Pair, end_of}

-- a RUN among the frames, less than r behind in both numbers
pub record IsYoung (r : ℕ) (w : Pair) (b : Bool) (f : Frame (List Slot)) : Type 0 where
  pub half_range : 8 < r
  pub young : Young (List Slot) r (end_of w b).half.link f

-- the end that hears it, and the frame as it hears it
abbrev pub hearer : Pair → Bool → End
hearer w b = end_of w (not b)

abbrev pub heard_frame : ℕ → Pair → Bool → Frame (List Slot) → Frame (List Slot)
heard_frame r w b f = as_bytes r (hearer w b).half.link f
