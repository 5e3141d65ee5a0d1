-- Frames as they go out, and as the machines know them.
use Rattle.std.specs.Prelude.{◌≡◌, ℕ, List, ◌++◌, map}
use Rattle.lat_base.specs.declared.outbox.OutFrame.{OutFrame}
use Rattle.lat_base.specs.declared.outbox.Mark.{Mark}
use Rattle.lat_base.specs.declared.outbox.Mark.TheVariants as marks
use Rattle.lat_fields.specs.Payloads.{padded}
use Rattle.lat_frames.specs.Written.{message_text}
use Rattle.lat_notices.specs.Texts.{notice_text}
use Rattle.lat_machines.specs.values.Frames as machines
use Rattle.lat_model.specs.Lists.{Each}
use Rattle.lat_circuit.specs.Messages.{message_of}
use Rattle.lat_circuit.specs.Frames.{FrameView, frame_view, mark_formed}
use Rattle.lat_payload.specs.Notices.{notice_of}
use Rattle.lat_payload.specs.Reads.{reading_of}

-- the payload that is written of a value
abbrev pub payload_of : machines.Value → List ℕ
payload_of (machines.OfCircuit m) = padded (message_text (message_of m))
payload_of (machines.OfNotice n) = padded (notice_text (notice_of n))

abbrev pub mark_of : machines.FrameMark → Mark
mark_of (machines.OfRun m) = mark_formed m
mark_of machines.Plain = marks.Plain

-- a frame of the machines, as it is to go out
abbrev pub expected : machines.OutFrame → FrameView
expected f = record { to = f.to; circuit = f.circuit; mark = mark_of f.mark; payload = payload_of f.value }

-- what is written of its value reads as that value
abbrev pub IsReadable : machines.OutFrame → Type 0
IsReadable f = reading_of (payload_of f.value) ≡ machines.Whole f.value

-- a frame goes out as one of the machines, which is readable
pub record GoesOutAs (f : OutFrame) (g : machines.OutFrame) : Type 0 where
  pub same : frame_view f ≡ expected g
  pub readable : IsReadable g

-- the machines' frames have gone out behind those before, and each of them is readable
pub record Emits (frames : List machines.OutFrame) (before after : List OutFrame) : Type 0 where
  pub same : map frame_view after ≡ map frame_view before ++ map expected frames
  pub readable : Each IsReadable frames
