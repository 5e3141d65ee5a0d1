-- Frames that were sent, as they are kept and as they are told of.
use Rattle.std.specs.Prelude.{ℕ, ◌+◌, ◌≤◌, Bool, false, List, length, map, slice_range, Option}
use Rattle.lat_model.specs.Lists.{Each}
use Rattle.lat_machines.specs.values.Addresses.{address}
use Rattle.lat_circuit.specs.Frames.{FrameView}
use Rattle.lat_wire.specs.declared.ledger.post.Post.{Post}
use Rattle.lat_wire.specs.declared.ledger.post.SentFrame.{SentFrame}
use Rattle.lat_wire.specs.declared.ledger.row.PostRow.{PostRow}

-- a frame with its sender's side; the two numbers are those of a RUN
pub record PostView : Type 0 where
  pub by_server : Bool
  pub frame : FrameView
  pub number : ℕ
  pub acknowledgement : ℕ

-- as it is told of

abbrev pub frame_shown : SentFrame → FrameView
frame_shown f = record { to = address f.to.0; circuit = f.circuit; mark = f.mark; payload = f.payload.now }

abbrev pub post_shown : Post → PostView
post_shown s = record { by_server = s.by_server; frame = frame_shown s.frame; number = s.number; acknowledgement = s.acknowledgement }

-- as it is kept: its bytes are some of those of all frames

abbrev pub payload_in : List ℕ → PostRow → List ℕ
payload_in bytes r = slice_range bytes r.start (r.start + r.len)

abbrev pub post_in : List ℕ → PostRow → PostView
post_in bytes r = record {
  by_server = r.by_server;
  frame = record { to = address r.to.0; circuit = r.circuit; mark = r.mark; payload = payload_in bytes r };
  number = r.number;
  acknowledgement = r.acknowledgement;
}

abbrev pub posts_in : List ℕ → List PostRow → List PostView
posts_in bytes rows = map (post_in bytes) rows

-- no frame's bytes reach past these
abbrev pub AreWithin : List ℕ → List PostRow → Type 0
AreWithin bytes rows = Each (λ (r : PostRow). r.start + r.len ≤ length bytes) rows

-- what is kept of a frame of this turn, whose payload begins here
abbrev pub row_of : Post → ℕ → Option ℕ → PostRow
row_of s start turn = record {
  by_server = s.by_server;
  to = s.frame.to;
  circuit = s.frame.circuit;
  mark = s.frame.mark;
  start = start;
  len = length s.frame.payload.now;
  number = s.number;
  acknowledgement = s.acknowledgement;
  turn = turn;
  delivered = false;
}
