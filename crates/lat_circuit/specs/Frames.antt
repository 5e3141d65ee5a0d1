-- What an end sends, as messages and as frames.
use Rattle.std.specs.Prelude.{ℕ, false, true, List, []}
use Rattle.lat_base.specs.declared.outbox.OutFrame.{OutFrame}
use Rattle.lat_base.specs.declared.outbox.Mark.{Mark as OwnMark}
use Rattle.lat_base.specs.declared.outbox.Mark.TheVariants as marks
use Rattle.lat_fields.specs.Payloads.{padded}
use Rattle.lat_frames.specs.Written.{message_text}
use Rattle.lat_model.specs.Lists.{Each}
use Rattle.lat_model.specs.ends.End.{Mark, Fresh, Again, Bare, Sent, Run, CallStart, ReplyStart, Stopped}
use Rattle.lat_machines.specs.values.Addresses.{address}
use Rattle.lat_machines.specs.values.Messages.{StartInfo, Message, StartMessage, StopMessage}
use Rattle.lat_machines.specs.values.Runs.{run_message}
use Rattle.lat_machines.specs.values.Timing.{Timing, wide_params, call_info, reply_info}
use Rattle.lat_circuit.specs.Messages.{message_of, IsFormed}
use Rattle.lat_frames.specs.declared.timing.Timing.{Timing as OwnTiming}
use Rattle.lat_circuit.specs.declared.start.Start.{Start}
use Rattle.lat_circuit.specs.Kept.{Facts}

abbrev pub timing_shown : OwnTiming → Timing
timing_shown t = record {
  timer = t.timer;
  keepalive = t.keepalive;
  sessions = t.sessions;
  extra = t.extra;
  ceiling = t.ceiling;
  wide = t.wide;
}

-- a START of this program
abbrev pub start_info : Start → StartInfo
start_info s = record {
  size = 1500;
  eco = 1;
  sessions = s.sessions;
  extra = s.extra;
  timer = s.timer;
  keepalive = s.keepalive;
  facility = 0;
  product = 0;
  product_version = 0;
  slave = s.slave;
  name = s.name;
  location = [];
  params = wide_params s.wide;
}

abbrev pub start_message : Start → Message
start_message s = StartMessage s.master false s.to s.from (start_info s)

-- what an end sends, as a message
abbrev pub message_sent : Facts → Sent → Message
message_sent k (Run m ask f) = run_message k.master k.wide ask k.peer k.id f
message_sent k CallStart =
    StartMessage true false k.peer k.id (call_info (timing_shown k.config.timing) k.config.name k.config.peer_name)
message_sent k ReplyStart =
    StartMessage false false k.peer k.id (reply_info (timing_shown k.config.timing) k.wide k.config.name k.config.peer_name)
message_sent k (Stopped reason) = StopMessage k.master false k.peer k.id reason []

abbrev pub mark_formed : Mark → OwnMark
mark_formed Fresh = marks.Fresh
mark_formed (Again back) = marks.Again back
mark_formed Bare = marks.Bare

abbrev pub mark_sent : Sent → OwnMark
mark_sent (Run m ask f) = mark_formed m
mark_sent CallStart = marks.Plain
mark_sent ReplyStart = marks.Plain
mark_sent (Stopped reason) = marks.Plain

-- what an end sends, as a frame
abbrev pub frame_sent : Facts → Sent → OutFrame
frame_sent k s = record {
  to = k.config.peer;
  payload = padded (message_text (message_of (message_sent k s)));
  circuit = k.id;
  mark = mark_sent s;
}

-- what is seen of a frame from outside
pub record FrameView : Type 0 where
  pub to : ℕ
  pub circuit : ℕ
  pub mark : OwnMark
  pub payload : List ℕ

-- a frame as it goes out
abbrev pub frame_view : OutFrame → FrameView
frame_view f = record { to = address f.to.0; circuit = f.circuit; mark = f.mark; payload = f.payload }

-- what an end of these facts sends is all of this kind
abbrev pub AreFormed : Facts → List Sent → Type 0
AreFormed k sent = Each (λ s. IsFormed (message_sent k s)) sent
