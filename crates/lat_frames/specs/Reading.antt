-- Reading circuit messages from left to right, in the order of their layouts.
use Rattle.std.specs.Prelude.{ℕ, zero, suc, ◌+◌, ◌/◌, Bool, true, ◌&&◌, ◌||◌, ◌==◌, nat_lt, nat_le, if◌then◌else◌, List, [], ◌∷◌, length, Result, Ok}
use Rattle.lat_base.specs.declared.field.Field.TheVariants.{Kind, Trailing, SlotCount, DestinationCircuit, SourceCircuit, Sequence, Acknowledgement, FrameSize, Version, Eco, Sessions, Extra, Timer, KeepAlive, Facility, ProductType, ProductVersion, SlaveName, MasterName, Location, Reason, Text}
use Rattle.lat_base.specs.declared.field.Bad.{Bad}
use Rattle.lat_fields.specs.Reading.{◌>>=◌, wanted, known, byte_at, number_at, counted_at, name_at}
use Rattle.lat_fields.specs.ParamsReading.{params_at}
use Rattle.lat_fields.specs.Payloads.{payload_at}
use Rattle.lat_slots.specs.declared.slot.Slot.{Slot}
use Rattle.lat_slots.specs.Reading.{slot_at}
use Rattle.lat_frames.specs.declared.kind.MessageKind.{MessageKind}
use Rattle.lat_frames.specs.declared.kind.MessageKind.TheVariants as kinds
use Rattle.lat_frames.specs.declared.message.Message.{Message}
use Rattle.lat_frames.specs.declared.message.Message.TheVariants.{Run, Wide, Start, Stop}
use Rattle.lat_frames.specs.declared.message.StartInfo.{StartInfo}
use Rattle.lat_frames.specs.declared.read_head.Circuits.{Circuits}
use Rattle.lat_frames.specs.declared.message.Limits.{Limits}
use Rattle.lat_frames.specs.Heads.{is_master, asks}
use Rattle.lat_frames.specs.Kinds.{kind_of}

-- in a START of the master 0, else not 0
abbrev pub destination_fits : MessageKind → Bool → ℕ → Bool
destination_fits kinds.Start master to = if master then to == 0 else nat_lt 0 to
destination_fits kind master to = nat_lt 0 to

-- any in a STOP, else not 0
abbrev pub source_fits : MessageKind → ℕ → Bool
source_fits kinds.Stop from = true
source_fits kind from = nat_lt 0 from

-- the number of slots and the two circuits, which stand behind the first byte
unfoldable pub circuits_at : MessageKind → Bool → ℕ → List ℕ → Result (Circuits × ℕ × List ℕ) Bad
circuits_at kind master place bytes = do
  slots ← byte_at SlotCount place place bytes
  to ← number_at DestinationCircuit slots.1 slots.2
  a ← wanted (destination_fits kind master to.0) DestinationCircuit slots.1
  from ← number_at SourceCircuit to.1 to.2
  b ← wanted (source_fits kind from.0) SourceCircuit to.1
  Ok (record { slots = slots.0; to = to.0; from = from.0 }, from.1, from.2)

abbrev pub timer_fits : Bool → ℕ → Bool
timer_fits master timer = if master then nat_lt 0 timer && nat_le timer 100 else true

abbrev pub keepalive_fits : Bool → ℕ → Bool
keepalive_fits master keepalive = if master then nat_lt 0 keepalive else true

-- the times of the circuit, which stand behind what else the sender of a START can do
unfoldable pub timed_at : Bool → ℕ → ℕ → ℕ → ℕ → ℕ → List ℕ → Result (Limits × ℕ × List ℕ) Bad
timed_at master size eco sessions extra place bytes = do
  timer ← byte_at Timer place place bytes
  a ← wanted (timer_fits master timer.0) Timer place
  keepalive ← byte_at KeepAlive timer.1 timer.1 timer.2
  b ← wanted (keepalive_fits master keepalive.0) KeepAlive timer.1
  Ok (record { size = size; eco = eco; sessions = sessions; extra = extra; timer = timer.0; keepalive = keepalive.0 }, keepalive.1, keepalive.2)

-- how many sessions and further messages the sender can hold, behind its frame size and the version, and the times
unfoldable pub holding_at : Bool → ℕ → ℕ → List ℕ → Result (Limits × ℕ × List ℕ) Bad
holding_at master size place bytes = do
  eco ← byte_at Eco place place bytes
  sessions ← byte_at Sessions eco.1 eco.1 eco.2
  a ← wanted (nat_lt 0 sessions.0) Sessions eco.1
  extra ← byte_at Extra sessions.1 sessions.1 sessions.2
  timed_at master size eco.0 sessions.0 extra.0 extra.1 extra.2

-- what the sender of a START can do, with the times of the circuit
unfoldable pub limits_at : Bool → ℕ → List ℕ → Result (Limits × ℕ × List ℕ) Bad
limits_at master place bytes = do
  size ← number_at FrameSize place bytes
  a ← wanted (nat_le 576 size.0 && nat_le size.0 1518) FrameSize place
  version ← byte_at Version size.1 size.1 size.2
  b ← wanted (version.0 == 5) Version size.1
  holding_at master size.0 version.1 version.2

-- the names, the location and the parameters of a START's sender, at most so many of these, behind the rest of it
unfoldable pub named_at : ℕ → Limits → ℕ → ℕ → ℕ → ℕ → List ℕ → Result (StartInfo × ℕ × List ℕ) Bad
named_at most limits facility product version place bytes = do
  slave ← name_at SlaveName place bytes
  name ← name_at MasterName slave.1 slave.2
  location ← counted_at Location name.1 name.1 name.2
  params ← params_at most location.1 location.2
  Ok (
    record {
      size = limits.size;
      eco = limits.eco;
      sessions = limits.sessions;
      extra = limits.extra;
      timer = limits.timer;
      keepalive = limits.keepalive;
      facility = facility;
      product = product;
      product_version = version;
      slave = slave.0;
      name = name.0;
      location = location.0;
      params = params.0;
    },
    params.1,
    params.2,
  )

-- what a START tells of its sender, with at most so many parameters
unfoldable pub info_at : ℕ → Bool → ℕ → List ℕ → Result (StartInfo × ℕ × List ℕ) Bad
info_at most master place bytes = do
  limits ← limits_at master place bytes
  facility ← number_at Facility limits.1 limits.2
  product ← byte_at ProductType facility.1 facility.1 facility.2
  version ← byte_at ProductVersion product.1 product.1 product.2
  named_at most limits.0 facility.0 product.0 version.0 version.1 version.2

unfoldable pub start_at : ℕ → ℕ → Circuits → ℕ → List ℕ → Result (Message × ℕ × List ℕ) Bad
start_at most first circuits place bytes = do
  seq ← byte_at Sequence place place bytes
  ack ← byte_at Acknowledgement seq.1 seq.1 seq.2
  info ← info_at most (is_master first) ack.1 ack.2
  Ok (Start (is_master first) (asks first) circuits.to circuits.from info.0, info.1, info.2)

unfoldable pub stop_at : ℕ → Circuits → ℕ → List ℕ → Result (Message × ℕ × List ℕ) Bad
stop_at first circuits place bytes = do
  seq ← byte_at Sequence place place bytes
  ack ← byte_at Acknowledgement seq.1 seq.1 seq.2
  reason ← byte_at Reason ack.1 ack.1 ack.2
  text ← counted_at Text reason.1 reason.1 reason.2
  Ok (Stop (is_master first) (asks first) circuits.to circuits.from reason.0 text.0, text.1, text.2)

-- so many slots
unfoldable pub slots_at : ℕ → ℕ → List ℕ → Result (List Slot × ℕ × List ℕ) Bad
slots_at zero place bytes = Ok ([], place, bytes)
slots_at (suc count) place bytes = do
  slot ← slot_at place bytes
  more ← slots_at count slot.1 slot.2
  Ok (slot.0 ∷ more.0, more.1, more.2)

unfoldable pub run_at : ℕ → Circuits → ℕ → List ℕ → Result (Message × ℕ × List ℕ) Bad
run_at first circuits place bytes = do
  seq ← byte_at Sequence place place bytes
  ack ← byte_at Acknowledgement seq.1 seq.1 seq.2
  slots ← slots_at circuits.slots ack.1 ack.2
  Ok (Run (record { master = is_master first; ask = asks first; to = circuits.to; from = circuits.from; seq = seq.0; ack = ack.0 }) slots.0, slots.1, slots.2)

-- as a RUN, but its two numbers have two bytes
unfoldable pub wide_at : ℕ → Circuits → ℕ → List ℕ → Result (Message × ℕ × List ℕ) Bad
wide_at first circuits place bytes = do
  seq ← number_at Sequence place bytes
  ack ← number_at Acknowledgement seq.1 seq.2
  slots ← slots_at circuits.slots ack.1 ack.2
  Ok (Wide (record { master = is_master first; ask = asks first; to = circuits.to; from = circuits.from; seq = seq.0; ack = ack.0 }) slots.0, slots.1, slots.2)

-- what stands behind the two circuits, by the type
abbrev pub tail_at : MessageKind → ℕ → ℕ → Circuits → ℕ → List ℕ → Result (Message × ℕ × List ℕ) Bad
tail_at kinds.Run most first circuits place bytes = run_at first circuits place bytes
tail_at kinds.Start most first circuits place bytes = start_at most first circuits place bytes
tail_at kinds.Stop most first circuits place bytes = stop_at first circuits place bytes
tail_at kinds.WideRun most first circuits place bytes = wide_at first circuits place bytes

-- what stands behind the first byte; there are never more parameters than bytes
unfoldable pub message_at : MessageKind → ℕ → List ℕ → Result (Message × ℕ × List ℕ) Bad
message_at kind first bytes = do
  circuits ← circuits_at kind (is_master first) 1 bytes
  tail_at kind (length bytes + 2) first circuits.0 circuits.1 circuits.2

-- the message whose first byte is this one, before these bytes of the payload, and the rule on trailing bytes
unfoldable pub begun_at : ℕ → List ℕ → List ℕ → Result Message Bad
begun_at first bytes payload = do
  kind ← known (kind_of (first / 4)) Kind 0
  message ← message_at kind first bytes
  a ← wanted (length message.2 == 0 || nat_le (length payload) 46) Trailing message.1
  Ok message.0

-- the message that the payload is, or the first bad field
unfoldable pub message_read : List ℕ → Result Message Bad
message_read payload = payload_at kind_of message_at payload
