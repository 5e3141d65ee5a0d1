-- Reading a slot: its fields in the order of their tests, with the first one that is bad.
use Rattle.std.specs.Prelude.{ℕ, ◌+◌, ◌/◌, ◌%◌, Bool, true, ◌&&◌, List, length, take, drop, Result, Ok, nat_lt, nat_le, ◌==◌, slice_index}
use Rattle.lat_base.specs.declared.field.Field.TheVariants.{SlotType, DestinationSlot, SourceSlot, ByteCount, ServiceClass, AttentionSize, DataSize, Service, Subject, SlotEnd, SlotPad}
use Rattle.lat_base.specs.declared.field.Bad.{Bad}
use Rattle.lat_fields.specs.Reading.{◌>>=◌, wanted, known, byte_at, counted_at, name_at}
use Rattle.lat_fields.specs.ParamsReading.{params_at}
use Rattle.lat_slots.specs.declared.head.SlotHead.{SlotHead}
use Rattle.lat_slots.specs.declared.kind.SlotKind.{SlotKind}
use Rattle.lat_slots.specs.declared.kind.SlotKind.TheVariants as kinds
use Rattle.lat_slots.specs.declared.slot.Slot.{Slot}
use Rattle.lat_slots.specs.declared.slot.Slot.TheVariants as slots
use Rattle.lat_slots.specs.Kinds.{kind_of}

-- a start that asks for a session knows no id at the other end
abbrev pub destination_fits : SlotKind → ℕ → Bool
destination_fits kinds.Start to = true
destination_fits kind to = nat_lt 0 to

-- who refuses or ends a session may have no id of its own
abbrev pub source_fits : SlotKind → ℕ → Bool
source_fits kinds.Reject from = true
source_fits kinds.Stop from = true
source_fits kind from = nat_lt 0 from

-- how many bytes the body of such a slot may have
abbrev pub count_fits : SlotKind → ℕ → Bool
count_fits kinds.DataA n = true
count_fits kinds.Start n = true
count_fits kinds.DataB n = n == 5
count_fits kinds.Attention n = n == 1
count_fits kinds.Reject n = n == 0
count_fits kinds.Stop n = n == 0

abbrev pub headed : SlotKind → ℕ → ℕ → ℕ → ℕ → SlotHead
headed kind low to from n = record { kind = kind; low = low; to = to; from = from; count = n }

-- a head whose ids and number of bytes its type may have, and whose body is there in so many bytes of the slot
unfoldable pub fitting : SlotHead → ℕ → ℕ → Result SlotHead Bad
fitting h place len = do
  v ← wanted (destination_fits h.kind h.to) DestinationSlot place
  w ← wanted (source_fits h.kind h.from) SourceSlot (place + 1)
  x ← wanted (count_fits h.kind h.count && nat_le (4 + h.count) len) ByteCount (place + 2)
  Ok h

-- The type is tested first, then the ids, then the number of bytes, which must be there.
unfoldable pub head_at : ℕ → List ℕ → Result SlotHead Bad
head_at place bytes = do
  u ← wanted (nat_lt 3 (length bytes)) SlotType (place + 3)
  kind ← known (kind_of (slice_index bytes 3 / 16)) SlotType (place + 3)
  fitting (headed kind (slice_index bytes 3 % 16) (slice_index bytes 0) (slice_index bytes 1) (slice_index bytes 2)) place (length bytes)

-- what a start asks for, behind its two sizes, with at most so many parameters; it ends behind them
unfoldable pub asked_at : ℕ → SlotHead → ℕ → ℕ → ℕ → List ℕ → Result Slot Bad
asked_at most h attention size place body = do
  service ← name_at Service place body
  subject ← counted_at Subject service.1 service.1 service.2
  params ← params_at most subject.1 subject.2
  w ← wanted (length params.2 == 0) SlotEnd params.1
  Ok (slots.Start h.to h.from h.low attention size service.0 subject.0 params.0)

-- the body of a start
unfoldable pub start_at : ℕ → SlotHead → ℕ → List ℕ → Result Slot Bad
start_at most h place body = do
  class ← byte_at ServiceClass place place body
  u ← wanted (class.0 == 1) ServiceClass place
  attention ← byte_at AttentionSize class.1 class.1 class.2
  size ← byte_at DataSize attention.1 attention.1 attention.2
  v ← wanted (nat_lt 0 size.0) DataSize attention.1
  asked_at most h attention.0 size.0 size.1 size.2

-- the slot of this type, of a head with this body, whose first byte is at the place
abbrev pub body_as : SlotKind → ℕ → SlotHead → ℕ → List ℕ → Result Slot Bad
body_as kinds.DataA most h place body = Ok (slots.DataA h.to h.from h.low body)
body_as kinds.Start most h place body = start_at most h place body
body_as kinds.DataB most h place body = Ok (slots.DataB h.to h.from h.low (slice_index body 0) (drop 1 body))
body_as kinds.Attention most h place body = Ok (slots.Attention h.to h.from (slice_index body 0))
body_as kinds.Reject most h place body = Ok (slots.Reject h.to h.from h.low)
body_as kinds.Stop most h place body = Ok (slots.Stop h.to h.from h.low)

unfoldable pub body_at : ℕ → SlotHead → ℕ → List ℕ → Result Slot Bad
body_at most h place body = body_as h.kind most h place body

-- The slot that stands at the front of the bytes, whose first is at the place; the place behind it with its pad; and
-- the bytes from there on.
unfoldable pub slot_at : ℕ → List ℕ → Result (Slot × ℕ × List ℕ) Bad
slot_at place bytes = do
  h ← head_at place bytes
  slot ← body_at (place + 4 + h.count + 1) h (place + 4) (take h.count (drop 4 bytes))
  y ← wanted (nat_le (4 + h.count + h.count % 2) (length bytes)) SlotPad (place + 4 + h.count)
  Ok (slot, place + 4 + h.count + h.count % 2, drop (4 + h.count + h.count % 2) bytes)
