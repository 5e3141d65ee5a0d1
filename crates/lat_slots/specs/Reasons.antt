-- Why this program rejects and stops sessions, and the numbers that stand for it.
use Rattle.std.specs.Prelude.{ℕ}
use Rattle.lat_slots.specs.declared.reason.RejectReason.{RejectReason}
use Rattle.lat_slots.specs.declared.reason.RejectReason.TheVariants.{NotOffered, NotRequested, NoRoom}
use Rattle.lat_slots.specs.declared.reason.StopReason.{StopReason}
use Rattle.lat_slots.specs.declared.reason.StopReason.TheVariants.{Closed}

abbrev pub reject_bits : RejectReason → ℕ
reject_bits NotOffered = 4
reject_bits NotRequested = 5
reject_bits NoRoom = 7

abbrev pub stop_bits : StopReason → ℕ
stop_bits Closed = 1
