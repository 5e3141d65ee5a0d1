use Rattle.lat_slots.specs.Layout.{slot_text}
use Rattle.lat_slots.proofs.SlotTaken.{slot_taken}
use Rattle.lat_slots.proofs.Written.{written_is_text}
use Rattle.lat_slots.proofs.laws.written_is_read.Goals as goal

pub returns : goal.returns
returns c = λ s rest place right. slot_taken s (slot_text s) place rest (written_is_text s right)
