use Rattle.lat_slots.proofs.SlotTaken.{slot_taken}
use Rattle.lat_slots.proofs.laws.texts_are_read.Goals as goal

pub returns : goal.returns
returns c = λ s text rest place is. slot_taken s text place rest is
