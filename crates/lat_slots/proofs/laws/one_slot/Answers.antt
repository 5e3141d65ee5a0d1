use Rattle.lat_slots.proofs.Written.{one_slot}
use Rattle.lat_slots.proofs.laws.one_slot.Goals as goal

pub returns : goal.returns
returns c = λ s t text first second. one_slot s t text first second
