use Rattle.lat_slots.proofs.SlotFound.{slot_found}
use Rattle.lat_slots.proofs.laws.read_is_text.Goals as goal

pub returns : goal.returns
returns c = λ place bytes s next rest all read. let f = slot_found place bytes (s, next, rest) all read in (f.text, f.is, f.slot, f.next)
