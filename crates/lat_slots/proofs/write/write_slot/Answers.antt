use Rattle.std.proofs.Common.{arith}
use Rattle.std.proofs.lemmas.Grind.{common_steps}
use Rattle.lat_slots.proofs.write.write_slot.Goals as goal

pub write_slot_head-requires-clause-room : goal.write_slot_head-requires-clause-room
write_slot_head-requires-clause-room c = grind (arith, common_steps)

pub write_body-requires-clause-room : goal.write_body-requires-clause-room
write_body-requires-clause-room c = grind (arith, common_steps)

pub write_slot_pad-requires : goal.write_slot_pad-requires
write_slot_pad-requires c = grind (arith, common_steps)

pub returns : goal.returns
returns c = grind (arith, common_steps)
