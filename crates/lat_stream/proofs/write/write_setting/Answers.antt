use Rattle.std.proofs.Common.{arith}
use Rattle.std.proofs.lemmas.Grind.{common_steps}
use Rattle.lat_stream.proofs.write.write_setting.Goals as goal

pub append-requires : goal.append-requires
append-requires c = grind (arith, common_steps)

pub write_slot_pad-requires : goal.write_slot_pad-requires
write_slot_pad-requires c = grind (arith, common_steps)

pub returns : goal.returns
returns c = grind (arith, common_steps)
