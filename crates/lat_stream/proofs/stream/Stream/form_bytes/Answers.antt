use Rattle.std.proofs.Common.{arith}
use Rattle.std.proofs.lemmas.Grind.{common_steps}
use Rattle.lat_stream.proofs.stream.Stream.form_bytes.Goals as goal

pub move_bytes-requires-clause-bytes : goal.move_bytes-requires-clause-bytes
move_bytes-requires-clause-bytes c = grind (arith, common_steps)

pub move_bytes-requires-clause-room : goal.move_bytes-requires-clause-room
move_bytes-requires-clause-room c = grind (arith, common_steps)

pub write_slot_pad-requires : goal.write_slot_pad-requires
write_slot_pad-requires c = grind (arith, common_steps)

pub returns-clause-meets : goal.returns-clause-meets
returns-clause-meets c = grind (arith, common_steps)

pub returns-clause-room : goal.returns-clause-room
returns-clause-room c = grind (arith, common_steps)
