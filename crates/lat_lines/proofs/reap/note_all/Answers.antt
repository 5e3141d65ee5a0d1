use Rattle.std.proofs.Common.{arith}
use Rattle.std.proofs.lemmas.Grind.{common_steps}
use Rattle.lat_lines.proofs.reap.note_all.Goals as goal

pub note-requires-clause-line : goal.note-requires-clause-line
note-requires-clause-line c = grind (arith, common_steps)

pub loop-seat-preserved : goal.loop-seat-preserved
loop-seat-preserved c = grind (arith, common_steps)

pub returns-clause-last : goal.returns-clause-last
returns-clause-last c = grind (arith, common_steps)

pub returns-clause-finished : goal.returns-clause-finished
returns-clause-finished c = grind (arith, common_steps)

pub returns-clause-freed : goal.returns-clause-freed
returns-clause-freed c = grind (arith, common_steps)
