use Rattle.std.proofs.Common.{arith}
use Rattle.std.proofs.lemmas.Grind.{common_steps}
use Rattle.lat_text.proofs.HexRead.{bytes_are, none_read, none_left, pair_read, pair_bad}
use Rattle.lat_text.proofs.bytes.bytes_of.Goals as goal

pub loop-pair-init : goal.loop-pair-init
loop-pair-init c = grind (arith, common_steps, none_read)

pub returns-in_default-clause-reads : goal.returns-in_default-clause-reads
returns-in_default-clause-reads c = grind (arith, common_steps, bytes_are, pair_bad)

pub loop-pair-preserved : goal.loop-pair-preserved
loop-pair-preserved c = grind (arith, common_steps, pair_read)

pub returns-clause-reads : goal.returns-clause-reads
returns-clause-reads c = grind (arith, common_steps, bytes_are, none_left)
