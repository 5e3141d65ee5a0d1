use Rattle.std.proofs.Common.{rules}
use Rattle.lat_seq.proofs.receiving.RecvSide.expects.Goals as goal

pub returns-clause-field : goal.returns-clause-field
returns-clause-field c = search rules
