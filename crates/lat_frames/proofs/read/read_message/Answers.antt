use Rattle.std.proofs.Common.{arith}
use Rattle.lat_frames.proofs.Outcomes.{found_from, only_from}
use Rattle.lat_frames.proofs.read.read_message.Goals as goal

pub returns-clause-found : goal.returns-clause-found
returns-clause-found c = found_from c.message_of.result c.args.payload.now (λ i. omega (arith, c.type_inv.payload i)) c.message_of.ensures

pub returns-clause-only : goal.returns-clause-only
returns-clause-only c = λ m text. only_from c.message_of.result c.args.payload.now m c.message_of.ensures text
