use Rattle.std.proofs.Common.{arith}
use Rattle.std.proofs.lemmas.Grind.{common_steps}
use Rattle.lat_session.proofs.Begins.{begins}
use Rattle.lat_session.proofs.table.Sessions.make.Goals as goal

pub returns-clause-state : goal.returns-clause-state
returns-clause-state c =
    begins c.args.master c.args.agreed c.args.ceiling c.args.agreed c.in_ok-make.field-0 c.in_ok-with_capacity.field-0.items
    (omega arith) c.requires.agreed.1 c.in_ok-make.ensures c.in_ok-with_capacity.ensures.items

pub invariant_of-result : goal.invariant_of-result
invariant_of-result c = grind (arith, common_steps)

pub returns-clause-size : goal.returns-clause-size
returns-clause-size c = grind (arith, common_steps)
