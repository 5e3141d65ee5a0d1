use Rattle.std.proofs.Common.{ap, arith, length}
use Rattle.std.proofs.lemmas.Grind.{common_steps}
use Rattle.lat_session.specs.Table.{Table}
use Rattle.lat_session.proofs.Begins.{begins}
use Rattle.lat_session.proofs.table.Sessions.reset.Goals as goal

pub returns-clause-state : goal.returns-clause-state
returns-clause-state c =
    let n = length c.self.inside.sessions in
    let size = ap (λ (t : Table). length t.sessions) c.self.view_is in
    begins c.args.master c.args.agreed c.args.ceiling n c.reset.new.self c.clear.new.self.items
    (omega (arith, size, c.requires.agreed.1)) (omega (arith, c.self.invariant)) c.reset.ensures c.clear.ensures.items

pub invariant_of-self : goal.invariant_of-self
invariant_of-self c = grind (arith, common_steps)

pub returns-clause-size : goal.returns-clause-size
returns-clause-size c = grind (arith, common_steps)
