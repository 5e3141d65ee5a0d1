use Rattle.std.proofs.Common.{subst}
use Rattle.lat_session.specs.Places.{IsReached}
use Rattle.lat_session.specs.Table.{Table}
use Rattle.lat_session.proofs.Reached.{free_past}
use Rattle.lat_session.proofs.table.Sessions.last_reached.Goals as goal

pub returns-clause-free : goal.returns-clause-free
returns-clause-free c = λ e id st behind.
    free_past c.args.self.now e c.reached.result.now id st (subst (λ (t : Table). IsReached c.reached.result.now t.sessions) c.self.view_is c.reached.ensures.reached) behind
