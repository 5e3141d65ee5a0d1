use Rattle.std.proofs.Common.{sym, subst, ap, length, arith}
use Rattle.lat_server.specs.Kept.{Kept, AtRest, HasSpare}
use Rattle.lat_server.specs.Shown.{shown}
use Rattle.lat_server.specs.Stands.{Stands}
use Rattle.lat_server.proofs.Hearing.{did_pass}
use Rattle.lat_server.proofs.Memory.{spends_none}
use Rattle.lat_server.proofs.server.ServerCore.pass_over.Goals as goal

pub returns-clause-does : goal.returns-clause-does
returns-clause-does c = λ frames s st.
    let k : Kept = shown c.self.inside in
    let rest : AtRest k = subst AtRest (sym c.self.view_is) c.requires.rest in
    let in_it : Stands k s = subst (λ (z : Kept). Stands z s) (sym c.self.view_is) st in
    did_pass k s c.args.now c.pass.new.self c.args.answer frames rest in_it (c.pass.ensures.state s.core in_it.lines) c.pass.ensures.freed

pub returns-clause-spare : goal.returns-clause-spare
returns-clause-spare c =
    let k : Kept = shown c.self.inside in
    spends_none k c.pass.new.self c.pass.ensures.same (omega (arith, ap length c.pass.ensures.rooms)) 0 (subst (HasSpare 0) (sym c.self.view_is) c.requires.rest.memory)
