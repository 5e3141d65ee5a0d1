use Rattle.std.proofs.Common.{◌+◌, ◌%◌, sym, subst, refl}
use Rattle.lat_base.specs.declared.answer.Answer.TheVariants as base
use Rattle.lat_machines.specs.server.Server.{solicits_for}
use Rattle.lat_server.specs.Kept.{Kept, config_of, AtRest}
use Rattle.lat_server.specs.Shown.{shown}
use Rattle.lat_server.specs.Stands.{Stands}
use Rattle.lat_server.specs.Events.{HasDone}
use Rattle.lat_server.proofs.Connecting.{did_solicit}
use Rattle.lat_server.proofs.Memory.{spends_nothing}
use Rattle.lat_server.proofs.server.ServerCore.solicit.Goals as goal

pub returns-clause-does : goal.returns-clause-does
returns-clause-does c = λ s st.
    let k : Kept = shown c.self.inside in
    let rest : AtRest k = subst AtRest (sym c.self.view_is) c.requires.rest in
    let in_it : Stands k s = subst (λ (z : Kept). Stands z s) (sym c.self.view_is) st in
    subst (λ (z : Kept). HasDone s (solicits_for (config_of z) s c.args.service.now) (record k { solicits = (k.solicits + 1) % 65536 }) base.NoService c.args.out.now c.push.new.self) c.self.view_is
    (did_solicit k s c.args.service.now c.name.result c.solicit_frame.result c.args.out.now c.push.new.self rest in_it c.name.ensures c.solicit_frame.ensures c.push.ensures)

pub returns-clause-spare : goal.returns-clause-spare
returns-clause-spare c =
    let k : Kept = shown c.self.inside in
    spends_nothing c.args.self.now k (record k { solicits = (k.solicits + 1) % 65536 }) c.self.view_is refl refl
