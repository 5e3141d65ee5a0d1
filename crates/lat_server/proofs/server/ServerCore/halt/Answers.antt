use Rattle.std.proofs.Common.{true, refl, sym, subst}
use Rattle.lat_base.specs.declared.answer.Answer.TheVariants as base
use Rattle.lat_model.specs.Reasons as reasons
use Rattle.lat_machines.specs.cores.Cores.{Side, ends_all}
use Rattle.lat_machines.specs.server.Server.{server_side, halts}
use Rattle.lat_lines.specs.Stands as stands
use Rattle.lat_server.specs.Kept.{Kept, config_of}
use Rattle.lat_server.specs.Shown.{shown}
use Rattle.lat_server.specs.Stands.{Stands}
use Rattle.lat_server.specs.Events.{HasDone}
use Rattle.lat_server.proofs.Connecting.{same_side}
use Rattle.lat_server.proofs.Halting.{did_halt}
use Rattle.lat_server.proofs.Memory.{spends_on}
use Rattle.lat_server.proofs.server.ServerCore.halt.Goals as goal

pub returns-clause-does : goal.returns-clause-does
returns-clause-does c = λ s st.
    let k : Kept = shown c.self.inside in
    let in_it : Stands k s = subst (λ (z : Kept). Stands z s) (sym c.self.view_is) st in
    let did : stands.HasStepped s.core (ends_all (server_side (config_of k)) reasons.halted s.core) c.end_all.new.self c.args.out.now c.end_all.new.out =
    subst (λ (z : Side). stands.HasStepped s.core (ends_all z reasons.halted s.core) c.end_all.new.self c.args.out.now c.end_all.new.out) (sym (same_side k c.self.invariant.server)) (c.end_all.ensures.did s.core in_it.lines) in
    subst (λ (z : Kept). HasDone s (halts (config_of z) s) (record k { lines = c.end_all.new.self; gate = record (k.gate) { halted = true } }) base.Done c.args.out.now c.end_all.new.out) c.self.view_is
    (did_halt k s c.end_all.new.self c.args.out.now c.end_all.new.out in_it did)

pub returns-clause-spare : goal.returns-clause-spare
returns-clause-spare c =
    let k : Kept = shown c.self.inside in
    spends_on c.args.self.now k (record k { lines = c.end_all.new.self; gate = record (k.gate) { halted = true } }) c.end_all.new.self c.self.view_is refl refl c.end_all.ensures.same c.end_all.ensures.rooms
