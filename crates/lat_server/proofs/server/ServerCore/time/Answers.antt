use Rattle.std.proofs.Common.{◌≡◌, sym, subst, ◌∙◌, arith, ap, length}
use Rattle.lat_base.specs.declared.answer.Answer.TheVariants as answers
use Rattle.lat_machines.specs.values.Answers.{Done}
use Rattle.lat_machines.specs.cores.Cores.{Core, Side, at_moment, passes_time}
use Rattle.lat_machines.specs.server.Server.{server_side, does}
use Rattle.lat_lines.specs.Kept as lines
use Rattle.lat_lines.specs.Stands as stands
use Rattle.lat_server.specs.Kept.{Kept, config_of, Spends}
use Rattle.lat_server.specs.Shown.{shown}
use Rattle.lat_server.specs.Stands.{Stands}
use Rattle.lat_server.specs.Events.{HasDone}
use Rattle.lat_server.proofs.Connecting.{same_side}
use Rattle.lat_server.proofs.Hearing.{sides, did_time}
use Rattle.lat_server.proofs.Memory.{spends}
use Rattle.lat_server.proofs.server.ServerCore.time.Goals as goal

pub returns-clause-does : goal.returns-clause-does
returns-clause-does c = λ s st.
    let k : Kept = shown c.self.inside in
    let in_it : Stands k s = subst (λ (z : Kept). Stands z s) (sym c.self.view_is) st in
    let m : Core = at_moment c.args.now s.core in
    let side : lines.side_of c.pass.new.self ≡ server_side (config_of k) = sides k.lines c.pass.new.self c.pass.ensures.same ∙ sym (same_side k c.self.invariant.server) in
    let did : stands.HasStepped m (passes_time (server_side (config_of k)) m) c.time.new.self c.args.out.now c.time.new.out =
    subst (λ (z : Side). stands.HasStepped m (passes_time z m) c.time.new.self c.args.out.now c.time.new.out) side (c.time.ensures.did m (c.pass.ensures.state s.core in_it.lines)) in
    subst (λ (z : Kept). HasDone s (does s Done (passes_time (server_side (config_of z)) m)) (record k { lines = c.time.new.self; directory = c.expire.new.self }) answers.Done c.args.out.now c.time.new.out) c.self.view_is
    (did_time k s c.args.now c.time.new.self c.expire.new.self c.args.out.now c.time.new.out in_it did (c.expire.ensures.stands s.heard in_it.directory))

pub returns-clause-spare : goal.returns-clause-spare
returns-clause-spare c =
    let k : Kept = shown c.self.inside in
    let new : Kept = record k { lines = c.time.new.self; directory = c.expire.new.self } in
    subst (λ (z : Kept). Spends 0 z new) c.self.view_is
    (spends k new 0 0 (omega arith) (c.time.ensures.same.core.memory ∙ c.pass.ensures.same.core.memory) (omega (arith, c.time.ensures.rooms, ap length c.pass.ensures.rooms)))
