use Rattle.std.proofs.Common.{◌≡◌, None, sym, ap, subst, ◌∙◌, arith, length, true≢false}
use Rattle.lat_machines.specs.values.Addresses.{address}
use Rattle.lat_machines.specs.cores.Cores.{Core, Side, at_moment}
use Rattle.lat_machines.specs.server.Server.{server_side, with_core, hears_message}
use Rattle.lat_circuit.specs.Messages.{message_shown}
use Rattle.lat_lines.specs.circuits.Hears.{heard_core}
use Rattle.lat_payload.specs.Frames.{Emits}
use Rattle.lat_lines.specs.Strangers.{strangers_stop}
use Rattle.lat_lines.specs.AnswerValues.{answer_shown}
use Rattle.lat_lines.specs.Kept as lines
use Rattle.lat_lines.specs.Stands as stands
use Rattle.lat_server.specs.Kept.{Kept, config_of, HasSpare}
use Rattle.lat_server.specs.Shown.{shown}
use Rattle.lat_server.specs.Stands.{Stands}
use Rattle.lat_server.specs.Events.{HasDone}
use Rattle.lat_server.proofs.Connecting.{same_side}
use Rattle.lat_server.proofs.Hearing.{sides, did_message}
use Rattle.lat_server.proofs.Memory.{spends}
use Rattle.lat_server.proofs.server.ServerCore.hear_message.Goals as goal

pub returns-clause-does : goal.returns-clause-does
returns-clause-does c = λ s st.
    let k : Kept = shown c.self.inside in
    let in_it : Stands k s = subst (λ (z : Kept). Stands z s) (sym c.self.view_is) st in
    let m : Core = at_moment c.args.now s.core in
    let x = address c.args.from.0 in
    let message = message_shown c.args.message.now in
    let there : stands.Stands c.pass.new.self m = c.pass.ensures.state s.core in_it.lines in
    let side : lines.side_of c.pass.new.self ≡ server_side (config_of k) = sides k.lines c.pass.new.self c.pass.ensures.same ∙ sym (same_side k c.self.invariant.server) in
    let did : stands.HasStepped m (heard_core (server_side (config_of k)) x message m).doing c.heard-hearing.new.self c.args.out.now c.heard-hearing.new.out =
    subst (λ (z : Side). stands.HasStepped m (heard_core z x message m).doing c.heard-hearing.new.self c.args.out.now c.heard-hearing.new.out) side (c.heard-hearing.ensures.did m there) in
    let told : answer_shown c.hearing_answer.result ≡ (heard_core (server_side (config_of k)) x message m).answer = c.hearing_answer.ensures.value ∙ c.heard-hearing.ensures.answer m there ∙ ap (λ (z : Side). (heard_core z x message m).answer) side in
    let out = c.heard-hearing.new.out in
    let stop : Emits (strangers_stop (server_side (config_of k)) k.prompt m x message) out c.push_if_any.new.out =
    subst (λ (z : Side). Emits (strangers_stop z k.prompt m x message) out c.push_if_any.new.out) side
    (subst (Emits (strangers_stop (lines.side_of c.pass.new.self) k.prompt m x message) out) (sym c.push_if_any.ensures) (c.stranger_stop-stop.ensures m out there)) in
    subst (λ (z : Kept). HasDone s (hears_message (config_of z) (with_core s m) x message None) (record k { lines = c.heard-hearing.new.self }) c.hearing_answer.result c.args.out.now c.push_if_any.new.out) c.self.view_is
    (did_message k s c.args.now x message c.heard-hearing.new.self c.hearing_answer.result c.args.out.now out c.push_if_any.new.out in_it did told stop)

pub returns-clause-spare : goal.returns-clause-spare
returns-clause-spare c =
    let k : Kept = shown c.self.inside in
    let new : Kept = record k { lines = c.heard-hearing.new.self } in
    let server = c.pass.ensures.same.core.server ∙ c.self.invariant.server in
    spends k new 0 0 (omega arith) (c.heard-hearing.ensures.same.core.memory ∙ c.pass.ensures.same.core.memory) (omega (arith, c.heard-hearing.ensures.rooms server, ap length c.pass.ensures.rooms)) 0
    (subst (HasSpare 0) (sym c.self.view_is) c.requires.rest.memory)

pub heard-hearing-requires-clause-memory : goal.heard-hearing-requires-clause-memory
heard-hearing-requires-clause-memory c = λ node call.
    absurd (true≢false (sym (c.pass.ensures.same.core.server ∙ c.self.invariant.server) ∙ node))
