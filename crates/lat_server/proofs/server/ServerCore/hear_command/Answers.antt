use Rattle.std.proofs.Common.{◌+◌, sym, subst, arith, ap, ap₂, length, ◌∙◌}
use Rattle.std.proofs.lemmas.Grind.{common_steps}
use Rattle.lat_machines.specs.values.Addresses.{address}
use Rattle.lat_machines.specs.cores.Cores.{at_moment}
use Rattle.lat_machines.specs.server.Server.{with_core, status_frame, hears_command}
use Rattle.lat_notices.specs.declared.notice.Outcome.{Outcome}
use Rattle.lat_payload.specs.Frames.{GoesOutAs}
use Rattle.lat_payload.specs.Notices.{action_shown, outcome_shown, command_shown}
use Rattle.lat_server.specs.Commands.{may_wait, kept_answer, kept_outcome}
use Rattle.lat_lines.specs.circuits.Kept.{AreRooms}
use Rattle.lat_queue.specs.Tables.{Table, waiting_count}
use Rattle.lat_lines.specs.Kept as lines
use Rattle.lat_server.specs.Kept.{Kept, config_of, AtRest, HasSpare}
use Rattle.lat_server.specs.Shown.{shown}
use Rattle.lat_server.specs.Stands.{Stands}
use Rattle.lat_server.specs.Events.{HasDone}
use Rattle.lat_server.proofs.Hearing.{same_offers, did_command}
use Rattle.lat_server.proofs.Memory.{memory_added, spare_added}
use Rattle.lat_server.proofs.server.ServerCore.hear_command.Goals as goal

pub returns-clause-does : goal.returns-clause-does
returns-clause-does c = λ s st.
    let k : Kept = shown c.self.inside in
    let rest : AtRest k = subst AtRest (sym c.self.view_is) c.requires.rest in
    let in_it : Stands k s = subst (λ (z : Kept). Stands z s) (sym c.self.view_is) st in
    let m = command_shown c.args.command.now in
    let a = action_shown c.args.command.now.action in
    let from = address c.args.from.0 in
    let new : Kept = record k { lines = c.pass.new.self; queue = c.note.new.requests } in
    let sent : GoesOutAs c.status_frame.result (status_frame from m (outcome_shown (kept_outcome c.in_ok-kept.kept))) = subst (λ (o : Outcome). GoesOutAs c.status_frame.result (status_frame from m (outcome_shown o))) c.outcome_kept.ensures.value c.status_frame.ensures in
    let done : HasDone s (hears_command (config_of k) (with_core s (at_moment c.args.now s.core)) from m a) new (kept_answer c.in_ok-kept.kept) c.args.out.now c.push.new.self =
    did_command k s c.args.now from m a c.pass.new.self c.note.new.requests c.in_ok-kept.kept c.status_frame.result c.args.out.now c.push.new.self rest in_it (same_offers k c.self.invariant.services) (c.in_ok-kept.ensures.noted s.queue in_it.queue) sent c.push.ensures (c.pass.ensures.state s.core (c.add_rooms.ensures.state s.core in_it.lines)) (c.pass.ensures.freed ∙ ap (λ (z : lines.Kept). z.freed) c.add_rooms.ensures.kept) in
    subst (λ z. HasDone s (hears_command (config_of c.args.self.now) (with_core s (at_moment c.args.now s.core)) from m a) new z c.args.out.now c.push.new.self) (sym c.answer_kept.ensures.value)
    (subst (λ (z : Kept). HasDone s (hears_command (config_of z) (with_core s (at_moment c.args.now s.core)) from m a) new (kept_answer c.in_ok-kept.kept) c.args.out.now c.push.new.self) c.self.view_is done)

pub returns-clause-most : goal.returns-clause-most
returns-clause-most c = grind (arith, common_steps)

pub returns-clause-spare : goal.returns-clause-spare
returns-clause-spare c =
    let k : Kept = shown c.self.inside in
    let l = c.add_rooms.new.self in
    let more = c.in_ok-rooms.rooms.items in
    let kept = ap (λ (z : lines.Kept). z.circuits) c.add_rooms.ensures.kept in
    let all = c.pass.ensures.same.core.memory ∙ memory_added k.lines.circuits l.circuits more kept c.add_rooms.ensures.rooms in
    let are : AreRooms (waiting_count k.queue.entries + may_wait c.args.command.now.action) k.lines.circuits more = subst (λ n. AreRooms n k.lines.circuits more) (ap₂ (λ a b. a + b) c.count_waiting.ensures.value c.may_wait.ensures.value) c.in_ok-rooms.ensures in
    spare_added k c.note.new.requests c.pass.new.self more (may_wait c.args.command.now.action) are c.in_ok-kept.ensures.waiting all (ap length c.pass.ensures.rooms ∙ c.add_rooms.ensures.rooms)

pub returns-in_err-kept-clause-spare : goal.returns-in_err-kept-clause-spare
returns-in_err-kept-clause-spare c =
    let k : Kept = shown c.self.inside in
    subst (λ (q : Table). HasSpare 0 (record k { queue = q })) (sym c.in_err-kept.ensures.err) (subst (HasSpare 0) (sym c.self.view_is) c.requires.rest.memory)
