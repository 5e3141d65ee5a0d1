use Rattle.std.proofs.Common.{map, sym, ap, subst, ◌∙◌, ◌+◌}
use Rattle.lat_machines.specs.server.Server.{ServerConfig}
use Rattle.lat_server.specs.Stands.{Machine, IsMachine, opening, next}
use Rattle.lat_switch.specs.Kept.{Kept, IsValid}
use Rattle.lat_switch.specs.Lines.{gives_way}
use Rattle.lat_switch.proofs.Courses.{has_told, still_valid, same_after}
use Rattle.lat_switch.proofs.Quiet.{quiet_out}
use Rattle.lat_server.specs.Events.{cost}
use Rattle.lat_server.specs.Kept.{HasSpare}
use Rattle.lat_switch.proofs.switch.SwitchCore.tell.Goals as goal

pub returns-clause-valid : goal.returns-clause-valid
returns-clause-valid c =
    let v : IsValid c.args.self.now = c.requires.valid in
    let st : IsMachine c.self.inside.inner v.machine = subst (λ (z : Kept). IsMachine z.inner v.machine) (sym c.self.view_is) v.stands in
    still_valid c.local-answer.new.self c.give_way.new.self (next v.machine c.args.event.now) c.give_way.ensures.inner c.local-answer.ensures.rest (c.local-answer.ensures.state v.machine st)

pub returns-clause-same : goal.returns-clause-same
returns-clause-same c =
    let v : IsValid c.args.self.now = c.requires.valid in
    let st : IsMachine c.self.inside.inner v.machine = subst (λ (z : Kept). IsMachine z.inner v.machine) (sym c.self.view_is) v.stands in
    let m : Machine = next v.machine c.args.event.now in
    same_after c.args.self.now c.give_way.new.self m
    (c.give_way.ensures.lines m (c.local-answer.ensures.state v.machine st) ∙ ap (λ (z : Kept). map (gives_way m) z.lines) c.self.view_is)
    (ap opening c.give_way.ensures.inner ∙ c.local-answer.ensures.opening ∙ ap (λ (z : Kept). opening z.inner) c.self.view_is)

pub returns-clause-does : goal.returns-clause-does
returns-clause-does c = λ course h.
    let now : Machine = course.state.inner in
    let m : Machine = next now c.args.event.now in
    let st : IsMachine c.self.inside.inner now = subst (λ (z : Kept). IsMachine z.inner now) (sym c.self.view_is) h.state.inner in
    has_told course c.args.event.now c.args.self.now c.give_way.new.self c.local-answer.result c.args.out.now c.local-answer.new.out h c.requires.empty
    (subst (λ z. IsMachine z m) (sym c.give_way.ensures.inner) (c.local-answer.ensures.state now st))
    (c.give_way.ensures.lines m (c.local-answer.ensures.state now st) ∙ ap (λ (z : Kept). map (gives_way m) z.lines) c.self.view_is)
    (c.local-answer.ensures.answer now st)
    (c.local-answer.ensures.frames now st)

pub returns-clause-quiet : goal.returns-clause-quiet
returns-clause-quiet c = λ q.
    let v : IsValid c.args.self.now = c.requires.valid in
    let st : IsMachine c.self.inside.inner v.machine = subst (λ (z : Kept). IsMachine z.inner v.machine) (sym c.self.view_is) v.stands in
    quiet_out v.machine c.args.event.now c.local-answer.new.out (ap (λ (z : ServerConfig). z.offers) st.config ∙ c.self.invariant.offers) q (c.local-answer.ensures.frames v.machine st)

pub local-answer-requires-clause-memory : goal.local-answer-requires-clause-memory
local-answer-requires-clause-memory c = subst (λ (z : Kept). HasSpare (cost c.args.event.now) z.inner) (sym c.self.view_is) c.requires.memory

pub returns-clause-spare : goal.returns-clause-spare
returns-clause-spare c = λ n spare.
    subst (HasSpare n) (sym c.give_way.ensures.inner) (c.local-answer.ensures.spare n (subst (λ (z : Kept). HasSpare (cost c.args.event.now + n) z.inner) (sym c.self.view_is) spare))
