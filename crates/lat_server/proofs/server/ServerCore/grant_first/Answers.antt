use Rattle.std.proofs.Common.{◌≡◌, true, false, sym, ap, subst, ◌∙◌}
use Rattle.lat_machines.specs.values.Addresses.{address}
use Rattle.lat_machines.specs.server.Queue.{next_request}
use Rattle.lat_machines.specs.server.Server.{Passing, can_open}
use Rattle.lat_queue.specs.Histories.{key_shown, some_first}
use Rattle.lat_server.specs.Kept.{Kept, config_of}
use Rattle.lat_server.specs.Shown.{shown}
use Rattle.lat_server.specs.Events.{HasPassed}
use Rattle.lat_server.proofs.Granting.{FirstIs, first_is, at_can, at_cannot}
use Rattle.lat_server.proofs.server.ServerCore.grant_first.Goals as goal

pub returns-then-can_open-clause-passes : goal.returns-then-can_open-clause-passes
returns-then-can_open-clause-passes c = λ p start h hold.
    let k : Kept = c.args.self.now in
    let in_it : HasPassed p (shown c.self.inside) start c.args.out.now = subst (λ (z : Kept). HasPassed p z start c.args.out.now) (sym c.self.view_is) h in
    let f : FirstIs (next_request c.args.service.now p.state.queue) (key_shown c.in-Some.key) (address c.in-Some.from.0) = first_is (next_request c.args.service.now p.state.queue) (key_shown c.in-Some.key) (address c.in-Some.from.0) (ap some_first (sym c.in-Some.is) ∙ c.first.ensures p.state.queue in_it.state.queue) in
    let can : can_open p.state.core f.request.from ≡ true = ap (can_open p.state.core) f.from ∙ sym (c.can_open.ensures p.state.core h.state.lines) ∙ c.if-can_open.true in
    subst (λ (z : Passing). HasPassed z c.grant.new.self start c.grant.new.out) (sym (at_can (config_of k) c.args.line c.args.service.now p (next_request c.args.service.now p.state.queue) f.request f.is can))
    (c.grant.ensures.passes p start f.request h hold f.is f.key f.from can)

pub returns-else-can_open-clause-passes : goal.returns-else-can_open-clause-passes
returns-else-can_open-clause-passes c = λ p start h hold.
    let k : Kept = c.args.self.now in
    let in_it : HasPassed p (shown c.self.inside) start c.args.out.now = subst (λ (z : Kept). HasPassed p z start c.args.out.now) (sym c.self.view_is) h in
    let f : FirstIs (next_request c.args.service.now p.state.queue) (key_shown c.in-Some.key) (address c.in-Some.from.0) = first_is (next_request c.args.service.now p.state.queue) (key_shown c.in-Some.key) (address c.in-Some.from.0) (ap some_first (sym c.in-Some.is) ∙ c.first.ensures p.state.queue in_it.state.queue) in
    let can : can_open p.state.core f.request.from ≡ false = ap (can_open p.state.core) f.from ∙ sym (c.can_open.ensures p.state.core h.state.lines) ∙ c.if-can_open.false in
    subst (λ (z : Passing). HasPassed z k start c.args.out.now) (sym (at_cannot (config_of k) c.args.line c.args.service.now p (next_request c.args.service.now p.state.queue) f.request f.is can)) h

pub returns-else-can_open-clause-shut : goal.returns-else-can_open-clause-shut
returns-else-can_open-clause-shut c = λ core s. sym (c.can_open.ensures core s) ∙ c.if-can_open.false
