use Rattle.std.proofs.Common.{sym, ap, subst, arith, not, ◌≡◌, ◌+◌, ◌∙◌}
use Rattle.std.proofs.lemmas.Grind.{common_steps}
use Rattle.lat_machines.specs.values.Addresses.{address}
use Rattle.lat_machines.specs.server.Server.{granting}
use Rattle.lat_queue.specs.Histories.{key_shown, request_key}
use Rattle.lat_server.specs.Kept.{Kept, config_of, AtRest, HasSpare, Spends}
use Rattle.lat_queue.specs.Tables.{Table, waiting_count}
use Rattle.lat_server.specs.Shown.{shown}
use Rattle.lat_server.specs.Events.{HasPassed}
use Rattle.lat_server.proofs.Connecting.{same_side}
use Rattle.lat_server.proofs.Granting.{has_granted}
use Rattle.lat_server.proofs.Memory.{spends, spends_same, on_some, if_none, still_freed, none_granted}
use Rattle.lat_server.proofs.server.ServerCore.grant.Goals as goal

pub returns-clause-passes : goal.returns-clause-passes
returns-clause-passes c = λ p start r h holds n key from can.
    let k : Kept = shown c.self.inside in
    let in_it : HasPassed p k start c.args.out.now = subst (λ (z : Kept). HasPassed p z start c.args.out.now) (sym c.self.view_is) h in
    subst (λ (z : Kept). HasPassed (granting (config_of z) c.args.line c.args.service.now p r) (record k { lines = c.open.new.self; queue = c.grant.new.self }) start c.open.new.out) c.self.view_is
    (has_granted k p start c.args.out.now c.push.new.self c.open.new.out c.args.line c.args.service.now r (key_shown c.args.key) (address c.args.from.0) c.open.new.self c.grant.new.self c.grant.result c.status_frame.result c.open.result in_it n key from can
    (c.grant.ensures.answer p.state.queue in_it.state.queue) (c.grant.ensures.stands p.state.queue in_it.state.queue) c.status_frame.ensures c.push.ensures (c.open.ensures.answer p.state.core in_it.state.lines)
    (c.open.ensures.opened (config_of k) p.state.core (same_side k c.self.invariant.server) in_it.state.lines holds))

pub open-requires-clause-room : goal.open-requires-clause-room
open-requires-clause-room c = grind (arith, common_steps)

pub returns-clause-most : goal.returns-clause-most
returns-clause-most c = grind (arith, common_steps)

pub open-requires-clause-memory : goal.open-requires-clause-memory
open-requires-clause-memory c = λ short.
    let k : Kept = shown c.self.inside in
    let ready : HasSpare 0 k = subst (HasSpare 0) (sym c.self.view_is) c.requires.rest.memory in
    let fewer : waiting_count c.grant.new.self.entries + 1 ≡ waiting_count k.queue.entries = on_some _ c.grant.result (c.is_none.ensures ∙ ap not c.if-is_none.false) c.grant.ensures.waiting in
    ready (omega (arith, short, fewer))

pub returns-clause-spare : goal.returns-clause-spare
returns-clause-spare c =
    let k : Kept = shown c.self.inside in
    let new : Kept = record k { lines = c.open.new.self; queue = c.grant.new.self } in
    let fewer : waiting_count c.grant.new.self.entries + 1 ≡ waiting_count k.queue.entries = on_some _ c.grant.result (c.is_none.ensures ∙ ap not c.if-is_none.false) c.grant.ensures.waiting in
    subst (λ (z : Kept). Spends 0 z new) c.self.view_is
    (spends k new 0 1 (omega (arith, fewer)) c.open.ensures.same.core.memory c.open.ensures.rooms)

pub returns-then-is_none-clause-passes : goal.returns-then-is_none-clause-passes
returns-then-is_none-clause-passes c = λ p start r h holds n key from can.
    let k : Kept = shown c.self.inside in
    let in_it : HasPassed p k start c.args.out.now = subst (λ (z : Kept). HasPassed p z start c.args.out.now) (sym c.self.view_is) h in
    absurd (none_granted c.grant.result (c.is_none.ensures ∙ ap not c.if-is_none.true) r.key (c.grant.ensures.answer p.state.queue in_it.state.queue ∙ ap request_key n))

pub returns-clause-rest : goal.returns-clause-rest
returns-clause-rest c =
    let k : Kept = shown c.self.inside in
    let new : Kept = record k { lines = c.open.new.self; queue = c.grant.new.self } in
    let before : AtRest k = subst AtRest (sym c.self.view_is) c.requires.rest in
    let fewer : waiting_count c.grant.new.self.entries + 1 ≡ waiting_count k.queue.entries = on_some _ c.grant.result (c.is_none.ensures ∙ ap not c.if-is_none.false) c.grant.ensures.waiting in
    record {
      clear = c.open.ensures.clear;
      freed = still_freed (c.open.new.out ≡ c.push.new.self) c.open.result c.open.new.self k.lines c.open.ensures.freed c.open.ensures.err before.freed;
      memory = spends k new 0 1 (omega (arith, fewer)) c.open.ensures.same.core.memory c.open.ensures.rooms 0 before.memory;
    }

pub returns-then-is_none-clause-rest : goal.returns-then-is_none-clause-rest
returns-then-is_none-clause-rest c =
    let k : Kept = shown c.self.inside in
    let same : c.grant.new.self ≡ k.queue = if_none _ c.grant.result (c.is_none.ensures ∙ ap not c.if-is_none.true) c.grant.ensures.none in
    subst (λ (q : Table). AtRest (record k { queue = q })) (sym same) (subst AtRest (sym c.self.view_is) c.requires.rest)

pub returns-then-is_none-clause-spare : goal.returns-then-is_none-clause-spare
returns-then-is_none-clause-spare c =
    let k : Kept = shown c.self.inside in
    let same : c.grant.new.self ≡ k.queue = if_none _ c.grant.result (c.is_none.ensures ∙ ap not c.if-is_none.true) c.grant.ensures.none in
    subst (λ (q : Table). Spends 0 c.args.self.now (record k { queue = q })) (sym same)
    (subst (λ (z : Kept). Spends 0 z k) c.self.view_is (spends_same 0 k))
