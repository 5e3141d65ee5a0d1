use Rattle.std.proofs.Common.{◌≡◌, true, false, map, Some, sym, ap, subst, ◌∙◌}
use Rattle.std.proofs.lemmas.Option.{none-some, same_Some}
use Rattle.lat_model.specs.sessions.Sessions.{named}
use Rattle.lat_model.specs.sessions.Calls.{Answer}
use Rattle.lat_model.specs.ends.End.{lives}
use Rattle.lat_machines.specs.cores.Cores.{Core}
use Rattle.lat_queue.specs.Histories.{key_shown}
use Rattle.lat_lines.specs.circuits.Stands.{calling}
use Rattle.lat_lines.specs.Kept.{Kept, side_of}
use Rattle.lat_lines.specs.Stands.{Stands, freed_between}
use Rattle.lat_lines.specs.Opens.{accepted_core}
use Rattle.lat_lines.specs.Shown.{shown}
use Rattle.lat_lines.proofs.Acting.{ok_of}
use Rattle.lat_lines.proofs.CoresLater.{calling_later}
use Rattle.lat_session.specs.States.{asked_at}
use Rattle.lat_session.specs.declared.getters.Asked.{Asked}
use Rattle.lat_lines.specs.Later.{asked_for}
use Rattle.lat_lines.proofs.Accepting.{none_still, called_lives, accepted_leads, accepted_wants, accepted_frees, ask_found}
use Rattle.lat_lines.proofs.resting.Calls.{answer_calm}
use Rattle.lat_lines.proofs.resting.Rested.{rested}
use Rattle.lat_lines.proofs.Unchanged.{lines_same}
use Rattle.lat_lines.proofs.lines.Lines.accept.Goals as goal

pub returns-in-Some-clause-state : goal.returns-in-Some-clause-state
returns-in-Some-clause-state c = λ d st none l w.
    let k = shown c.self.inside in
    let x = c.args.circuit in
    let call = Answer c.args.id in
    let e : Core = calling (side_of k) x call d in
    let st2 : Stands k d = subst (λ z. Stands z d) (sym c.self.view_is) st in
    let did = c.answer.ensures.state d st2.circuits in
    let later = calling_later (side_of k) x call d (ok_of k d st2) in
    let done : Stands c.rest.new.self e = (rested k c.answer.new.self c.rest.new.self d e st2 did later (answer_calm (side_of k) x c.args.id d) c.rest.ensures).state in
    let going : lives (e.circuits.circuit_at x).end ≡ true = called_lives (side_of k) x call d l in
    let was_node : k.circuits.server ≡ false = ap (λ (z : Kept). z.circuits.server) c.self.view_is ∙ c.requires.node in
    let node : c.rest.new.self.circuits.server ≡ false = ap (λ (z : Kept). z.circuits.server) c.rest.ensures ∙ c.answer.ensures.same.core.server ∙ was_node in
    let free_still = none_still k c.answer.new.self d e c.args.line st2 did later none in
    let leads = accepted_leads k (side_of k) x c.args.id d st2 l w (c.seat.ensures.side e done free_still going ∙ node) in
    let asked = asked_at (d.circuits.circuit_at x).end.half.sessions c.args.id in
    let found : Some asked ≡ Some c.in-Some.asked = sym (ask_found d x c.args.id c.asked_at-asked.result (c.asked_at-asked.ensures.model d st2.circuits was_node) l w) ∙ c.in-Some.is in
    let wanted : asked_for (named (e.circuits.circuit_at x).end.half.sessions c.args.id) ≡ (c.in-Some.asked.service, c.in-Some.asked.request) =
    accepted_wants (side_of k) x c.args.id d l ∙ ap (λ (a : Asked). (a.service, a.request)) (same_Some asked c.in-Some.asked found) in
    subst (λ (z : Kept). Stands c.seat.new.self (accepted_core (side_of z) c.args.line x c.args.id d)) c.self.view_is
    (c.seat.ensures.state e ((e.circuits.circuit_at x).end.half.sessions.at_id c.args.id) done free_still going leads wanted)

pub returns-in_default-clause-state : goal.returns-in_default-clause-state
returns-in_default-clause-state c = λ d st none l w.
    let k = shown c.self.inside in
    let x = c.args.circuit in
    let st2 : Stands k d = subst (λ z. Stands z d) (sym c.self.view_is) st in
    let was_node : k.circuits.server ≡ false = ap (λ (z : Kept). z.circuits.server) c.self.view_is ∙ c.requires.node in
    let asked = asked_at (d.circuits.circuit_at x).end.half.sessions c.args.id in
    absurd (none-some asked (sym c.in_default.is ∙ ask_found d x c.args.id c.asked_at-asked.result (c.asked_at-asked.ensures.model d st2.circuits was_node) l w))

-- the session that it has from now on frees none

pub returns-in-Some-clause-freed : goal.returns-in-Some-clause-freed
returns-in-Some-clause-freed c = λ d st.
    let k = shown c.self.inside in
    let x = c.args.circuit in
    let st2 : Stands k d = subst (λ z. Stands z d) (sym c.self.view_is) st in
    let call = Answer c.args.id in
    let later = calling_later (side_of k) x call d (ok_of k d st2) in
    let did = rested k c.answer.new.self c.rest.new.self d (calling (side_of k) x call d) st2 (c.answer.ensures.state d st2.circuits) later (answer_calm (side_of k) x c.args.id d) c.rest.ensures in
    subst (λ (z : Kept). map key_shown c.seat.new.self.freed ≡ freed_between d (accepted_core (side_of z) c.args.line x c.args.id d)) c.self.view_is
    (ap (map key_shown) c.seat.ensures.freed ∙ did.freed ∙ accepted_frees (side_of k) c.args.line x c.args.id d)

pub returns-in_default-clause-freed : goal.returns-in_default-clause-freed
returns-in_default-clause-freed c = λ d st.
    let k = shown c.self.inside in
    let x = c.args.circuit in
    let st2 : Stands k d = subst (λ z. Stands z d) (sym c.self.view_is) st in
    let call = Answer c.args.id in
    let later = calling_later (side_of k) x call d (ok_of k d st2) in
    let did = rested k c.answer.new.self c.rest.new.self d (calling (side_of k) x call d) st2 (c.answer.ensures.state d st2.circuits) later (answer_calm (side_of k) x c.args.id d) c.rest.ensures in
    subst (λ (z : Kept). map key_shown c.rest.new.self.freed ≡ freed_between d (accepted_core (side_of z) c.args.line x c.args.id d)) c.self.view_is
    (did.freed ∙ accepted_frees (side_of k) c.args.line x c.args.id d)

pub returns-in-Some-clause-same : goal.returns-in-Some-clause-same
returns-in-Some-clause-same c =
    lines_same (shown c.self.inside) c.args.self.now c.seat.new.self c.answer.new.self (record { was = c.self.view_is; circuits = c.seat.ensures.circuits ∙ ap (λ (z : Kept). z.circuits) c.rest.ensures }) (c.seat.ensures.lines ∙ ap (λ (z : Kept). z.lines) c.rest.ensures) c.answer.ensures.same.core

pub returns-in_default-clause-same : goal.returns-in_default-clause-same
returns-in_default-clause-same c =
    lines_same (shown c.self.inside) c.args.self.now c.rest.new.self c.answer.new.self (record { was = c.self.view_is; circuits = ap (λ (z : Kept). z.circuits) c.rest.ensures }) (ap (λ (z : Kept). z.lines) c.rest.ensures) c.answer.ensures.same.core
