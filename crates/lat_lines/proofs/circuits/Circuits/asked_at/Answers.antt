use Rattle.std.proofs.Common.{◌≡◌, ◌∙◌, sym, ap, cond, ◌&&◌, false, Some, None}
use Rattle.lat_model.specs.ends.End.{End}
use Rattle.lat_model.specs.sessions.Session.{waits}
use Rattle.lat_model.specs.sessions.Sessions.{named}
use Rattle.lat_session.specs.States.{is_asked, asked_at}
use Rattle.lat_session.specs.Table.{state_at}
use Rattle.lat_lines.specs.circuits.Info.{asks_in}
use Rattle.lat_lines.proofs.CircuitFound.{found_is, none_lives, same_ask, slave_of}
use Rattle.lat_lines.proofs.circuits.Circuits.asked_at.Goals as goal

pub returns-in_err-held-clause-model : goal.returns-in_err-held-clause-model
returns-in_err-held-clause-model c = λ d st node.
    let e : End = (d.circuits.circuit_at c.args.circuit).end in
    c.from_residual.ensures
    ∙ ap (λ b. cond (b && waits (named e.half.sessions c.args.id)) (Some (asked_at e.half.sessions c.args.id)) None) (sym (none_lives c.args.self.now d c.args.circuit (sym c.in_err-held.ensures.value) st))

pub returns-then-lives-clause-value : goal.returns-then-lives-clause-value
returns-then-lives-clause-value c =
    c.asked_at.ensures.value
    ∙ ap (λ b. b && is_asked (state_at c.in_ok-held.held.now.sessions c.args.id)) (sym (sym c.lives.ensures.value ∙ c.if-lives.true))
    ∙ ap (λ o. asks_in o c.args.id) c.in_ok-held.ensures.value

pub returns-else-lives-clause-value : goal.returns-else-lives-clause-value
returns-else-lives-clause-value c =
    ap (λ b. b && is_asked (state_at c.in_ok-held.held.now.sessions c.args.id)) (sym (sym c.lives.ensures.value ∙ c.if-lives.false))
    ∙ ap (λ o. asks_in o c.args.id) c.in_ok-held.ensures.value

pub returns-then-lives-clause-model : goal.returns-then-lives-clause-model
returns-then-lives-clause-model c = λ d st node.
    let e : End = (d.circuits.circuit_at c.args.circuit).end in
    let f = found_is c.args.self.now d c.args.circuit c.in_ok-held.held.now (sym c.in_ok-held.ensures.value) st in
    let slave : e.half.sessions.master ≡ false = slave_of c.in_ok-held.held.now e f.end (c.in_ok-held.ensures.own.side ∙ node) in
    same_ask _ (waits (named e.half.sessions c.args.id)) c.asked_at.result (asked_at e.half.sessions c.args.id) (c.asked_at.ensures.model e f.end) (c.asked_at.ensures.slave e f.end slave)
    ∙ ap (λ b. cond (b && waits (named e.half.sessions c.args.id)) (Some (asked_at e.half.sessions c.args.id)) None) (sym (sym (c.lives.ensures.model e f.end) ∙ c.if-lives.true))

pub returns-else-lives-clause-model : goal.returns-else-lives-clause-model
returns-else-lives-clause-model c = λ d st node.
    let e : End = (d.circuits.circuit_at c.args.circuit).end in
    let f = found_is c.args.self.now d c.args.circuit c.in_ok-held.held.now (sym c.in_ok-held.ensures.value) st in
    ap (λ b. cond (b && waits (named e.half.sessions c.args.id)) (Some (asked_at e.half.sessions c.args.id)) None) (sym (sym (c.lives.ensures.model e f.end) ∙ c.if-lives.false))
