use Rattle.std.proofs.Common.{◌∙◌, sym, ap, ◌&&◌}
use Rattle.lat_model.specs.ends.End.{End}
use Rattle.lat_machines.specs.server.Server.{has_room}
use Rattle.lat_session.specs.Table as table
use Rattle.lat_lines.specs.circuits.Living.{room_in}
use Rattle.lat_lines.proofs.CircuitFound.{found_is, none_lives}
use Rattle.lat_lines.proofs.circuits.Circuits.has_room.Goals as goal

pub returns-then-lives-clause-model : goal.returns-then-lives-clause-model
returns-then-lives-clause-model c = λ d st.
    let e : End = (d.circuits.circuit_at c.args.circuit).end in
    let f = found_is c.args.self.now d c.args.circuit c.in-Some.held.now (sym c.in-Some.ensures.value) st in
    c.has_room.ensures.model e f.end ∙ ap (λ b. b && has_room d c.args.circuit) (sym (sym (c.lives.ensures.model e f.end) ∙ c.if-lives.true))

pub returns-else-lives-clause-model : goal.returns-else-lives-clause-model
returns-else-lives-clause-model c = λ d st.
    let e : End = (d.circuits.circuit_at c.args.circuit).end in
    let f = found_is c.args.self.now d c.args.circuit c.in-Some.held.now (sym c.in-Some.ensures.value) st in
    c.if-lives.false ∙ ap (λ b. b && has_room d c.args.circuit) (sym (sym (c.lives.ensures.model e f.end) ∙ c.if-lives.false))

pub returns-in-None-clause-model : goal.returns-in-None-clause-model
returns-in-None-clause-model c = λ d st.
    ap (λ b. b && has_room d c.args.circuit) (sym (none_lives c.args.self.now d c.args.circuit (sym c.in-None.ensures.value) st))

pub returns-then-lives-clause-value : goal.returns-then-lives-clause-value
returns-then-lives-clause-value c =
    c.has_room.ensures.value
    ∙ ap (λ b. b && table.has_room c.in-Some.held.now.sessions) (sym (sym c.lives.ensures.value ∙ c.if-lives.true))
    ∙ ap room_in c.in-Some.ensures.value

pub returns-else-lives-clause-value : goal.returns-else-lives-clause-value
returns-else-lives-clause-value c =
    c.if-lives.false
    ∙ ap (λ b. b && table.has_room c.in-Some.held.now.sessions) (sym (sym c.lives.ensures.value ∙ c.if-lives.false))
    ∙ ap room_in c.in-Some.ensures.value
