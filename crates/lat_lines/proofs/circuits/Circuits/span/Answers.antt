use Rattle.std.proofs.Common.{◌∙◌, sym, ap, cond, Some, None}
use Rattle.lat_model.specs.ends.End.{End}
use Rattle.lat_circuit.specs.Agrees.{span_of}
use Rattle.lat_lines.specs.circuits.Info.{some_span}
use Rattle.lat_lines.proofs.CircuitFound.{found_is, none_lives}
use Rattle.lat_lines.proofs.circuits.Circuits.span.Goals as goal

pub returns-in_err-held : goal.returns-in_err-held
returns-in_err-held c = λ d st.
    let e : End = (d.circuits.circuit_at c.args.circuit).end in
    c.from_residual.ensures
    ∙ ap (λ b. some_span (cond b (Some e.wide) None)) (sym (none_lives c.args.self.now d c.args.circuit (sym c.in_err-held.ensures.value) st))

pub returns-then-lives : goal.returns-then-lives
returns-then-lives c = λ d st.
    let e : End = (d.circuits.circuit_at c.args.circuit).end in
    let f = found_is c.args.self.now d c.args.circuit c.in_ok-held.held.now (sym c.in_ok-held.ensures.value) st in
    ap Some (c.span.ensures ∙ ap span_of f.end.wide)
    ∙ ap (λ b. some_span (cond b (Some e.wide) None)) (sym (sym (c.lives.ensures.model e f.end) ∙ c.if-lives.true))

pub returns-else-lives : goal.returns-else-lives
returns-else-lives c = λ d st.
    let e : End = (d.circuits.circuit_at c.args.circuit).end in
    let f = found_is c.args.self.now d c.args.circuit c.in_ok-held.held.now (sym c.in_ok-held.ensures.value) st in
    ap (λ b. some_span (cond b (Some e.wide) None)) (sym (sym (c.lives.ensures.model e f.end) ∙ c.if-lives.false))
