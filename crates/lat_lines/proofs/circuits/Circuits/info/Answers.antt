use Rattle.std.proofs.Common.{◌∙◌, sym, ap, Some, None}
use Rattle.std.specs.Option.{is_some}
use Rattle.lat_lines.proofs.CircuitFound.{found_is, found_has, side_of_found}
use Rattle.lat_lines.specs.circuits.Info.{telling_of}
use Rattle.lat_lines.proofs.circuits.Circuits.info.Goals as goal

pub returns-in_err-held-clause-held : goal.returns-in_err-held-clause-held
returns-in_err-held-clause-held c =
    ap is_some c.from_residual.ensures ∙ found_has c.args.self.now c.args.circuit None (sym c.in_err-held.ensures.value)

pub returns-clause-model : goal.returns-clause-model
returns-clause-model c = λ d st.
    let f = found_is c.args.self.now d c.args.circuit c.in_ok-held.held.now (sym c.in_ok-held.ensures.value) st in
    c.tell.ensures d f.is ∙ ap (λ x. telling_of d x c.args.id) f.id

pub returns-clause-held : goal.returns-clause-held
returns-clause-held c = found_has c.args.self.now c.args.circuit (Some c.in_ok-held.held.now) (sym c.in_ok-held.ensures.value)

pub returns-clause-side : goal.returns-clause-side
returns-clause-side c = λ d st. side_of_found c.args.self.now d c.args.circuit c.in_ok-held.held.now (sym c.in_ok-held.ensures.value) c.in_ok-held.ensures.own st
