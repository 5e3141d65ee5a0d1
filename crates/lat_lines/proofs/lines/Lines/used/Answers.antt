use Rattle.std.proofs.Common.{length, ap, ◌∙◌, arith, Fits-le, Fits-lit}
use Rattle.lat_lines.specs.Shown.{shown}
use Rattle.lat_lines.proofs.OnLines.{used_count}
use Rattle.lat_lines.proofs.Pigeons.{few_seats}
use Rattle.lat_lines.proofs.lines.Lines.used.Goals as goal

pub overflow_cast-result : goal.overflow_cast-result
overflow_cast-result c =
    let few = few_seats (shown c.self.inside) c.self.invariant.0 in
    let most = c.self.invariant.0.lines.1 in
    Fits-le {n = 64} (omega (arith, few, most, c.len.ensures, c.self.inside.seats.ok.0)) (Fits-lit tt)

pub returns-clause-value : goal.returns-clause-value
returns-clause-value c =
    let few = few_seats (shown c.self.inside) c.self.invariant.0 in
    let lines = ap (λ z. z.lines) c.self.view_is in
    omega (arith, few, lines, c.len.ensures, c.self.inside.seats.ok.0)

pub returns-clause-model : goal.returns-clause-model
returns-clause-model c = λ d st. c.len.ensures ∙ c.self.inside.seats.ok.0 ∙ ap (λ z. length z.seats) c.self.view_is ∙ used_count c.args.self.now d st
