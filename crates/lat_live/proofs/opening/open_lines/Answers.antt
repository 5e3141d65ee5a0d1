use Rattle.std.proofs.Common.{◌≡◌, ◌+◌, Err, IfErr, sym, ap, subst, ◌∙◌, rules, refl}
use Rattle.lat_outside.specs.Openings.{with_line}
use Rattle.lat_live.specs.Opened.{IsRefusedAt, LineRefused}
use Rattle.lat_live.specs.declared.plan.LinePlan.{LinePlan}
use Rattle.lat_live.proofs.Asking.{line_refused}
use Rattle.lat_live.proofs.opening.open_lines.Goals as goal

pub returns-in_err-callers-clause-refused : goal.returns-in_err-callers-clause-refused
returns-in_err-callers-clause-refused g c =
    let o = g.O.PortOpener in
    let lines = c.args.lines.now in
    let first = o.asked c.args.opener.now in
    let new = o.asked c.open_line.new.opener in
    let fault = c.in_err-callers.field-0.0 in
    let is : c.from_residual-in_err-callers.result ≡ Err fault = search rules in
    subst (λ r. IfErr r (LineRefused lines first new)) (sym is)
    (line_refused lines c.loop-k.k _ c.index-lines-k.result first (o.asked c.loop-k.opener) new fault c.loop-k-test.true c.index-lines-k.is refl
    c.loop-k.invariant.asked
    (c.open_line.ensures.asked ∙ ap (λ (l : LinePlan). with_line (o.asked c.loop-k.opener) l.port) (sym c.index-lines-k.is))
    (subst (λ (l : LinePlan). IsRefusedAt (c.loop-k.k + 1) l.port fault) (sym c.index-lines-k.is) c.in_err-callers.ensures.refused))
