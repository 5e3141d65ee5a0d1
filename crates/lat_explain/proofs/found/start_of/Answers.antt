use Rattle.std.proofs.Common.{sym, ◌∙◌, arith}
use Rattle.lat_explain.proofs.Begun.{start_here}
use Rattle.lat_explain.proofs.found.start_of.Goals as goal

pub returns-then-place-at-clause-value : goal.returns-then-place-at-clause-value
returns-then-place-at-clause-value c =
    let l = c.loop-place in
    sym (l.invariant.value ∙ start_here c.args.line.now l.place l.start c.args.at (omega (arith, c.loop-place-test.true)) c.if-place-at.true)
