use Rattle.std.proofs.Common.{◌≡◌, ◌∙◌, arith, rules}
use Rattle.lat_text.specs.Lines.{Line, lines_of}
use Rattle.lat_explain.proofs.Befores.{last_on}
use Rattle.lat_explain.proofs.before.last_line.Goals as goal

pub loop-preserved : goal.loop-preserved
loop-preserved c =
    let is : lines_of c.loop.rest.now ≡ Line c.in-Some.line.now (lines_of c.in-Some.behind.now) = search rules in
    c.loop.invariant
    ∙ last_on c.args.count c.loop.counter c.loop.rest.now c.in-Some.line.now c.in-Some.behind.now c.loop.found.now c.unless_silent-found.result.now
    (omega (arith, c.loop-test.true)) is c.unless_silent-found.ensures
