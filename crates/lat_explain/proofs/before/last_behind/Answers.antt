use Rattle.std.proofs.Common.{◌≡◌, List, ℕ, ap, ◌∙◌, arith, rules}
use Rattle.std.specs.Prelude.{Option}
use Rattle.lat_text.specs.Lines.{Line, lines_of}
use Rattle.lat_explain.specs.Before.{said_or}
use Rattle.lat_explain.proofs.Befores.{behind_on}
use Rattle.lat_explain.proofs.before.last_behind.Goals as goal

pub loop-preserved : goal.loop-preserved
loop-preserved c =
    let is : lines_of c.loop.rest.now ≡ Line c.in-Some.line.now (lines_of c.in-Some.behind.now) = search rules in
    let now = c.said_or-found.ensures ∙ ap (λ (o : Option (List ℕ)). said_or o c.loop.found.now) c.behind_word.ensures in
    c.loop.invariant
    ∙ behind_on c.args.word.now c.args.count c.loop.counter c.loop.rest.now c.in-Some.line.now c.in-Some.behind.now c.loop.found.now c.said_or-found.result.now
    (omega (arith, c.loop-test.true)) is now
