use Rattle.std.proofs.Common.{◌≡◌, List, ℕ, ◌-◌, ◌++◌, ap, sym, ◌∙◌, arith, rules}
use Rattle.std.specs.Prelude.{Option}
use Rattle.std.proofs.lemmas.List.{append-nil}
use Rattle.lat_text.specs.Lines.{Line, lines_of, no_line}
use Rattle.lat_explain.specs.Before.{second_said}
use Rattle.lat_explain.proofs.Befores.{seconds_on, seconds_end}
use Rattle.lat_explain.proofs.before.seconds.Goals as goal

pub returns-in_default : goal.returns-in_default
returns-in_default c =
    let is : lines_of c.loop.rest.now ≡ no_line c.loop.rest.now = search rules in
    let none = seconds_end c.args.word.now (c.args.count - c.loop.counter) c.loop.rest.now is in
    sym (c.loop.invariant ∙ ap (λ (xs : List ℕ). c.loop.all.items ++ xs) none ∙ append-nil c.loop.all.items)

pub loop-preserved : goal.loop-preserved
loop-preserved c =
    let is : lines_of c.loop.rest.now ≡ Line c.in-Some.line.now (lines_of c.in-Some.behind.now) = search rules in
    let now = c.in_ok-second_onto.ensures ∙ ap (λ (o : Option (List ℕ)). c.loop.all.items ++ second_said o) c.behind_word.ensures in
    c.loop.invariant
    ∙ seconds_on c.args.word.now c.args.count c.loop.counter c.loop.rest.now c.in-Some.line.now c.in-Some.behind.now c.loop.all.items c.second_onto.new.all.items
    (omega (arith, c.loop-test.true)) is now
