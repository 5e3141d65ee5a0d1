use Rattle.std.proofs.Common.{sym, ◌∙◌, arith}
use Rattle.lat_explain.proofs.Fronts.{front_here, front_more, front_none}
use Rattle.lat_explain.proofs.form.is_front.Goals as goal

pub returns-then-is_within : goal.returns-then-is_within
returns-then-is_within c =
    sym (c.loop.invariant
    ∙ front_here c.loop.counter c.loop.least c.loop.most c.args.number (omega (arith, c.loop-test.true)) (sym c.is_within.ensures ∙ c.if-is_within.true))

pub loop-preserved : goal.loop-preserved
loop-preserved c =
    c.loop.invariant
    ∙ front_more c.loop.counter c.loop.least c.loop.most c.args.number (omega (arith, c.loop-test.true)) (sym c.is_within.ensures ∙ c.if-is_within.false)

pub returns : goal.returns
returns c = sym (c.loop.invariant ∙ front_none c.loop.counter c.loop.least c.loop.most c.args.number (omega (arith, c.loop-test.false)))
