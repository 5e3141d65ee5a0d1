use Rattle.std.proofs.Common.{◌≡◌, ◌+◌, length, take, true, ◌∙◌, arith, rules}
use Rattle.lat_explain.specs.Forms.{begins, taken_shown}
use Rattle.lat_explain.proofs.Begun.{begun_on}
use Rattle.lat_explain.proofs.form.begun.Goals as goal

pub loop-count-preserved : goal.loop-count-preserved
loop-count-preserved c =
    let k = c.loop-count.count in
    let yes : begins (taken_shown c.args.taken) c.args.form.now (take (k + 1) c.args.word.now) ≡ true = search rules in
    c.loop-count.invariant ∙ begun_on (taken_shown c.args.taken) c.args.form.now c.args.word.now (length c.args.word.now) k (omega (arith, c.loop-count-test.true)) yes
