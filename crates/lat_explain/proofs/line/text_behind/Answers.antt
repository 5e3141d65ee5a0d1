use Rattle.std.proofs.Common.{◌∙◌, arith}
use Rattle.lat_explain.proofs.Behinds.{behind_more}
use Rattle.lat_explain.proofs.line.text_behind.Goals as goal

pub loop-preserved : goal.loop-preserved
loop-preserved c =
    let next = c.past_line-rest in
    record {
      value = c.loop.invariant.value ∙ behind_more c.args.count c.loop.counter c.loop.rest.now next.result.now (omega (arith, c.loop-test.true)) next.ensures.value;
      most = omega (arith, next.ensures.most, c.loop.invariant.most);
    }
