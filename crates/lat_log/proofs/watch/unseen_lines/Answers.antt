use Rattle.std.proofs.Common.{◌≡◌, ◌+◌, ◌-◌, [], ◌∷◌, ◌++◌, None, ap, ◌∙◌, arith, rules}
use Rattle.lat_log.specs.Watches.{unseen_from}
use Rattle.lat_log.proofs.UnseenLines.{full, more}
use Rattle.lat_log.proofs.watch.unseen_lines.Goals as goal

pub loop-line-preserved : goal.loop-line-preserved
loop-line-preserved c =
    let pushed : c.push.new.self.items ≡ c.loop-line.lines.items ++ record { line = c.loop-line.line + 1; session = None } ∷ [] = search rules in
    ap (λ xs. xs ++ unseen_from (c.loop-line.line + 1 + 1) (c.args.count - (c.loop-line.line + 1))) pushed
    ∙ more c.loop-line.line c.args.count c.loop-line.lines.items _ c.loop-line-test.true c.loop-line.invariant

pub returns : goal.returns
returns c = full c.loop-line.line c.args.count c.loop-line.lines.items _ (omega (arith, c.loop-line-test.false)) c.loop-line.invariant
