use Rattle.std.proofs.Common.{◌-◌, ◌++◌, ◌∷◌, [], sym, ap, ◌∙◌, arith}
use Rattle.lat_switch.specs.Lines.{opened_lines}
use Rattle.lat_switch.proofs.Lines.{opened_more}
use Rattle.lat_switch.proofs.make.opened_lines.Goals as goal

pub loop-number-preserved : goal.loop-number-preserved
loop-number-preserved c =
    c.in_ok-push.ensures.items
    ∙ ap (λ ls. ls ++ c.open.result ∷ []) c.loop-number.invariant
    ∙ ap (λ l. opened_lines (c.loop-number.number - 1) ++ l ∷ []) c.open.ensures
    ∙ sym (opened_more c.loop-number.number (omega arith))
