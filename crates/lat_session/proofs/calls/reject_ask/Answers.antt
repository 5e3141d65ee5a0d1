use Rattle.std.proofs.Common.{◌∙◌, ap, cond, get_or, slice_set}
use Rattle.lat_session.specs.Table.{waits_as}
use Rattle.lat_session.specs.declared.ask.Ask.{Ask}
use Rattle.lat_session.specs.declared.ask.Ask.TheVariants.{Waits}
use Rattle.lat_session.proofs.Writes.{mapped_next}
use Rattle.lat_session.proofs.calls.reject_ask.Goals as goal

pub loop-ask-preserved : goal.loop-ask-preserved
loop-ask-preserved c =
    let turn : Ask → Ask = λ a. cond (waits_as c.args.id a) c.args.rejected a in
    let i = c.loop-ask.ask-index in
    ap (slice_set c.loop-ask.asks i) c.rejected_ask.ensures
    ∙ ap (λ xs. slice_set xs i (turn (get_or xs i (Waits 0)))) c.loop-ask.invariant
    ∙ mapped_next turn c.args.asks.now i (Waits 0) c.loop-ask-test.true
