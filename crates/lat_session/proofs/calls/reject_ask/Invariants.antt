use Rattle.std.proofs.Common.{◌≡◌, ◌++◌, cond, map, take, drop}
use Rattle.lat_session.specs.Table.{waits_as}
use Rattle.lat_session.proofs.calls.reject_ask.Given as goal

abbrev pub invariant-loop-ask : goal.invariant-loop-ask
invariant-loop-ask l =
    l.asks ≡ map (λ a. cond (waits_as l.id a) l.rejected a) (take l.ask-index l.initial.asks) ++ drop l.ask-index l.initial.asks
