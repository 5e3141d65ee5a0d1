use Rattle.std.proofs.Common.{rules}
use Rattle.lat_cell.proofs.Wound.{not_wound, unwound, wound}
use Rattle.lat_cell.proofs.clock.wind_up.Goals as goal

pub returns-then-not-stopping-clause-wound : goal.returns-then-not-stopping-clause-wound
returns-then-not-stopping-clause-wound g c = not_wound _ _ _ _ _ _ _ (search rules)

pub returns-in-Err-clause-wound : goal.returns-in-Err-clause-wound
returns-in-Err-clause-wound g c = unwound _ _ _ _ _ _ _ _ c.halt.result _ (search rules) (search rules) (search rules) c.halt.ensures.limit

pub returns-in-Ok-clause-wound : goal.returns-in-Ok-clause-wound
returns-in-Ok-clause-wound g c = wound _ _ _ _ _ c.halt.new.cell _ _ _ _ (search rules) c.in-Ok.ensures.halted c.finish.ensures
