use Rattle.std.proofs.Common.{◌≤◌}
use Rattle.lat_tariff.specs.Tariffs.{AreKnown}
use Rattle.lat_tariff.specs.declared.rules.WhileFree.{WhileFree}
use Rattle.lat_roles.proofs.tariff.play_many.Given as goal

abbrev pub invariant-loop-rating : goal.invariant-loop-rating
invariant-loop-rating l = AreKnown (λ (r : WhileFree). 1 ≤ r.rating) l.rules.items
