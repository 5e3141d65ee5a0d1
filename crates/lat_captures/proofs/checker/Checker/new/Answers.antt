use Rattle.std.proofs.Common.{ap, refl}
use Rattle.lat_captures.specs.declared.side.Side.{Side}
use Rattle.lat_captures.proofs.Starts.{starts_from}
use Rattle.lat_captures.proofs.checker.Checker.new.Goals as goal

pub returns-clause-stands : goal.returns-clause-stands
returns-clause-stands c = λ tell. starts_from tell _
    (ap (λ r. let s : Side = record { count = 0; acknowledged = 0; recent = r } in s) c.new.ensures)
    (ap (λ r. let s : Side = record { count = 0; acknowledged = 0; recent = r } in s) c.new-2.ensures)
    c.new-3.ensures refl refl
