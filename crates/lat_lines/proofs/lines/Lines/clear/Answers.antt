use Rattle.std.proofs.Common.{◌≤◌, length, arith, sym, ap, subst}
use Rattle.lat_lines.specs.Stands.{Stands}
use Rattle.lat_lines.specs.Kept.{Kept}
use Rattle.lat_lines.specs.Shown.{shown}
use Rattle.lat_lines.proofs.Standing.{stands_as}
use Rattle.lat_lines.proofs.lines.Lines.clear.Goals as goal

pub returns-clause-state : goal.returns-clause-state
returns-clause-state c = λ d st.
    let st2 : Stands (shown c.self.inside) d = subst (λ z. Stands z d) (sym c.self.view_is) st in
    stands_as (shown c.self.inside) c.clear.new.self c.clear-2.new.self.items d st2 (c.clear.ensures.state d st2.circuits)

pub returns-clause-rooms : goal.returns-clause-rooms
returns-clause-rooms c = omega (arith, c.clear.ensures.rooms, ap (λ (z : Kept). length z.circuits.rooms) c.self.view_is)
