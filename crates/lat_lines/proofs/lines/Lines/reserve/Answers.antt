use Rattle.std.proofs.Common.{◌<◌, length, sym, ap, subst, ◌∙◌}
use Rattle.lat_lines.specs.circuits.Kept as circuits
use Rattle.lat_lines.specs.Kept.{Kept}
use Rattle.lat_lines.specs.Stands.{Stands}
use Rattle.lat_lines.specs.Shown.{shown}
use Rattle.lat_lines.proofs.Standing.{stands_as}
use Rattle.lat_lines.proofs.circuits.Reserving.{on_err}
use Rattle.lat_lines.proofs.lines.Lines.reserve.Goals as goal

pub returns-clause-state : goal.returns-clause-state
returns-clause-state c = λ d st.
    let k = shown c.self.inside in
    let st2 : Stands k d = subst (λ z. Stands z d) (sym c.self.view_is) st in
    stands_as k c.reserve.new.self k.freed d st2 (c.reserve.ensures.state d st2.circuits)

pub returns-clause-kept : goal.returns-clause-kept
returns-clause-kept c =
    ap (λ (q : circuits.Kept). record (shown c.self.inside) { circuits = q }) c.reserve.ensures.kept
    ∙ ap (λ (z : Kept). record z { circuits = record (z.circuits) { rooms = c.reserve.new.self.rooms } }) c.self.view_is

pub returns-clause-few : goal.returns-clause-few
returns-clause-few c = λ grown.
    c.reserve.ensures.few (subst (λ (z : Kept). length z.circuits.rooms < length c.reserve.new.self.rooms) (sym c.self.view_is) grown)

pub returns-clause-err : goal.returns-clause-err
returns-clause-err c =
    on_err c.reserve.result (λ same. ap (λ (q : circuits.Kept). record (shown c.self.inside) { circuits = q }) same ∙ c.self.view_is) c.reserve.ensures.err
