use Rattle.std.proofs.Common.{◌≡◌, ◌+◌, ◌≤◌, length, sym, ap, subst, ◌∙◌}
use Rattle.lat_model.specs.Lists.{Each}
use Rattle.lat_lines.specs.circuits.Kept as circuits
use Rattle.lat_lines.specs.circuits.Kept.{with_memory}
use Rattle.lat_lines.specs.Kept.{Kept}
use Rattle.lat_lines.specs.Stands.{Stands}
use Rattle.lat_lines.specs.Shown.{shown}
use Rattle.lat_lines.proofs.Standing.{stands_as}
use Rattle.lat_lines.proofs.lines.Lines.add_rooms.Goals as goal

pub returns-clause-state : goal.returns-clause-state
returns-clause-state c = λ d st.
    let k = shown c.self.inside in
    let st2 : Stands k d = subst (λ z. Stands z d) (sym c.self.view_is) st in
    stands_as k c.add_rooms.new.self k.freed d st2 (c.add_rooms.ensures.state d st2.circuits)

pub returns-clause-kept : goal.returns-clause-kept
returns-clause-kept c =
    ap (λ (q : circuits.Kept). record (shown c.self.inside) { circuits = q }) c.add_rooms.ensures.kept
    ∙ ap (λ (z : Kept). record z { circuits = record (z.circuits) { rooms = c.add_rooms.new.self.rooms } }) c.self.view_is

pub returns-clause-rooms : goal.returns-clause-rooms
returns-clause-rooms c = c.add_rooms.ensures.rooms ∙ ap (λ (z : Kept). length z.circuits.rooms + length c.args.more.items) c.self.view_is

pub add_rooms-requires-clause-most : goal.add_rooms-requires-clause-most
add_rooms-requires-clause-most c = subst (λ (z : Kept). with_memory z.circuits + length c.args.more.items ≤ 8) (sym c.self.view_is) c.requires.most

pub add_rooms-requires-clause-each : goal.add_rooms-requires-clause-each
add_rooms-requires-clause-each c = subst (λ (z : Kept). Each (λ size. z.circuits.timing.sessions ≤ size) c.args.more.items) (sym c.self.view_is) c.requires.each
