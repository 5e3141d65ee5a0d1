use Rattle.std.proofs.Common.{◌≡◌, replicate, ap, ◌∙◌}
use Rattle.lat_lines.specs.circuits.Kept.{Kept, AreRooms}
use Rattle.lat_lines.proofs.circuits.Reserving.{are_rooms, if_ok}
use Rattle.lat_lines.proofs.circuits.Circuits.rooms_for.Goals as goal

pub returns : goal.returns
returns c =
    if_ok c.rooms.result (λ v. v.items ≡ replicate c.missing.result c.self.inside.timing.sessions) (λ v. AreRooms c.args.count c.args.self.now v.items)
    (λ v is. are_rooms c.args.count c.args.self.now c.missing.result c.self.inside.timing.sessions v.items (ap (λ (z : Kept). z.timing.sessions) c.self.view_is) c.missing.ensures.enough c.missing.ensures.few c.missing.ensures.most is)
    c.rooms.ensures
