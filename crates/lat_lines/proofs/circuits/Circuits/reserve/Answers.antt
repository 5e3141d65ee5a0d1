use Rattle.std.proofs.Common.{◌≡◌, ◌+◌, ◌<◌, ◌≤◌, length, arith}
use Rattle.lat_lines.specs.circuits.Kept.{Kept, AreRooms}
use Rattle.lat_lines.proofs.circuits.Reserving.{ready_with}
use Rattle.lat_lines.proofs.circuits.Circuits.reserve.Goals as goal

pub returns-clause-ready : goal.returns-clause-ready
returns-clause-ready c =
    ready_with c.args.count c.args.self.now c.add_rooms.new.self c.in_ok-more.more.items c.in_ok-more.ensures c.add_rooms.ensures.kept c.add_rooms.ensures.rooms

pub returns-clause-few : goal.returns-clause-few
returns-clause-few c = λ grown.
    let are : AreRooms c.args.count c.args.self.now c.in_ok-more.more.items = c.in_ok-more.ensures in
    omega (arith, c.add_rooms.ensures.rooms, are.few (omega (arith, grown, c.add_rooms.ensures.rooms)))
