-- What is kept, from the fields.
use Rattle.lat_lines.specs.declared.circuits.Circuits.TheInside.{Inside}
use Rattle.lat_lines.specs.circuits.Kept.{Kept}

abbrev pub shown : Inside → Kept
shown a = record {
  own = a.own;
  name = a.name;
  timing = a.timing;
  server = a.server;
  first = a.first;
  drawn = a.drawn;
  moment = a.moment;
  held = a.held.items;
  rooms = a.rooms.items;
}
