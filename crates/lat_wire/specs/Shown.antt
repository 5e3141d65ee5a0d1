-- What is kept, from the fields.
use Rattle.lat_wire.specs.declared.wire.Wire.TheInside.{Inside}
use Rattle.lat_wire.specs.Kept.{Kept}

abbrev pub shown : {H : Type 0} → Inside H → Kept H
shown a = record {
  server = a.ends.server;
  node = a.ends.node;
  server_own = a.server_own;
  node_own = a.node_own;
  book = a.ledger.book;
  notes = a.notes.items;
  count = a.count;
  moment = a.moment;
  timer = a.timer;
}
