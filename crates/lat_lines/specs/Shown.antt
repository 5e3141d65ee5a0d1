-- What is kept, from the fields.
use Rattle.lat_lines.specs.declared.lines.Lines.TheInside.{Inside}
use Rattle.lat_lines.specs.Kept.{Kept}

abbrev pub shown : Inside → Kept
shown a = record {
  lines = a.count;
  circuits = a.circuits;
  seats = a.seats.items;
  last = a.last.items;
  made = a.made;
  finished = a.finished;
  freed = a.freed.items;
}
