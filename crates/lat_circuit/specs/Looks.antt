-- What a core tells of its lines and circuits, in values of its own.
use Rattle.std.specs.Prelude.{option_map}
use Rattle.lat_base.specs.Addresses.{addr_of}
use Rattle.lat_base.specs.declared.look.LineLook.{LineLook}
use Rattle.lat_base.specs.declared.look.Correspondent.{Correspondent}
use Rattle.lat_base.specs.declared.look.CircuitLook.{CircuitLook}
use Rattle.lat_base.specs.declared.state.SessionEnd.{SessionEnd}
use Rattle.lat_base.specs.declared.state.SessionEnd.TheVariants as ends
use Rattle.lat_machines.specs.cores.Books as books
use Rattle.lat_machines.specs.cores.Looks as looks
use Rattle.lat_stream.specs.Kept.{state_of, saturated}

abbrev pub end_of : books.SessionEnd → SessionEnd
end_of books.EndedClosed = ends.Closed
end_of (books.EndedRejected reason) = ends.Rejected reason
end_of (books.EndedCircuit reason) = ends.Circuit reason

-- its number stops at the greatest number of 64 bits
abbrev pub line_look_of : looks.LineLook → LineLook
line_look_of l = record {
  newest = saturated l.newest;
  state = state_of l.state;
  waiting = l.waiting;
  room = l.room;
  end = option_map end_of l.end;
}

abbrev pub correspondent_of : looks.Correspondent → Correspondent
correspondent_of c = record { peer = addr_of c.peer; service = c.service; request = c.request }

abbrev pub circuit_look_of : looks.CircuitLook → CircuitLook
circuit_look_of l = record {
  id = l.id;
  peer_id = l.peer_id;
  peer = addr_of l.peer;
  name = l.name;
  timer = l.timer;
  keep_alive = l.keepalive;
  held = l.held;
  unacknowledged = l.unacknowledged;
  rounds = l.rounds;
}
