-- What is kept, from the fields of a circuit: its ids, the width of its numbers and its window are those of its link.
use Rattle.std.specs.Prelude.{cond}
use Rattle.lat_circuit.specs.Payloads.{is_wide}
use Rattle.lat_circuit.specs.declared.circuit.Circuit.TheInside.{Inside}
use Rattle.lat_circuit.specs.Kept.{Kept, Holds, Knows}

abbrev pub shown : Inside → Kept
shown a = record {
  facts = record {
    config = a.config;
    id = a.link.ids.from;
    master = a.link.ids.master;
    peer = a.link.ids.to;
    wide = is_wide a.link.sending.span;
  };
  running = a.running;
  heard_run = a.heard_run;
  owed = a.owed;
  ended = a.ended;
  rounds = a.rounds;
  room = a.room;
  window = cond a.running a.link.sending.window 0;
  timer = a.timer;
  keepalive = a.keepalive;
  moments = a.moments;
  link = a.link;
  sessions = a.sessions;
}

abbrev pub IsSound : Inside → Type 0
IsSound a = Holds a.rounds a.room a.link.sending.span a.moments × Knows a.config a.link.ids a.running
