-- What happens to the circuits of one core: each act is an event of the world of circuits, seen from one side.
use Rattle.std.specs.Prelude.{ℕ, suc, Bool, true, cond, List, [], ◌∷◌}
use Rattle.lat_model.specs.circuits.Events.{stray_stop}
use Rattle.lat_model.specs.Lists.{updated}
use Rattle.lat_model.specs.sessions.Calls.{Call}
use Rattle.lat_model.specs.ends.End.{CallStart, Step, lives, call_end, finish}
use Rattle.lat_model.specs.ends.Timers.{note_empty, time_step}
use Rattle.lat_model.specs.ends.Starting.{Setup}
use Rattle.lat_model.specs.circuits.World.{Table, Wired, wire_all, first_end}
use Rattle.lat_model.specs.circuits.Ids.{next_id}

pub record Acted : Type 0 where
  pub table : Table
  pub sent : List Wired

abbrev pub idle : Table → Acted
idle t = record { table = t; sent = [] }

-- the circuit x after a step, and what it sent
abbrev pub put_at : Bool → Table → ℕ → ℕ → ℕ → Step → Acted
put_at b t drawn x address s = record {
  table = record t { drawn = drawn; circuit_at = updated t.circuit_at x (record { address = address; end = s.end }) };
  sent = wire_all b x address s.end.peer s.sent;
}

abbrev pub steps_at : Bool → Table → ℕ → Step → Acted
steps_at b t x s = put_at b t t.drawn x (t.circuit_at x).address (note_empty (t.circuit_at x).end s)

abbrev pub called : Setup → ℕ → Step
called u now = record {
  end = record (first_end true true u) { moment = now; due_at = now; sent_at = now; start_at = now };
  sent = CallStart ∷ [];
}

-- a new circuit of the server
abbrev pub call_at : Setup → Table → ℕ → ℕ → Acted
call_at u t address now = put_at true t (suc t.drawn) (next_id t) address (called u now)

abbrev pub local_at : Bool → Table → ℕ → Call → Acted
local_at b t x c =
    cond (lives (t.circuit_at x).end)
    (steps_at b t x (record { end = call_end c (t.circuit_at x).end; sent = [] }))
    (idle t)

abbrev pub time_at : Bool → Table → ℕ → ℕ → Acted
time_at b t x now = cond (lives (t.circuit_at x).end) (steps_at b t x (time_step now (t.circuit_at x).end)) (idle t)

-- this end ends the circuit
abbrev pub end_at : Bool → Table → ℕ → ℕ → Acted
end_at b t x r = cond (lives (t.circuit_at x).end) (steps_at b t x (finish r (t.circuit_at x).end)) (idle t)

-- a STOP that comes from no circuit
abbrev pub stray_at : Bool → Table → ℕ → ℕ → ℕ → ℕ → Acted
stray_at b t to destination source r = record { table = t; sent = stray_stop b to destination source r ∷ [] }

abbrev pub move_at : Bool → Table → ℕ → ℕ → Acted
move_at b t x now =
    cond (lives (t.circuit_at x).end)
    (steps_at b t x (record { end = record ((t.circuit_at x).end) { moment = now }; sent = [] }))
    (idle t)
