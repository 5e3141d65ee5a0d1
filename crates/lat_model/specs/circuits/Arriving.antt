-- A frame comes to a side. The address and both ids in it must be those of the circuit.
use Rattle.std.specs.Prelude.{ℕ, suc, Bool, true, false, not, cond, ◌&&◌, ◌||◌, List, [], ◌∷◌, length, nat_eq, nat_lt}
use Rattle.lat_model.specs.sessions.Slots.{Slot}
use Rattle.lat_model.specs.Lists.{keep, least}
use Rattle.lat_model.specs.numbers.Link.{Frame}
use Rattle.lat_model.specs.ends.End.{Sent, Run, CallStart, ReplyStart, Stopped, lives}
use Rattle.lat_model.specs.ends.Run.{run_end}
use Rattle.lat_model.specs.ends.Starting.{Agreed, make_slave, again_start, hear_reply, hear_stop}
use Rattle.lat_model.specs.circuits.World.{CircuitEntry, Table, Wired, World, table, with_table, put_circuit, at_end, first_end}
use Rattle.lat_model.specs.circuits.Ids.{next_id, ids}
use Rattle.lat_model.specs.Reasons as reasons

abbrev pub is_of : CircuitEntry → ℕ → ℕ → Bool
is_of c from source = nat_eq c.address from && nat_eq c.end.peer source

abbrev pub run_in : World → Bool → ℕ → Bool → ℕ → ℕ → ℕ → Bool → Frame (List Slot) → World
run_in w b from bit destination source now ask f =
    let c : CircuitEntry = (table w b).circuit_at destination in
    cond (is_of c from source && lives c.end && c.end.running && (cond bit (not c.end.master) c.end.master))
    (at_end w b destination (run_end now ask f c.end).step)
    w

abbrev pub stop_in : World → Bool → ℕ → ℕ → ℕ → ℕ → ℕ → World
stop_in w b from destination source now r =
    let c : CircuitEntry = (table w b).circuit_at destination in
    cond (nat_eq c.address from && (nat_eq c.end.peer source || nat_eq source 0) && lives c.end)
    (at_end w b destination (hear_stop now r c.end))
    w

abbrev pub reply_in : World → ℕ → ℕ → ℕ → ℕ → Agreed → World
reply_in w from destination source now g =
    let c : CircuitEntry = w.server.circuit_at destination in
    cond (nat_eq c.address from && lives c.end && (not c.end.running || nat_eq c.end.peer source))
    (at_end w true destination (hear_reply now source g c.end))
    w

abbrev pub living : Table → ℕ
living t = length (keep (λ i. lives (t.circuit_at i).end) (ids t))

abbrev pub slave_of : Table → ℕ → ℕ → ℕ
slave_of t from source =
    least (λ i. is_of (t.circuit_at i) from source && lives (t.circuit_at i).end) (ids t)

-- a STOP for want of resources, which comes from no circuit
abbrev pub refusal : ℕ → ℕ → Wired
refusal from source = record {
  by_server = false;
  circuit = 0;
  to = from;
  destination = source;
  source = 0;
  sent = Stopped reasons.no_resources;
}

-- a new slave, where fewer than 8 live and an id is left
abbrev pub make_in : World → ℕ → ℕ → ℕ → Agreed → World
make_in w from source now g =
    cond (nat_lt (living w.node) 8 && nat_lt w.node.drawn 65535)
    (put_circuit w false (suc w.node.drawn) (next_id w.node) from (make_slave now source g (first_end false false w.other)))
    (with_table w false w.node (refusal from source ∷ []))

abbrev pub start_in : World → ℕ → ℕ → ℕ → Agreed → World
start_in w from source now g =
    let k : ℕ = slave_of w.node from source in
    cond (nat_eq k 0) (make_in w from source now g) (at_end w false k (again_start now (w.node.circuit_at k).end))

abbrev pub arrive : World → Bool → ℕ → Bool → ℕ → ℕ → ℕ → Agreed → Sent → World
arrive w b from bit destination source now g (Run k ask f) = run_in w b from bit destination source now ask f
arrive w b from bit destination source now g CallStart = cond b w (start_in w from source now g)
arrive w b from bit destination source now g ReplyStart = cond b (reply_in w from destination source now g) w
arrive w b from bit destination source now g (Stopped r) = stop_in w b from destination source now r
