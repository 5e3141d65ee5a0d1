-- How a node's session finds the session of the server that it belongs to: by circuit and id, and the last one of these.
use Rattle.std.specs.Prelude.{ℕ, suc, cond, ◌&&◌, List, [], ◌∷◌, nat_eq}
use Rattle.lat_model.specs.sessions.Session.{peer}
use Rattle.lat_machines.specs.cores.Cores.{Seat}
use Rattle.lat_machines.specs.cores.Lines.{end_of, session_of}
use Rattle.lat_machines.specs.world.Machines.{Setups, Machines}
use Rattle.lat_machines.specs.world.Reports.{is_partner}

-- the place, from 1 on, of the last line session of a circuit under an id; `found` where none follows
abbrev pub last_named : ℕ → ℕ → ℕ → ℕ → List Seat → ℕ
last_named circuit id place found [] = found
last_named circuit id place found (s ∷ ss) =
    last_named circuit id (suc place) (cond (nat_eq s.circuit circuit && nat_eq s.id id) (suc place) found) ss

-- the place of the server's session whose partner the node's session is; 0 for none
abbrev pub mate_in : Setups → Machines → Seat → ℕ → List Seat → ℕ
mate_in u w t place [] = 0
mate_in u w t place (s ∷ ss) = cond (is_partner u w s t) (suc place) (mate_in u w t (suc place) ss)

abbrev pub mate : Setups → Machines → Seat → ℕ
mate u w t = mate_in u w t 0 w.server.core.seats

-- what the ids of a node's session say: the last session of the server under the peer's circuit and id, where the circuit's
-- peer is the server
abbrev pub mate_by_ids : Setups → Machines → Seat → ℕ
mate_by_ids u w t =
    cond (nat_eq (w.node.core.circuits.circuit_at t.circuit).address u.server.own)
    (last_named (end_of w.node.core t).peer (peer (session_of w.node.core t)) 0 0 w.server.core.seats)
    0
