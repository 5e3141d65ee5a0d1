-- In circuits that are called in rounds nothing is put.
use Rattle.std.proofs.Common.{ℕ, Bool, true, false, not, cond, List, [], ◌∷◌, Option, Some, None, slice_get}
use Rattle.lat_model.specs.sessions.Calls.{Connect, Answer}
use Rattle.lat_model.specs.Lists.{upwards}
use Rattle.lat_machines.specs.values.Events.{Event, Time, Takes}
use Rattle.lat_machines.specs.cores.Lines.{has_session}
use Rattle.lat_machines.specs.world.Machines.{Setups, Posted, Machines, core_of, tell, is_for_other, heard_as, marked_delivered, counted, comes}
use Rattle.lat_laws.specs.rounds.Rounds.{undelivered, deliver_one, deliveries, take_line, take_lines, round, rounds, next_moment}
use Rattle.lat_laws.proofs.rounds.counting.Tables.{local_turned}
use Rattle.lat_laws.proofs.rounds.counting.Cores.{EventAllows}
use Rattle.lat_laws.proofs.rounds.counting.Servers.{server_holds}
use Rattle.lat_laws.proofs.rounds.counting.Nodes.{node_holds}
use Rattle.lat_laws.proofs.rounds.counting.Stays.{InRounds}
use Rattle.lat_laws.proofs.rounds.counting.Empties.{Empties, EmptyPast, empties_hold, empties_call}

-- of all circuits but these of the server and of the node
pub record Bare (n : ℕ → Bool) (k : ℕ → Bool) (w : Machines) : Type 0 where
  pub server : EmptyPast n w.server.core
  pub node : EmptyPast k w.node.core

tell_bare : (u : Setups) (n k : ℕ → Bool) (v : Machines) (b : Bool) (e : Event) (rates : List ℕ) → EventAllows InRounds e → Bare n k v → Bare n k (tell u v b e rates)
tell_bare u n k v true e rates a f = record {
  server = server_holds (λ z. false) (λ x. Empties) InRounds (EmptyPast n) (empties_hold n true) u.server
      (λ line x service key request c p y l. (local_turned (λ z. false) true (λ z. Empties) (empties_hold n true).kept true c.circuits x (Connect service request) (empties_call (c.circuits.circuit_at x).end.half.sessions (Connect service request) tt)).at y (p y l))
      v.server e a f.server;
  node = f.node;
}
tell_bare u n k v false e rates a f = record {
  server = f.server;
  node = node_holds (λ z. false) (λ x. Empties) InRounds (EmptyPast k) (empties_hold k false) u.node
      (λ st x id line request q p y l. (local_turned (λ z. false) false (λ z. Empties) (empties_hold k false).kept false st.core.circuits x (Answer id) (empties_call (st.core.circuits.circuit_at x).end.half.sessions (Answer id) tt)).at y (p y l))
      (λ id reason. tt) rates v.node e a f.node;
}

bare_cond : (n k : ℕ → Bool) (b : Bool) (v z : Machines) → Bare n k v → Bare n k z → Bare n k (cond b v z)
bare_cond n k true v z p q = p
bare_cond n k false v z p q = q

comes_bare : (u : Setups) (n k : ℕ → Bool) (v : Machines) (i now : ℕ) (rates : List ℕ) (o : Option Posted) → Bare n k v → Bare n k (comes u v i now rates o)
comes_bare u n k v i now rates None f = f
comes_bare u n k v i now rates (Some p) f = bare_cond n k (is_for_other u p) (tell u (marked_delivered i v) (not p.by_server) (heard_as u p now) rates) (counted (marked_delivered i v)) (tell_bare u n k (marked_delivered i v) (not p.by_server) (heard_as u p now) rates tt (record { server = f.server; node = f.node })) (record { server = f.server; node = f.node })

deliver_bare : (u : Setups) (n k : ℕ → Bool) (v : Machines) (now : ℕ) (rates : List ℕ) (o : Option ℕ) → Bare n k v → Bare n k (deliver_one u now rates o v)
deliver_bare u n k v now rates None f = f
deliver_bare u n k v now rates (Some i) f = comes_bare u n k v i now rates (slice_get v.posts i) f

deliveries_bare : (u : Setups) (n k : ℕ → Bool) (now : ℕ) (rs : List (List ℕ)) (v : Machines) → Bare n k v → Bare n k (deliveries u now rs v)
deliveries_bare u n k now [] v f = f
deliveries_bare u n k now (r ∷ rs) v f = deliveries_bare u n k now rs (deliver_one u now r (undelivered u v) v) (deliver_bare u n k v now r (undelivered u v) f)

pub lines_bare : (u : Setups) (n k : ℕ → Bool) (b : Bool) (lines : List ℕ) (v : Machines) → Bare n k v → Bare n k (take_lines u b lines v)
lines_bare u n k b [] v f = f
lines_bare u n k b (line ∷ lines) v f = lines_bare u n k b lines (take_line u b line v) (bare_cond n k (has_session (core_of v b) line) (tell u v b (Takes line 4096) []) v (tell_bare u n k v b (Takes line 4096) [] (λ id. tt) f) f)

round_bare : (u : Setups) (n k : ℕ → Bool) (now : ℕ) (rs : List (List ℕ)) (w : Machines) → Bare n k w → Bare n k (round u now rs w)
round_bare u n k now rs w f =
    let s : Machines = tell u w true (Time now) [] in
    let t : Machines = tell u s false (Time now) [] in
    let d : Machines = deliveries u now rs t in
    let z : Machines = take_lines u true (upwards 0 u.server.lines) d in
    lines_bare u n k false (upwards 0 u.node.lines) z (lines_bare u n k true (upwards 0 u.server.lines) d (deliveries_bare u n k now rs t (tell_bare u n k s false (Time now) [] tt (tell_bare u n k w true (Time now) [] tt f))))

pub rounds_bare : (u : Setups) (n k : ℕ → Bool) (rs : List (List (List ℕ))) (now : ℕ) (w : Machines) → Bare n k w → Bare n k (rounds u now rs w)
rounds_bare u n k [] now w f = f
rounds_bare u n k (r ∷ rs) now w f = rounds_bare u n k rs (next_moment u now) (round u (next_moment u now) r w) (round_bare u n k (next_moment u now) r w f)
