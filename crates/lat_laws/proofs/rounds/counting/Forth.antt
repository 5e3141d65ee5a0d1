-- A round only goes on with each session of the circuits that were drawn before it.
use Rattle.std.proofs.Common.{ℕ, Bool, true, false, not, cond, List, [], ◌∷◌, Option, Some, None, slice_get, ◌≡◌}
use Rattle.lat_model.specs.sessions.Sessions.{Sessions}
use Rattle.lat_model.specs.sessions.Calls.{Connect, Answer}
use Rattle.lat_model.specs.Lists.{upwards}
use Rattle.lat_model.specs.circuits.Ids.{is_drawn}
use Rattle.lat_machines.specs.values.Events.{Event, Time, Takes}
use Rattle.lat_machines.specs.cores.Cores.{Core}
use Rattle.lat_machines.specs.cores.Lines.{has_session}
use Rattle.lat_machines.specs.world.Machines.{Setups, Posted, Machines, core_of, tell, is_for_other, heard_as, marked_delivered, counted, comes}
use Rattle.lat_laws.specs.rounds.Rounds.{undelivered, deliver_one, deliveries, take_line, take_lines, round}
use Rattle.lat_laws.proofs.rounds.counting.Tables.{Turned, Holds, turned_same, turned_then, local_turned}
use Rattle.lat_laws.proofs.rounds.counting.Cores.{EventAllows}
use Rattle.lat_laws.proofs.rounds.counting.Servers.{server_holds}
use Rattle.lat_laws.proofs.rounds.counting.Nodes.{node_holds}
use Rattle.lat_laws.proofs.rounds.counting.Stays.{Goes, goes_kept, InRounds, goes_call}

abbrev pub Drawn : (ℕ → Bool) → ℕ → Sessions → Sessions → Type 0
Drawn n x e f = n x ≡ true → Goes e f

abbrev pub On : Core → Core → Type 0
On c d = Turned (Drawn (is_drawn c.circuits)) c.circuits d.circuits

pub on_holds : (side : Bool) (c : Core) → Holds (is_drawn c.circuits) side (Drawn (is_drawn c.circuits)) InRounds (On c)
on_holds side c = record {
  kept = goes_kept (is_drawn c.circuits) side;
  calls = λ x e k a l. goes_call e k a;
  drawn = λ d p. p.drawn;
  turns = λ d f p s t. turned_then (is_drawn c.circuits) side (Drawn (is_drawn c.circuits)) (goes_kept (is_drawn c.circuits) side) c.circuits d.circuits f.circuits p t;
}

pub record Forth (w : Machines) (v : Machines) : Type 0 where
  pub server : On w.server.core v.server.core
  pub node : On w.node.core v.node.core

pub forth_same : (w : Machines) → Forth w w
forth_same w = record {
  server = turned_same (is_drawn w.server.core.circuits) true (Drawn (is_drawn w.server.core.circuits)) (goes_kept (is_drawn w.server.core.circuits) true) w.server.core.circuits;
  node = turned_same (is_drawn w.node.core.circuits) true (Drawn (is_drawn w.node.core.circuits)) (goes_kept (is_drawn w.node.core.circuits) true) w.node.core.circuits;
}

pub tell_forth : (u : Setups) (w v : Machines) (b : Bool) (e : Event) (rates : List ℕ) → EventAllows InRounds e → Forth w v → Forth w (tell u v b e rates)
tell_forth u w v true e rates a f = record {
  server = server_holds (is_drawn w.server.core.circuits) (Drawn (is_drawn w.server.core.circuits)) InRounds (On w.server.core) (on_holds true w.server.core) u.server
      (λ line x service key request c p. turned_then (is_drawn w.server.core.circuits) true (Drawn (is_drawn w.server.core.circuits)) (goes_kept (is_drawn w.server.core.circuits) true) w.server.core.circuits c.circuits _ p (local_turned (is_drawn w.server.core.circuits) true (Drawn (is_drawn w.server.core.circuits)) (goes_kept (is_drawn w.server.core.circuits) true) true c.circuits x (Connect service request) (λ l. goes_call (c.circuits.circuit_at x).end.half.sessions (Connect service request) tt)))
      v.server e a f.server;
  node = f.node;
}
tell_forth u w v false e rates a f = record {
  server = f.server;
  node = node_holds (is_drawn w.node.core.circuits) (Drawn (is_drawn w.node.core.circuits)) InRounds (On w.node.core) (on_holds false w.node.core) u.node
      (λ st x id line request q p. turned_then (is_drawn w.node.core.circuits) false (Drawn (is_drawn w.node.core.circuits)) (goes_kept (is_drawn w.node.core.circuits) false) w.node.core.circuits st.core.circuits _ p (local_turned (is_drawn w.node.core.circuits) false (Drawn (is_drawn w.node.core.circuits)) (goes_kept (is_drawn w.node.core.circuits) false) false st.core.circuits x (Answer id) (λ l. goes_call (st.core.circuits.circuit_at x).end.half.sessions (Answer id) tt)))
      (λ id reason. tt) rates v.node e a f.node;
}

forth_cond : (w : Machines) (b : Bool) (v z : Machines) → Forth w v → Forth w z → Forth w (cond b v z)
forth_cond w true v z p q = p
forth_cond w false v z p q = q

comes_forth : (u : Setups) (w v : Machines) (i now : ℕ) (rates : List ℕ) (o : Option Posted) → Forth w v → Forth w (comes u v i now rates o)
comes_forth u w v i now rates None f = f
comes_forth u w v i now rates (Some p) f = forth_cond w (is_for_other u p) (tell u (marked_delivered i v) (not p.by_server) (heard_as u p now) rates) (counted (marked_delivered i v)) (tell_forth u w (marked_delivered i v) (not p.by_server) (heard_as u p now) rates tt (record { server = f.server; node = f.node })) (record { server = f.server; node = f.node })

pub deliver_forth : (u : Setups) (w v : Machines) (now : ℕ) (rates : List ℕ) (o : Option ℕ) → Forth w v → Forth w (deliver_one u now rates o v)
deliver_forth u w v now rates None f = f
deliver_forth u w v now rates (Some i) f = comes_forth u w v i now rates (slice_get v.posts i) f

pub deliveries_forth : (u : Setups) (w : Machines) (now : ℕ) (rs : List (List ℕ)) (v : Machines) → Forth w v → Forth w (deliveries u now rs v)
deliveries_forth u w now [] v f = f
deliveries_forth u w now (r ∷ rs) v f = deliveries_forth u w now rs (deliver_one u now r (undelivered u v) v) (deliver_forth u w v now r (undelivered u v) f)

pub lines_forth : (u : Setups) (w : Machines) (b : Bool) (lines : List ℕ) (v : Machines) → Forth w v → Forth w (take_lines u b lines v)
lines_forth u w b [] v f = f
lines_forth u w b (line ∷ lines) v f = lines_forth u w b lines (take_line u b line v) (forth_cond w (has_session (core_of v b) line) (tell u v b (Takes line 4096) []) v (tell_forth u w v b (Takes line 4096) [] (λ id. tt) f) f)

pub round_forth : (u : Setups) (now : ℕ) (rs : List (List ℕ)) (w : Machines) → Forth w (round u now rs w)
round_forth u now rs w =
    let s : Machines = tell u w true (Time now) [] in
    let t : Machines = tell u s false (Time now) [] in
    let d : Machines = deliveries u now rs t in
    let k : Machines = take_lines u true (upwards 0 u.server.lines) d in
    lines_forth u w false (upwards 0 u.node.lines) k (lines_forth u w true (upwards 0 u.server.lines) d (deliveries_forth u w now rs t (tell_forth u w s false (Time now) [] tt (tell_forth u w w true (Time now) [] tt (forth_same w)))))
