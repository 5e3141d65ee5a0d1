-- In a circuit that was called in rounds nothing is put, and so nothing heard.
use Rattle.std.proofs.Common.{◌≡◌, ℕ, ◌≤◌, ⊎_elim, sym, ap, ◌∙◌, refl, subst, arith, Bool, true, false, cond, List, [], ◌++◌, length, nat_eq, eqb-true}
use Rattle.std.proofs.lemmas.Bool.{true≢false, and_parts, eqb-false}
use Rattle.lat_model.specs.sessions.Slots.{Item, items}
use Rattle.lat_model.specs.sessions.Session.{Session, blank}
use Rattle.lat_model.specs.sessions.Sessions.{Sessions, of_generation}
use Rattle.lat_model.specs.sessions.Packing.{TaggedSlot}
use Rattle.lat_model.specs.sessions.Joined.{Joined, slots_of}
use Rattle.lat_model.specs.ends.Starting.{void_sessions}
use Rattle.lat_model.specs.circuits.World.{CircuitEntry, Table}
use Rattle.lat_model.specs.circuits.WorldOk.{void_half}
use Rattle.lat_model.specs.circuits.Together.{Together, flat}
use Rattle.lat_model.proofs.circuits.Ids.{drawn_or, known_drawn, none_left, zero_undrawn, drawn_some}
use Rattle.lat_model.specs.circuits.Ids.{is_drawn, is_known}
use Rattle.lat_machines.specs.cores.Cores.{Seat, no_seat}
use Rattle.lat_machines.specs.cores.Lines.{end_of, session_of}
use Rattle.lat_machines.specs.world.Machines.{Setups, Machines}
use Rattle.lat_machines.specs.world.Reports.{is_partner, partner, row}
use Rattle.lat_machines.specs.world.Safe.{Fit}
use Rattle.lat_laws.specs.rounds.Settles.{Usual, IsSettled}
use Rattle.lat_laws.specs.rounds.Carried.{server_end, node_end}
use Rattle.lat_laws.specs.rounds.Counting.{sessions_at, peer_at, Paired}
use Rattle.lat_laws.proofs.rounds.rounds.Moves.{Moved, Reached}
use Rattle.lat_laws.proofs.rounds.rounds.Beside.{Follows}
use Rattle.lat_laws.proofs.rounds.rounds.Youngs.{reached_follows}
use Rattle.lat_laws.proofs.rounds.counting.Through.{heard_most, no_more}
use Rattle.lat_laws.proofs.rounds.counting.Empties.{Empty}
use Rattle.lat_laws.proofs.rounds.counting.Bares.{Bare}
use Rattle.lat_laws.proofs.rounds.counting.Partners.{mate_of, partner_or, partner_is}
use Rattle.lat_laws.proofs.rounds.counting.Most.{Matched, matched_at}
use Rattle.lat_laws.proofs.rounds.row.Bare.{bare_settled}
use Rattle.lat_laws.proofs.rounds.row.Settle.{reached_seated}
use Rattle.lat_laws.proofs.rounds.settle.Steady.{HasEnd, SlaveOf}
use Rattle.lat_laws.proofs.rounds.settle.Walks.{slave_on}

-- the other end put nothing, so nothing is heard

master_hears_none : (m s : Sessions) (up down : List TaggedSlot) → Joined m s up down → Empty s → (k : ℕ) → items (m.session k).came ≡ []
master_hears_none m s up down j e k = go (nat_eq g 0) refl
  where
    g : ℕ
    g = (m.session k).generation

    go : (b : Bool) → nat_eq (m.session k).generation 0 ≡ b → items (m.session k).came ≡ []
    go true q = ap items (j.quiet_up k (eqb-true (m.session k).generation 0 q))
    go false q =
        let named : of_generation m (m.session k).generation ≡ m.session k = ap m.session (j.master_ok.serial_found k (eqb-false (m.session k).generation 0 q)) in
        let o : Session = of_generation s (m.session k).generation in
        let l : length (items (m.session k).came) ≤ length o.put = heard_most (m.session k) o (slots_of (m.session k).generation down) (j.flow_down.at_generation (m.session k).generation ∙ ap (λ (x : Session). x.came ++ slots_of (m.session k).generation down) named) (j.slave_ok.accounts (s.serial_of (m.session k).generation)).framed in
        no_more (items (m.session k).came) (omega (arith, l, ap (λ (z : List Item). length z) (e (s.serial_of (m.session k).generation))))

slave_hears_none : (m s : Sessions) (up down : List TaggedSlot) → Joined m s up down → Empty m → (k : ℕ) → items (s.session k).came ≡ []
slave_hears_none m s up down j e k = go (nat_eq g 0) refl
  where
    g : ℕ
    g = (s.session k).generation

    go : (b : Bool) → nat_eq (s.session k).generation 0 ≡ b → items (s.session k).came ≡ []
    go true q = ap items (j.quiet_down k (eqb-true (s.session k).generation 0 q))
    go false q =
        let named : of_generation s (s.session k).generation ≡ s.session k = ap s.session (j.slave_ok.serial_found k (eqb-false (s.session k).generation 0 q)) in
        let o : Session = of_generation m (s.session k).generation in
        let l : length (items (s.session k).came) ≤ length o.put = heard_most (s.session k) o (slots_of (s.session k).generation up) (j.flow_up.at_generation (s.session k).generation ∙ ap (λ (x : Session). x.came ++ slots_of (s.session k).generation up) named) (j.master_ok.accounts (m.serial_of (s.session k).generation)).framed in
        no_more (items (s.session k).came) (omega (arith, l, ap (λ (z : List Item). length z) (e (m.serial_of (s.session k).generation))))

-- no circuit that wasn't drawn has any
pub bare_here : (u : Setups) (m : Machines) → Fit u → Usual u → Reached u m → Bare (is_drawn m.server.core.circuits) (is_drawn m.node.core.circuits) m
bare_here u m f s r = record {
  server = λ x l k. subst (λ (t : Table). is_drawn t x ≡ false → ((t.circuit_at x).end.half.sessions.session k).put ≡ []) c.beside.ties.server (λ y. ap (λ (e : CircuitEntry). (e.end.half.sessions.session k).put) (c.beside.good.none_server x y)) l;
  node = λ x l k. subst (λ (t : Table). is_drawn t x ≡ false → ((t.circuit_at x).end.half.sessions.session k).put ≡ []) c.beside.ties.node (λ y. ap (λ (e : CircuitEntry). (e.end.half.sessions.session k).put) (c.beside.good.none_node x y)) l;
}
  where
    c : Follows u m
    c = reached_follows u m f s r

module _ (u : Setups) (fit : Fit u) (usual : Usual u) (m v : Machines) (rm : Reached u m) (rv : Reached u v) (moved : Moved u m v) (bare : Bare (is_drawn m.server.core.circuits) (is_drawn m.node.core.circuits) v) (p : ℕ) (late : is_drawn m.server.core.circuits p ≡ false) (home : (v.server.core.circuits.circuit_at p).address ≡ u.node.own) where
  abbrev q : ℕ
  q = peer_at v p

  abbrev ups : Sessions
  ups = sessions_at v true p

  up_empty : Empty ups
  up_empty = bare.server p late

  -- its slave was made in rounds too
  slave_late : (v.server.core.circuits.circuit_at p).end.running ≡ true → is_drawn m.node.core.circuits q ≡ false
  slave_late run = ⊎_elim {C = is_drawn m.node.core.circuits q ≡ false} (λ l. l) (λ l. absurd (none l)) (drawn_or m.node.core.circuits q)
    where
      x : Matched u v p
      x = matched_at u v p fit usual rv home run

      k : Follows u m
      k = reached_follows u m fit usual rm

      none : is_drawn m.node.core.circuits (peer_at v p) ≡ true → ⊥
      none l =
          let n : Table = m.node.core.circuits in
          let h : HasEnd q (n.circuit_at q).address (SlaveOf (n.circuit_at q).end.peer) v.node.core = slave_on u q (n.circuit_at q).address (n.circuit_at q).end.peer m v moved (record { drawn = l; address = refl; end = (sym (ap (λ (t : Table). (t.circuit_at q).end.master) k.beside.ties.node) ∙ k.beside.kinds.slaves q, refl) }) in
          let own : (n.circuit_at q).address ≡ u.server.own = sym h.address ∙ x.paired.address in
          let peer : (n.circuit_at q).end.peer ≡ p = sym h.end.1 ∙ x.paired.peer in
          let low : is_known k.world.server (node_end k.world q).peer ≡ true = k.beside.carried.peers q (ap (λ (t : Table). is_drawn t q) k.beside.ties.node ∙ l) (ap (λ (t : Table). (t.circuit_at q).address) k.beside.ties.node ∙ (own ∙ sym k.beside.ties.server_own)) in
          let is : (node_end k.world q).peer ≡ p = ap (λ (t : Table). (t.circuit_at q).end.peer) k.beside.ties.node ∙ peer in
          none_left m.server.core.circuits p (known_drawn m.server.core.circuits p (drawn_some v.server.core.circuits.first v.server.core.circuits.drawn p x.here) (ap (λ (t : Table). is_known t p) (sym k.beside.ties.server) ∙ subst (λ z. is_known k.world.server z ≡ true) is low)) late

  first_blank : (v.node.core.circuits.circuit_at 0).end.half.sessions.session 0 ≡ blank
  first_blank = let k : Follows u v = reached_follows u v fit usual rv in sym (ap (λ (t : Table). (t.circuit_at 0).end.half.sessions.session 0) k.beside.ties.node) ∙ ap (λ (c : CircuitEntry). c.end.half.sessions.session 0) (k.beside.good.none_node 0 (zero_undrawn k.world.node.first k.world.node.drawn))

  -- without a partner
  alone : (s : Seat) → s.circuit ≡ p → items (session_of v.server.core s).came ≡ [] → partner u v s ≡ no_seat → IsSettled (row u v s)
  alone s at heard n =
      let b : session_of v.node.core (partner u v s) ≡ blank = ap (session_of v.node.core) n ∙ first_blank in
      bare_settled u v s (ap (λ z. ((v.server.core.circuits.circuit_at z).end.half.sessions.session s.serial).put) at ∙ up_empty s.serial) (ap (λ (x : Session). x.put) b) heard (ap (λ (x : Session). items x.came) b)

  runs : (s : Seat) → s.circuit ≡ p → (v.server.core.circuits.circuit_at p).end.running ≡ true → IsSettled (row u v s)
  runs s at run = ⊎_elim {C = IsSettled (row u v s)} found (λ n. alone s at heard n.0) (partner_is u v s (subst (λ z. Paired u v z) (sym at) x.paired) (reached_seated u v rv).node)
    where
      x : Matched u v p
      x = matched_at u v p fit usual rv home run

      downs : Sessions
      downs = sessions_at v false (peer_at v p)

      j : Joined (sessions_at v true p) (sessions_at v false (peer_at v p)) (flat x.together.up) (flat x.together.down)
      j = x.together.joined

      down_empty : Empty (sessions_at v false (peer_at v p))
      down_empty = bare.node (peer_at v p) (slave_late run)

      heard : items (session_of v.server.core s).came ≡ []
      heard = ap (λ z. items ((v.server.core.circuits.circuit_at z).end.half.sessions.session s.serial).came) at ∙ master_hears_none (sessions_at v true p) (sessions_at v false (peer_at v p)) (flat x.together.up) (flat x.together.down) j down_empty s.serial

      found : session_of v.node.core (partner u v s) ≡ mate_of v s → IsSettled (row u v s)
      found h =
          let g : ℕ = (session_of v.server.core s).generation in
          let k : ℕ = (sessions_at v false (peer_at v p)).serial_of g in
          let b : session_of v.node.core (partner u v s) ≡ (sessions_at v false (peer_at v p)).session k = h ∙ ap (λ z. of_generation (sessions_at v false (peer_at v z)) g) at in
          bare_settled u v s (ap (λ z. ((v.server.core.circuits.circuit_at z).end.half.sessions.session s.serial).put) at ∙ up_empty s.serial) (ap (λ (y : Session). y.put) b ∙ down_empty k) heard
          (ap (λ (y : Session). items y.came) b ∙ slave_hears_none (sessions_at v true p) (sessions_at v false (peer_at v p)) (flat x.together.up) (flat x.together.down) j up_empty k)

  calls : (s : Seat) → s.circuit ≡ p → (v.server.core.circuits.circuit_at p).end.running ≡ false → IsSettled (row u v s)
  calls s at run = ⊎_elim {C = IsSettled (row u v s)} (λ i. absurd (true≢false (sym (runs_then i) ∙ run))) (λ n. alone s at heard n) (partner_or u v s v.node.core.seats)
    where
      k : Follows u v
      k = reached_follows u v fit usual rv

      runs_then : is_partner u v s (partner u v s) ≡ true → (v.server.core.circuits.circuit_at p).end.running ≡ true
      runs_then i = sym (ap (λ z. (v.server.core.circuits.circuit_at z).end.running) at) ∙ (and_parts (end_of v.server.core s).running _ (and_parts (nat_eq (partner u v s).circuit (end_of v.server.core s).peer) _ i).1).0

      world_home : (k.world.server.circuit_at p).address ≡ k.world.node.own
      world_home = ap (λ (t : Table). (t.circuit_at p).address) k.beside.ties.server ∙ (home ∙ sym k.beside.ties.node_own)

      world_run : (server_end k.world p).running ≡ false
      world_run = ap (λ (t : Table). (t.circuit_at p).end.running) k.beside.ties.server ∙ run

      t : Together (server_end k.world p).half (void_half false) []
      t = subst (λ c. Together (server_end k.world p).half (cond c (node_end k.world (server_end k.world p).peer).half (void_half false)) []) world_run (k.beside.good.matched p world_home)

      heard : items (session_of v.server.core s).came ≡ []
      heard = ap (λ z. items ((v.server.core.circuits.circuit_at z).end.half.sessions.session s.serial).came) at ∙ (sym (ap (λ (x : Table). items ((x.circuit_at p).end.half.sessions.session s.serial).came) k.beside.ties.server) ∙ master_hears_none (server_end k.world p).half.sessions (void_sessions false 0 0) (flat t.up) (flat t.down) t.joined (λ i. refl) s.serial)

  pub late_settled : (s : Seat) → s.circuit ≡ p → IsSettled (row u v s)
  late_settled s at = go (v.server.core.circuits.circuit_at p).end.running refl
    where
      go : (b : Bool) → (v.server.core.circuits.circuit_at p).end.running ≡ b → IsSettled (row u v s)
      go true r = runs s at r
      go false r = calls s at r
