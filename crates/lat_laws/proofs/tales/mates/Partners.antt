-- A session of the server and one of the node belong to each other or not: each has at most one partner.
use Rattle.std.proofs.Common.{◌≡◌, ◌≢◌, ℕ, ◌<◌, refl, sym, ap, ap₂, ◌∙◌, arith, Bool, true, false, ◌&&◌, nat_eq, eqb-true, eq-eqb}
use Rattle.std.proofs.lemmas.Bool.{and_parts, false≢true, eqb-false}
use Rattle.lat_model.specs.sessions.Session.{Session}
use Rattle.lat_model.specs.sessions.EndOk.{EndOk}
use Rattle.lat_model.specs.ends.End.{End}
use Rattle.lat_machines.specs.cores.Cores.{Seat, no_seat}
use Rattle.lat_machines.specs.cores.Lines.{end_of, session_of}
use Rattle.lat_machines.specs.world.Machines.{Setups, Machines}
use Rattle.lat_machines.specs.world.Safe.{Shared}
use Rattle.lat_machines.specs.world.Reports.{is_partner}
use Rattle.lat_laws.specs.rounds.Seated.{IsSeat}
use Rattle.lat_laws.proofs.tales.steps.Tables.{sess}
use Rattle.lat_laws.proofs.tales.seats.Calls.{distinct_is}
use Rattle.lat_laws.proofs.tales.mates.Reach.{Reach}

-- what the test of a partner says
pub record Mates (u : Setups) (w : Machines) (s : Seat) (t : Seat) : Type 0 where
  pub circuit : t.circuit ≡ (end_of w.server.core s).peer
  pub running : (end_of w.server.core s).running ≡ true
  pub address : (w.server.core.circuits.circuit_at s.circuit).address ≡ u.node.own
  pub node_address : (w.node.core.circuits.circuit_at t.circuit).address ≡ u.server.own
  pub names : (end_of w.node.core t).peer ≡ s.circuit
  pub generation : (session_of w.node.core t).generation ≡ (session_of w.server.core s).generation

pub mates_of : (u : Setups) (w : Machines) (s t : Seat) → is_partner u w s t ≡ true → Mates u w s t
mates_of u w s t h =
    let m : End = end_of w.server.core s in
    let a : Bool = nat_eq (w.server.core.circuits.circuit_at s.circuit).address u.node.own in
    let b : Bool = nat_eq (w.node.core.circuits.circuit_at t.circuit).address u.server.own in
    let c : Bool = nat_eq (end_of w.node.core t).peer s.circuit in
    let d : Bool = nat_eq (session_of w.node.core t).generation (session_of w.server.core s).generation in
    let x1 : (nat_eq t.circuit m.peer ≡ true) × ((m.running && (a && (b && (c && d)))) ≡ true) = and_parts (nat_eq t.circuit m.peer) (m.running && (a && (b && (c && d)))) h in
    let x2 : (m.running ≡ true) × ((a && (b && (c && d))) ≡ true) = and_parts m.running (a && (b && (c && d))) x1.1 in
    let x3 : (a ≡ true) × ((b && (c && d)) ≡ true) = and_parts a (b && (c && d)) x2.1 in
    let x4 : (b ≡ true) × ((c && d) ≡ true) = and_parts b (c && d) x3.1 in
    let x5 : (c ≡ true) × (d ≡ true) = and_parts c d x4.1 in
    record {
      circuit = eqb-true t.circuit m.peer x1.0;
      running = x2.0;
      address = eqb-true (w.server.core.circuits.circuit_at s.circuit).address u.node.own x3.0;
      node_address = eqb-true (w.node.core.circuits.circuit_at t.circuit).address u.server.own x4.0;
      names = eqb-true (end_of w.node.core t).peer s.circuit x5.0;
      generation = eqb-true (session_of w.node.core t).generation (session_of w.server.core s).generation x5.1;
    }

and_true : (a b : Bool) → a ≡ true → b ≡ true → (a && b) ≡ true
and_true a b p q = ap₂ (λ x y. x && y) p q

pub mates_are : (u : Setups) (w : Machines) (s t : Seat) → Mates u w s t → is_partner u w s t ≡ true
mates_are u w s t m = and_true _ _ (eq-eqb _ _ m.circuit) (and_true _ _ m.running (and_true _ _ (eq-eqb _ _ m.address) (and_true _ _ (eq-eqb _ _ m.node_address) (and_true _ _ (eq-eqb _ _ m.names) (eq-eqb _ _ m.generation)))))

pub mates_share : (u : Setups) (w : Machines) (s t : Seat) → Mates u w s t → Shared u w s.circuit t.circuit
mates_share u w s t m = record { names = m.names; address = m.address; running = m.running; peer = sym m.circuit }

module _ (u : Setups) (w : Machines) (r : Reach u w) where
  some_serial : (t : Seat) → IsSeat t w.node.core.seats → 0 < t.serial
  some_serial t i = go (nat_eq t.serial 0) refl
    where
      go : (b : Bool) → nat_eq t.serial 0 ≡ b → 0 < t.serial
      go true q = absurd (false≢true (sym (ap (λ (z : Session). z.accepted) (r.sound.node.rest.good t.circuit).none) ∙ (ap (λ z. ((sess w.node.core.circuits t.circuit).session z).accepted) (sym (eqb-true t.serial 0 q)) ∙ (r.sound.node.seated.placed t i).accepted)))
      go false q = (let n : t.serial ≢ 0 = eqb-false t.serial 0 q in omega (arith, n))

  -- an accepted session of a shared circuit has a generation
  pub some_generation : (p : ℕ) (t : Seat) → IsSeat t w.node.core.seats → Shared u w p t.circuit → (session_of w.node.core t).generation ≢ 0
  some_generation p t i h = (r.ends p t.circuit h).node.all_named (r.sound.node.seated.good.masters t.circuit) t.serial (some_serial t i) (r.sound.node.seated.placed t i).made

  pub one_server : (s v t : Seat) → IsSeat s w.server.core.seats → IsSeat v w.server.core.seats → IsSeat t w.node.core.seats → is_partner u w s t ≡ true → is_partner u w v t ≡ true → v ≡ s
  one_server s v t i j k p q = distinct_is w.server.core.seats v s r.sound.server.rest.distinct j i circuits serials
    where
      a : Mates u w s t
      a = mates_of u w s t p

      b : Mates u w v t
      b = mates_of u w v t q

      circuits : v.circuit ≡ s.circuit
      circuits = sym b.names ∙ a.names

      ok : EndOk (sess w.server.core.circuits s.circuit)
      ok = (r.ends s.circuit t.circuit (mates_share u w s t a)).server

      g : (session_of w.node.core t).generation ≢ 0
      g = some_generation s.circuit t k (mates_share u w s t a)

      there : session_of w.server.core v ≡ (sess w.server.core.circuits s.circuit).session v.serial
      there = ap (λ z. (sess w.server.core.circuits z).session v.serial) circuits

      one : (sess w.server.core.circuits s.circuit).serial_of (session_of w.node.core t).generation ≡ s.serial
      one = ap (sess w.server.core.circuits s.circuit).serial_of a.generation ∙ ok.serial_found s.serial (λ z. g (a.generation ∙ z))

      other : (sess w.server.core.circuits s.circuit).serial_of (session_of w.node.core t).generation ≡ v.serial
      other =
          let e : (session_of w.node.core t).generation ≡ ((sess w.server.core.circuits s.circuit).session v.serial).generation = b.generation ∙ ap (λ (z : Session). z.generation) there in
          ap (sess w.server.core.circuits s.circuit).serial_of e ∙ ok.serial_found v.serial (λ z. g (e ∙ z))

      serials : v.serial ≡ s.serial
      serials = sym other ∙ one

  pub one_node : (s t v : Seat) → IsSeat t w.node.core.seats → IsSeat v w.node.core.seats → is_partner u w s t ≡ true → is_partner u w s v ≡ true → v ≡ t
  one_node s t v i j p q = distinct_is w.node.core.seats v t r.sound.node.rest.distinct j i circuits serials
    where
      a : Mates u w s t
      a = mates_of u w s t p

      b : Mates u w s v
      b = mates_of u w s v q

      circuits : v.circuit ≡ t.circuit
      circuits = b.circuit ∙ sym a.circuit

      ok : EndOk (sess w.node.core.circuits t.circuit)
      ok = (r.ends s.circuit t.circuit (mates_share u w s t a)).node

      g : (session_of w.node.core t).generation ≢ 0
      g = some_generation s.circuit t i (mates_share u w s t a)

      there : session_of w.node.core v ≡ (sess w.node.core.circuits t.circuit).session v.serial
      there = ap (λ z. (sess w.node.core.circuits z).session v.serial) circuits

      serials : v.serial ≡ t.serial
      serials =
          let e : (session_of w.node.core t).generation ≡ ((sess w.node.core.circuits t.circuit).session v.serial).generation = a.generation ∙ (sym b.generation ∙ ap (λ (z : Session). z.generation) there) in
          sym (ok.serial_found v.serial (λ z. g (e ∙ z))) ∙ (ap (sess w.node.core.circuits t.circuit).serial_of (sym e) ∙ ok.serial_found t.serial g)

  -- no seat is nobody's partner
  pub none_partner : (s : Seat) → is_partner u w s no_seat ≡ false
  none_partner s = go (is_partner u w s no_seat) refl
    where
      go : (b : Bool) → is_partner u w s no_seat ≡ b → is_partner u w s no_seat ≡ false
      go true q = (let m : Mates u w s no_seat = mates_of u w s no_seat q in absurd (r.some s.circuit m.address m.running (sym m.circuit)))
      go false q = q
