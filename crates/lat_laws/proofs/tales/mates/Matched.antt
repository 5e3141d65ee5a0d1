-- A node's new session belongs to the server's last session under its circuit and id, and stays so.
use Rattle.std.proofs.Common.{◌≡◌, ◌≢◌, ℕ, ◌<◌, ⊎_elim, refl, sym, ap, ◌∙◌, arith, Bool, true, false, cond, List, [], ◌∷◌, ◌++◌, nat_eq, eqb-true}
use Rattle.std.proofs.lemmas.Bool.{and_parts, or_parts, false≢true, eqb-false}
use Rattle.lat_model.specs.sessions.Slots.{Item, Slot, has_stop, starts}
use Rattle.lat_model.specs.sessions.Session.{Session, rejected, stopped, peer}
use Rattle.lat_model.specs.sessions.Sessions.{named, of_generation}
use Rattle.lat_model.specs.Lists.{IsPrefixOf}
use Rattle.lat_machines.specs.values.Events.{Event}
use Rattle.lat_machines.specs.cores.Cores.{Seat}
use Rattle.lat_machines.specs.cores.Lines.{end_of, session_of}
use Rattle.lat_machines.specs.server.Server.{server_step}
use Rattle.lat_machines.specs.node.Node.{node_step}
use Rattle.lat_machines.specs.world.Machines.{Setups, Machines, tell}
use Rattle.lat_machines.specs.world.Safe.{Shared}
use Rattle.lat_machines.specs.world.Reports.{is_partner}
use Rattle.lat_laws.specs.rounds.Seated.{IsSeat, Placed}
use Rattle.lat_laws.proofs.rounds.ready.Seats.{over_parts}
use Rattle.lat_laws.specs.tales.Mates.{last_named, mate, mate_by_ids}
use Rattle.lat_laws.proofs.tales.steps.Tables.{sess}
use Rattle.lat_laws.proofs.tales.steps.Peers.{node_peers}
use Rattle.lat_laws.proofs.tales.seats.Sound.{last_serial, IsNew, IsFirst}
use Rattle.lat_laws.proofs.tales.seats.Follows.{Follows}
use Rattle.lat_laws.proofs.tales.mates.Reach.{BothOk, Reach}
use Rattle.lat_laws.proofs.tales.mates.Partners.{Mates, mates_of, mates_are, mates_share, some_generation, one_server}
use Rattle.lat_laws.proofs.tales.mates.Places.{at_seat, mate_at, mate_none, NamedAt, named_at}

nil_front : (xs ys : List Slot) → xs ++ ys ≡ [] → xs ≡ []
nil_front [] ys h = refl
nil_front (x ∷ xs) ys h = let z : ⊥ = cc in absurd z

pub record HasMate (u : Setups) (w : Machines) (t : Seat) : Type 0 where
  pub seat : Seat
  pub is_seat : IsSeat seat w.server.core.seats
  pub partner : is_partner u w seat t ≡ true

module _ (u : Setups) (w : Machines) (r : Reach u w) (t : Seat) (i : IsSeat t w.node.core.seats) (o : IsNew w.node.core t) (f : IsFirst (session_of w.node.core t)) where
  v : Session
  v = (sess w.node.core.circuits t.circuit).session t.serial

  serial_some : 0 < t.serial
  serial_some = go (nat_eq t.serial 0) refl
    where
      go : (b : Bool) → nat_eq t.serial 0 ≡ b → 0 < t.serial
      go true q = absurd (false≢true (sym (ap (λ (z : Session). z.accepted) (r.sound.node.rest.good t.circuit).none) ∙ (ap (λ z. ((sess w.node.core.circuits t.circuit).session z).accepted) (sym (eqb-true t.serial 0 q)) ∙ (r.sound.node.seated.placed t i).accepted)))
      go false q = (let n : t.serial ≢ 0 = eqb-false t.serial 0 q in omega (arith, n))

  begun : starts (session_of w.node.core t).came ≡ true
  begun = (r.sound.node.rest.good t.circuit).asked (r.sound.node.seated.good.masters t.circuit) t.serial serial_some (r.sound.node.seated.placed t i).made

  never_stopped : stopped (session_of w.node.core t) ≡ false
  never_stopped = (or_parts (rejected (session_of w.node.core t)) (stopped (session_of w.node.core t)) f.going).1

  module _ (a : (w.node.core.circuits.circuit_at t.circuit).address ≡ u.server.own) where
    abbrev p : ℕ
    p = (w.node.core.circuits.circuit_at t.circuit).end.peer

    abbrev g : ℕ
    g = (session_of w.node.core t).generation

    abbrev id : ℕ
    id = peer (session_of w.node.core t)

    shared : Shared u w p t.circuit
    shared = r.joint t.circuit t.serial a (r.sound.node.seated.placed t i).accepted

    ok : BothOk w p t.circuit
    ok = r.ends p t.circuit shared

    some : g ≢ 0
    some = some_generation u w r p t i shared

    own : of_generation (sess w.node.core.circuits t.circuit) g ≡ session_of w.node.core t
    own = ap (sess w.node.core.circuits t.circuit).session (ok.node.serial_found t.serial some)

    -- the server has heard nothing of it yet
    unheard : (of_generation (sess w.server.core.circuits p) g).came ≡ []
    unheard = (let h : IsPrefixOf (of_generation (sess w.server.core.circuits p) g).came (of_generation (sess w.node.core.circuits t.circuit) g).out = ok.heard g in nil_front (of_generation (sess w.server.core.circuits p) g).came h.0 (h.1 ∙ (ap (λ (z : Session). z.out) own ∙ f.out)))

    named_generation : (named (sess w.server.core.circuits p) id).generation ≡ g
    named_generation = ⊎_elim {C = (named (sess w.server.core.circuits p) id).generation ≡ g} (λ h. h) (λ h. absurd (stop_none h))
        ((r.agree p t.circuit shared).generations_down t.serial (over_parts w.node.core t o.held).1 begun never_stopped)
      where
        stop_none : stopped (of_generation (sess w.server.core.circuits p) g) ≡ true → ⊥
        stop_none h = false≢true (sym (ap has_stop unheard) ∙ (and_parts (has_stop (of_generation (sess w.server.core.circuits p) g).out) (has_stop (of_generation (sess w.server.core.circuits p) g).came) h).1)

    id_some : (sess w.server.core.circuits p).at_id id ≢ 0
    id_some z = some (sym named_generation ∙ (ap (λ k. ((sess w.server.core.circuits p).session k).generation) z ∙ ap (λ (y : Session). y.generation) (r.sound.server.rest.good p).none))

    found : NamedAt p id (last_named p id 0 0 w.server.core.seats) (last_serial p id 0 w.server.core.seats) 0 w.server.core.seats
    found = ⊎_elim {C = NamedAt p id (last_named p id 0 0 w.server.core.seats) (last_serial p id 0 w.server.core.seats) 0 w.server.core.seats} (λ h. absurd (id_some (sym (r.sound.server.rest.named refl p id) ∙ h.1))) (λ h. h) (named_at p id 0 0 0 w.server.core.seats)

    mates : Mates u w found.seat t
    mates = record {
      circuit = sym shared.peer ∙ ap (λ z. (w.server.core.circuits.circuit_at z).end.peer) (sym found.circuit);
      running = ap (λ z. (w.server.core.circuits.circuit_at z).end.running) found.circuit ∙ shared.running;
      address = ap (λ z. (w.server.core.circuits.circuit_at z).address) found.circuit ∙ shared.address;
      node_address = a;
      names = sym found.circuit;
      generation = sym named_generation ∙ (ap (λ k. ((sess w.server.core.circuits p).session k).generation) (sym (r.sound.server.rest.named refl p id) ∙ sym found.serial_is) ∙ ap (λ z. ((sess w.server.core.circuits z).session found.seat.serial).generation) (sym found.circuit));
    }

    has_mate_here : HasMate u w t
    has_mate_here = record { seat = found.seat; is_seat = at_seat found.seat (last_named p id 0 0 w.server.core.seats) 0 w.server.core.seats found.at; partner = mates_are u w found.seat t mates }

    mate_here : mate u w t ≡ last_named p id 0 0 w.server.core.seats
    mate_here = mate_at u w t found.seat (last_named p id 0 0 w.server.core.seats) 0 w.server.core.seats r.sound.server.rest.distinct found.at (mates_are u w found.seat t mates) (λ y j q. one_server u w r found.seat y t (at_seat found.seat (last_named p id 0 0 w.server.core.seats) 0 w.server.core.seats found.at) j i (mates_are u w found.seat t mates) q)

  pub new_mate : (w.node.core.circuits.circuit_at t.circuit).address ≡ u.server.own → HasMate u w t
  new_mate a = has_mate_here a

  -- the mate of a new session is found by its ids
  pub mate_found_by_ids : mate u w t ≡ mate_by_ids u w t
  mate_found_by_ids = go (nat_eq (w.node.core.circuits.circuit_at t.circuit).address u.server.own) refl
    where
      go : (b : Bool) → nat_eq (w.node.core.circuits.circuit_at t.circuit).address u.server.own ≡ b → mate u w t ≡ cond b (last_named (end_of w.node.core t).peer (peer (session_of w.node.core t)) 0 0 w.server.core.seats) 0
      go true q = mate_here (eqb-true (w.node.core.circuits.circuit_at t.circuit).address u.server.own q)
      go false q = mate_none u w t 0 w.server.core.seats (λ s j. foreign s (is_partner u w s t) refl)
        where
          foreign : (s : Seat) (b : Bool) → is_partner u w s t ≡ b → is_partner u w s t ≡ false
          foreign s true h = absurd (eqb-false (w.node.core.circuits.circuit_at t.circuit).address u.server.own q (mates_of u w s t h).node_address)
          foreign s false h = h

-- each session of the node on a circuit to the server has its mate
abbrev pub Homed : Setups → Machines → Type 0
Homed u w = (t : Seat) → IsSeat t w.node.core.seats → (w.node.core.circuits.circuit_at t.circuit).address ≡ u.server.own → HasMate u w t

-- who belongs together stays so

module _ (u : Setups) (w : Machines) (r : Reach u w) (s t : Seat) (i : IsSeat t w.node.core.seats) (m : Mates u w s t) where
  generation_some : (session_of w.server.core s).generation ≢ 0
  generation_some z = some_generation u w r s.circuit t i (mates_share u w s t m) (m.generation ∙ z)

  pub server_stays : (put took : List Item) (e : Event) (rates : List ℕ) → Follows w.server.core (server_step u.server w.server e).state.core s put took → Mates u (tell u w true e rates) s t
  server_stays put took e rates f =
      let k : ((end_of (server_step u.server w.server e).state.core s).running ≡ true) × ((end_of (server_step u.server w.server e).state.core s).peer ≡ (end_of w.server.core s).peer) = f.running m.running in
      record {
        circuit = m.circuit ∙ sym k.1;
        running = k.0;
        address = f.address ∙ m.address;
        node_address = m.node_address;
        names = m.names;
        generation = m.generation ∙ sym (f.generation generation_some);
      }

  pub node_stays : (put took : List Item) (e : Event) (rates : List ℕ) → Follows w.node.core (node_step u.node rates w.node e).state.core t put took → Mates u (tell u w false e rates) s t
  node_stays put took e rates f =
      let p : Placed u.node.lines w.node.core t = r.sound.node.seated.placed t i in
      record {
        circuit = m.circuit;
        running = m.running;
        address = m.address;
        node_address = f.address ∙ m.node_address;
        names = (node_peers u.node rates w.node e).peer t.circuit p.drawn ∙ m.names;
        generation = f.generation (λ z. generation_some (sym m.generation ∙ z)) ∙ m.generation;
      }
