-- Each session of the node with the server is the partner of one session of the server.
use Rattle.std.proofs.Common.{◌≡◌, ◌≢◌, ℕ, ◌<◌, ⊎_elim, refl, sym, ap, ◌∙◌, arith, Bool, true, false, List, [], ◌++◌, nat_eq, eqb-true}
use Rattle.std.proofs.lemmas.Bool.{false≢true, eqb-false}
use Rattle.lat_model.specs.sessions.Slots.{starts}
use Rattle.lat_model.specs.sessions.Session.{Session}
use Rattle.lat_model.specs.sessions.Sessions.{Sessions, of_generation}
use Rattle.lat_model.specs.sessions.Joined.{slots_of}
use Rattle.lat_machines.specs.cores.Cores.{Seat, no_seat}
use Rattle.lat_machines.specs.cores.Lines.{session_of, line_exists}
use Rattle.lat_machines.specs.world.Machines.{Setups, Machines, Move, run, open_machines}
use Rattle.lat_machines.specs.world.Reports.{is_partner}
use Rattle.lat_machines.specs.world.Safe.{Fit, Shared}
use Rattle.lat_laws.specs.rounds.Counting.{sessions_at}
use Rattle.lat_laws.specs.rounds.Seated.{IsSeat, HasSeat}
use Rattle.lat_laws.proofs.rounds.counting.Partners.{partner_or}
use Rattle.lat_laws.proofs.tales.mates.Reach.{Reach, reach_run}
use Rattle.lat_laws.proofs.tales.mates.Partners.{Mates, mates_are, some_generation, one_server, one_node}
use Rattle.lat_laws.proofs.tales.mates.Places.{partner_is}
use Rattle.lat_laws.specs.promises.Rows.{HasRow, NodeSessionsHaveRows}
use Rattle.lat_laws.proofs.promises.Sessions.{none_before}
use Rattle.lat_laws.proofs.promises.Circuits.{HasMate, Standing, standing}

module _ (u : Setups) (w : Machines) (r : Reach u w) (h : Standing u w) (t : Seat) (i : IsSeat t w.node.core.seats) (home : (w.node.core.circuits.circuit_at t.circuit).address ≡ u.server.own) where
  abbrev p : ℕ
  p = (w.node.core.circuits.circuit_at t.circuit).end.peer

  abbrev g : ℕ
  g = (session_of w.node.core t).generation

  abbrev ups : Sessions
  ups = sessions_at w true (w.node.core.circuits.circuit_at t.circuit).end.peer

  shared : Shared u w p t.circuit
  shared = r.joint t.circuit t.serial home (r.sound.node.seated.placed t i).accepted

  generation_some : g ≢ 0
  generation_some = some_generation u w r p t i shared

  serial_some : 0 < t.serial
  serial_some = go (nat_eq t.serial 0) refl
    where
      go : (b : Bool) → nat_eq t.serial 0 ≡ b → 0 < t.serial
      go true q = absurd (generation_some (ap (λ z. ((sessions_at w false t.circuit).session z).generation) (eqb-true t.serial 0 q) ∙ ap (λ (z : Session). z.generation) (r.sound.node.rest.good t.circuit).none))
      go false q = let n : t.serial ≢ 0 = eqb-false t.serial 0 q in omega (arith, n)

  -- it heard an ask
  begun : starts (session_of w.node.core t).came ≡ true
  begun = (r.sound.node.rest.good t.circuit).asked (r.sound.node.seated.good.masters t.circuit) t.serial serial_some (r.sound.node.seated.placed t i).made

  x : HasMate u w p
  x = h.mate p shared.address

  own : of_generation x.mates g ≡ session_of w.node.core t
  own =
      ap (λ (z : Sessions). of_generation z g) (x.paired shared.running).1
      ∙ (ap (λ q. of_generation (sessions_at w false q) g) shared.peer
      ∙ ap (sessions_at w false t.circuit).session ((r.ends p t.circuit shared).node.serial_found t.serial generation_some))

  -- which the server's session of its generation formed
  asked : ups.serial_of g ≢ 0
  asked z = false≢true (sym (ap starts (none_before (session_of w.node.core t).came (slots_of g x.up) (ap (λ (y : Session). y.came ++ slots_of g x.up) (sym own) ∙ (sym (x.joined.flow_up.at_generation g) ∙ none)))) ∙ begun)
    where
      none : (of_generation ups g).out ≡ []
      none = ap (λ k. (ups.session k).out) z ∙ ap (λ (y : Session). y.out) x.joined.master_ok.none

  seat : HasSeat w.server.core p (ups.serial_of g)
  seat = r.sound.server.seated.all refl p (ups.serial_of g) (omega (arith, asked)) (x.joined.master_ok.serial_made g)

  abbrev s : Seat
  s = seat.seat

  mates : Mates u w s t
  mates = record {
    circuit = sym shared.peer ∙ ap (λ z. (w.server.core.circuits.circuit_at z).end.peer) (sym seat.circuit);
    running = ap (λ z. (w.server.core.circuits.circuit_at z).end.running) seat.circuit ∙ shared.running;
    address = ap (λ z. (w.server.core.circuits.circuit_at z).address) seat.circuit ∙ shared.address;
    node_address = home;
    names = sym seat.circuit;
    generation =
        sym (x.joined.master_ok.generation_found g asked)
        ∙ (ap (λ k. (ups.session k).generation) (sym seat.serial)
        ∙ ap (λ z. ((sessions_at w true z).session s.serial).generation) (sym seat.circuit));
  }

  -- nobody is no session of the node
  some_line : t ≡ no_seat → ⊥
  some_line q = false≢true (ap (λ (z : Seat). line_exists u.node.lines z.line) (sym q) ∙ (r.sound.node.seated.placed t i).line)

  has_row : HasRow u w t
  has_row = record {
    seat = s;
    is_seat = seat.is_seat;
    found = partner_is u w s t w.node.core.seats i (mates_are u w s t mates) (λ v j q. one_node u w r s t v i j (mates_are u w s t mates) q);
    alone = λ v j q. one_server u w r s v t seat.is_seat j i (mates_are u w s t mates) (⊎_elim {C = is_partner u w v t ≡ true} (λ k. ap (is_partner u w v) (sym q) ∙ k) (λ n. absurd (some_line (sym q ∙ n))) (partner_or u w v w.node.core.seats));
  }

pub run_rows : (u : Setups) (moves : List Move) → Fit u → NodeSessionsHaveRows u (run u moves (open_machines u))
run_rows u moves f t i home = has_row u (run u moves (open_machines u)) (reach_run u moves f) (standing u f moves) t i home
