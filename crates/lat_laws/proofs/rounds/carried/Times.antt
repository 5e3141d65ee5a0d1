-- Time, local calls, moments, and an end that a side makes keep what is in flight.
use Rattle.std.proofs.Common.{◌≡◌, ℕ, ◌+◌, ◌≤◌, inl, ⊎_elim, sym, ap, ap₂, refl, subst, arith, Bool, true, false, cond, List, [], length}
use Rattle.lat_model.specs.sessions.Slots.{Slot}
use Rattle.lat_model.specs.sessions.Calls.{Call}
use Rattle.lat_model.specs.numbers.Link.{Link}
use Rattle.lat_model.specs.ends.End.{End, Step, still, lives, call_end, finish}
use Rattle.lat_model.specs.ends.Timers.{time_step}
use Rattle.lat_model.specs.circuits.World.{World, at_end}
use Rattle.lat_model.specs.circuits.Events.{Locally, Times, Moves, occurs, Ends}
use Rattle.lat_model.specs.circuits.WorldOk.{WorldOk, Joint, Idle, void_half}
use Rattle.lat_model.proofs.circuits.Kin.{Kin, kin_time, kin_finish}
use Rattle.lat_model.proofs.circuits.Begins.{kin_call, server_alive}
use Rattle.lat_model.proofs.circuits.Worlds.{joint_decides}
use Rattle.lat_model.proofs.numbers.Net.{prefix_length}
use Rattle.lat_model.specs.circuits.Together.{Together}
use Rattle.lat_model.proofs.circuits.Ids.{drawn_some}
use Rattle.lat_laws.specs.rounds.Flight.{LinkSound}
use Rattle.lat_laws.specs.rounds.Carried.{flying, server_end, node_end, Carried}
use Rattle.lat_laws.proofs.rounds.flight.Sending.{Sends, quiet_sends, time_sends, finish_sends}
use Rattle.lat_laws.proofs.rounds.carried.Ends.{True_step, time_true, quiet_true, finish_true}
use Rattle.lat_laws.proofs.rounds.carried.Servers as Servers
use Rattle.lat_laws.proofs.rounds.carried.Nodes as Nodes

-- what a circuit of the node keeps of its numbers
pub node_sound : (w : World) (x : ℕ) → WorldOk w → (w.node.circuit_at x).address ≡ w.server.own → LinkSound (node_end w x)
node_sound w x ok h = ⊎_elim {C = LinkSound (node_end w x)} joint (λ n. alone (ok.idle x h n)) (joint_decides w x)
  where
    joint : Joint w x → LinkSound (node_end w x)
    joint j =
        let p : ℕ = (node_end w x).peer in
        let t : Together (server_end w p).half (node_end w x).half [] = subst (λ z. Together (server_end w p).half z []) (ap₂ (λ r q. cond r (w.node.circuit_at q).end.half (void_half false)) j.running j.peer) (ok.matched p j.address) in
        record {
          shown = t.way_down.shown_taken;
          known = omega (arith, t.way_down.known_taken, prefix_length (server_end w p).half.link.came (node_end w x).half.link.sent t.way_down.came_first);
          most = t.way_down.window;
          window = (ok.windows x).1;
        }

    alone : Idle (node_end w x) → LinkSound (node_end w x)
    alone i = record {
      shown = subst (λ (z : Link (List Slot)). z.shown ≤ length z.came) (sym i.link) (omega arith);
      known = subst (λ (z : Link (List Slot)). z.known ≤ length z.sent) (sym i.link) (omega arith);
      most = subst (λ (z : Link (List Slot)). length z.sent ≤ z.known + 8) (sym i.link) (omega arith);
      window = (ok.windows x).1;
    }

-- a circuit of the server sends by itself
server_sends : (w : World) (done : List ℕ) (x : ℕ) (st : Step) → WorldOk w → lives (server_end w x) ≡ true → Kin (server_end w x) st.end → Sends (server_end w x) st → True_step (server_end w x) st → Carried w done → Carried (at_end w true x st) done
server_sends w done x st ok l kin s t k = Servers.server_step_carried w done done x st ok l kin
    (λ h. record { flow = λ b fs f. s.flow b fs (Servers.server_sound w x ok h) f; shows = s.shows })
    (record { came = omega (arith, ap length s.came); known = omega (arith, s.known) })
    t.truly k k.below (λ p. refl) (λ q z n. refl)
    (λ h r y f. Servers.receiver_flow (node_end w (server_end w x).peer).half.link (server_end w x).half.link st.end.half.link (flying w done false (server_end w x).peer) s.came s.known f)
    (λ h r a b d. d)
    (λ j f g i. inl i)

node_sends : (w : World) (done : List ℕ) (x : ℕ) (st : Step) → WorldOk w → lives (node_end w x) ≡ true → Kin (node_end w x) st.end → Sends (node_end w x) st → True_step (node_end w x) st → Carried w done → Carried (at_end w false x st) done
node_sends w done x st ok l kin s t k = Nodes.node_step_carried w done done x st ok l kin
    (λ h. record { flow = λ b fs f. s.flow b fs (node_sound w x ok h) f; clear = s.clear })
    (record { came = omega (arith, ap length s.came); known = omega (arith, s.known) })
    (λ h a d. t.stops l d (drawn_some w.server.first w.server.drawn (node_end w x).peer (server_alive w (node_end w x).peer ok a))) k k.below (λ q. refl) (λ p n b f. f)
    (λ p h r i f. Servers.receiver_flow (server_end w p).half.link (node_end w x).half.link st.end.half.link (flying w done true p) s.came s.known f)
    (λ j f g i. inl i)

carried_cond : (c : Bool) (done : List ℕ) (v w : World) → (c ≡ true → Carried v done) → Carried w done → Carried (cond c v w) done
carried_cond true done v w p q = p refl
carried_cond false done v w p q = q

call_sends : (c : Call) (e : End) → Sends e (still (call_end c e))
call_sends c e = quiet_sends e (call_end c e) refl refl refl

pub times_carried : (w : World) (done : List ℕ) (b : Bool) (x now : ℕ) → WorldOk w → Carried w done → Carried (occurs w (Times b x now)) done
times_carried w done true x now ok k = carried_cond (lives (server_end w x)) done (at_end w true x (time_step now (server_end w x))) w (λ l. server_sends w done x (time_step now (server_end w x)) ok l (kin_time now (server_end w x)) (time_sends now (server_end w x)) (time_true now (server_end w x) l) k) k
times_carried w done false x now ok k = carried_cond (lives (node_end w x)) done (at_end w false x (time_step now (node_end w x))) w (λ l. node_sends w done x (time_step now (node_end w x)) ok l (kin_time now (node_end w x)) (time_sends now (node_end w x)) (time_true now (node_end w x) l) k) k

pub ends_carried : (w : World) (done : List ℕ) (b : Bool) (x r : ℕ) → WorldOk w → Carried w done → Carried (occurs w (Ends b x r)) done
ends_carried w done true x r ok k =
    let e : End = server_end w x in
    carried_cond (lives e) done (at_end w true x (finish r e)) w (λ l. server_sends w done x (finish r e) ok l (kin_finish r e) (finish_sends r e) (finish_true r e e refl refl) k) k
ends_carried w done false x r ok k =
    let e : End = node_end w x in
    carried_cond (lives e) done (at_end w false x (finish r e)) w (λ l. node_sends w done x (finish r e) ok l (kin_finish r e) (finish_sends r e) (finish_true r e e refl refl) k) k

pub locally_carried : (w : World) (done : List ℕ) (b : Bool) (x : ℕ) (c : Call) → WorldOk w → Carried w done → Carried (occurs w (Locally b x c)) done
locally_carried w done true x c ok k = carried_cond (lives (server_end w x)) done (at_end w true x (still (call_end c (server_end w x)))) w (λ l. server_sends w done x (still (call_end c (server_end w x))) ok l (kin_call c (server_end w x)) (call_sends c (server_end w x)) (quiet_true (server_end w x) (call_end c (server_end w x)) refl) k) k
locally_carried w done false x c ok k = carried_cond (lives (node_end w x)) done (at_end w false x (still (call_end c (node_end w x)))) w (λ l. node_sends w done x (still (call_end c (node_end w x))) ok l (kin_call c (node_end w x)) (call_sends c (node_end w x)) (quiet_true (node_end w x) (call_end c (node_end w x)) refl) k) k

pub moves_carried : (w : World) (done : List ℕ) (b : Bool) (x now : ℕ) → WorldOk w → Carried w done → Carried (occurs w (Moves b x now)) done
moves_carried w done true x now ok k =
    let e : End = server_end w x in
    carried_cond (lives e) done (at_end w true x (still (record e { moment = now }))) w (λ l. server_sends w done x (still (record e { moment = now })) ok l (record { peer = refl; running = refl; master = refl; window = refl; wide = refl; sessions = refl }) (quiet_sends e (record e { moment = now }) refl refl refl) (quiet_true e (record e { moment = now }) refl) k) k
moves_carried w done false x now ok k =
    let e : End = node_end w x in
    carried_cond (lives e) done (at_end w false x (still (record e { moment = now }))) w (λ l. node_sends w done x (still (record e { moment = now })) ok l (record { peer = refl; running = refl; master = refl; window = refl; wide = refl; sessions = refl }) (quiet_sends e (record e { moment = now }) refl refl refl) (quiet_true e (record e { moment = now }) refl) k) k
