-- What every world of a run has: sound line sessions, and both ends of each circuit that they share.
use Rattle.std.proofs.Common.{◌≡◌, ◌≢◌, ℕ, ◌<◌, ⊎_elim, refl, sym, ap, ◌∙◌, subst, Bool, true, false, not, cond, List, [], ◌∷◌, Option, Some, None, slice_get}
use Rattle.std.proofs.lemmas.Bool.{true≢false, false≢true}
use Rattle.lat_model.specs.sessions.Sessions.{Sessions, of_generation}
use Rattle.lat_model.specs.sessions.EndOk.{EndOk}
use Rattle.lat_model.specs.sessions.Joined.{slots_of}
use Rattle.lat_model.specs.Lists.{IsPrefixOf}
use Rattle.lat_model.specs.circuits.World.{CircuitEntry, Table, World}
use Rattle.lat_model.specs.circuits.Events.{go_on}
use Rattle.lat_model.specs.circuits.Together.{flat, Together}
use Rattle.lat_model.specs.circuits.WorldOk.{WorldOk, Joint, Idle, mate, void_half}
use Rattle.lat_model.proofs.circuits.Worlds.{joint_decides}
use Rattle.lat_machines.specs.values.Events.{Event, Hears, is_heard}
use Rattle.lat_machines.specs.world.Machines.{Setups, Posted, Machines, Move, Does, HearsFrame, HearsForeign, tell, is_for_other, heard_as, counted, marked_delivered, comes, is_own, happens, run, open_machines}
use Rattle.lat_machines.specs.world.Safe.{Fit, circuits_open, Shared, EndsAgree}
use Rattle.lat_machines.specs.world.Ties.{Ties}
use Rattle.lat_machines.proofs.events.Tied.{Goes, every_run}
use Rattle.lat_machines.proofs.queue.Quiet.{world_ok}
use Rattle.lat_machines.proofs.runs.Safety.{every_safe}
use Rattle.lat_laws.proofs.rounds.ready.Events.{open_seated}
use Rattle.lat_laws.proofs.tales.steps.Tables.{sess}
use Rattle.lat_laws.proofs.tales.steps.Goes.{void_good}
use Rattle.lat_laws.proofs.tales.seats.Sound.{Sound}
use Rattle.lat_laws.proofs.tales.seats.Told.{server_tale, node_tale}

pub record BothSound (u : Setups) (w : Machines) : Type 0 where
  pub server : Sound true u.server.lines w.server.core
  pub node : Sound false u.node.lines w.node.core

pub tell_sound : (u : Setups) (w : Machines) (b : Bool) (e : Event) (rates : List ℕ) → 0 < u.server.timing.sessions → BothSound u w → BothSound u (tell u w b e rates)
tell_sound u w true e rates pos h = record { server = (server_tale u.server w.server e pos h.server).sound; node = h.node }
tell_sound u w false e rates pos h = record { server = h.server; node = (node_tale u.node rates w.node e h.node).sound }

sound_cond : (u : Setups) (b : Bool) (x y : Machines) → BothSound u x → BothSound u y → BothSound u (cond b x y)
sound_cond u true x y p q = p
sound_cond u false x y p q = q

pub marked_sound : (u : Setups) (i : ℕ) (w : Machines) → BothSound u w → BothSound u (marked_delivered i w)
marked_sound u i w h = record { server = h.server; node = h.node }

happens_sound : (u : Setups) (w : Machines) (m : Move) → 0 < u.server.timing.sessions → BothSound u w → BothSound u (happens u w m)
happens_sound u w (Does b e rates) pos h = sound_cond u (is_heard e) w (tell u w b e rates) h (tell_sound u w b e rates pos h)
happens_sound u w (HearsForeign b from payload now rates) pos h = sound_cond u (is_own u from) w (tell u w b (Hears from payload None now) rates) h (tell_sound u w b (Hears from payload None now) rates pos h)
happens_sound u w (HearsFrame i now rates) pos h = go (slice_get w.posts i)
  where
    go : (o : Option Posted) → BothSound u (comes u w i now rates o)
    go None = h
    go (Some p) = sound_cond u (is_for_other u p) (tell u (marked_delivered i w) (not p.by_server) (heard_as u p now) rates) (counted (marked_delivered i w)) (tell_sound u (marked_delivered i w) (not p.by_server) (heard_as u p now) rates pos (marked_sound u i w h)) (record { server = h.server; node = h.node })

runs_sound : (u : Setups) (ms : List Move) (w : Machines) → 0 < u.server.timing.sessions → BothSound u w → BothSound u (run u ms w)
runs_sound u [] w pos h = h
runs_sound u (m ∷ ms) w pos h = runs_sound u ms (happens u w m) pos (happens_sound u w m pos h)

open_sound : (u : Setups) → BothSound u (open_machines u)
open_sound u = record {
  server = record { seated = (open_seated u).server; rest = record { good = λ x. void_good true _ _; distinct = tt; ours = λ s i. absurd i; named = λ m x i. refl } };
  node = record { seated = (open_seated u).node; rest = record { good = λ x. void_good false _ _; distinct = tt; ours = λ s i. absurd i; named = λ m x i. absurd (true≢false (sym m)) } };
}

-- the ends of a circuit of both
pub record BothOk (w : Machines) (p : ℕ) (q : ℕ) : Type 0 where
  pub server : EndOk (sess w.server.core.circuits p)
  pub node : EndOk (sess w.node.core.circuits q)
  -- what the server heard of a session, the node formed
  pub heard : (g : ℕ) → IsPrefixOf (of_generation (sess w.server.core.circuits p) g).came (of_generation (sess w.node.core.circuits q) g).out

pub record Reach (u : Setups) (w : Machines) : Type 0 where
  pub sound : BothSound u w
  pub agree : EndsAgree u w
  pub ends : (p q : ℕ) → Shared u w p q → BothOk w p q
  pub some : (p : ℕ) → (w.server.core.circuits.circuit_at p).address ≡ u.node.own → (w.server.core.circuits.circuit_at p).end.running ≡ true → (w.server.core.circuits.circuit_at p).end.peer ≢ 0
  -- a circuit of the node to the server that has accepted a session is shared
  pub joint : (q k : ℕ) → (w.node.core.circuits.circuit_at q).address ≡ u.server.own → ((sess w.node.core.circuits q).session k).accepted ≡ true → Shared u w (w.node.core.circuits.circuit_at q).end.peer q

ends_ok : (u : Setups) (m : Machines) (w : World) → Ties u m w → WorldOk w → (p q : ℕ) → Shared u m p q → BothOk m p q
ends_ok u m w t ok p q s = record {
  server = subst (λ (z : Table). EndOk (sess z p)) t.server g.joined.master_ok;
  node = subst EndOk there g.joined.slave_ok;
  heard = λ n. subst (λ (z : Table). IsPrefixOf (of_generation (sess z p) n).came (of_generation (sess m.node.core.circuits q) n).out) t.server (subst (λ (z : Sessions). IsPrefixOf (of_generation (sess w.server p) n).came (of_generation z n).out) there (slots_of n (flat g.down), sym (g.joined.flow_down.at_generation n)));
}
  where
    at : w.server.circuit_at p ≡ m.server.core.circuits.circuit_at p
    at = ap (λ (z : Table). z.circuit_at p) t.server

    runs : (w.server.circuit_at p).end.running ≡ true
    runs = ap (λ (z : CircuitEntry). z.end.running) at ∙ s.running

    peer : (w.server.circuit_at p).end.peer ≡ q
    peer = ap (λ (z : CircuitEntry). z.end.peer) at ∙ s.peer

    there : (mate w p).sessions ≡ sess m.node.core.circuits q
    there =
        ap (λ b. (cond b (w.node.circuit_at (w.server.circuit_at p).end.peer).end.half (void_half false)).sessions) runs
        ∙ (ap (λ z. sess w.node z) peer ∙ ap (λ (z : Table). sess z q) t.node)

    g : Together (w.server.circuit_at p).end.half (mate w p) []
    g = ok.matched p (ap (λ (z : CircuitEntry). z.address) at ∙ (s.address ∙ sym t.node_own))

joins : (u : Setups) (m : Machines) (w : World) → Ties u m w → WorldOk w → (q k : ℕ) → (m.node.core.circuits.circuit_at q).address ≡ u.server.own → ((sess m.node.core.circuits q).session k).accepted ≡ true → Shared u m (m.node.core.circuits.circuit_at q).end.peer q
joins u m w t ok q k a acc = ⊎_elim {C = Shared u m (m.node.core.circuits.circuit_at q).end.peer q} is not_so (joint_decides w q)
  where
    at : w.node.circuit_at q ≡ m.node.core.circuits.circuit_at q
    at = ap (λ (z : Table). z.circuit_at q) t.node

    p : ℕ
    p = (m.node.core.circuits.circuit_at q).end.peer

    there : w.server.circuit_at (w.node.circuit_at q).end.peer ≡ m.server.core.circuits.circuit_at p
    there = ap (λ z. w.server.circuit_at z) (ap (λ (z : CircuitEntry). z.end.peer) at) ∙ ap (λ (z : Table). z.circuit_at p) t.server

    is : Joint w q → Shared u m p q
    is j = record {
      names = refl;
      address = ap (λ (z : CircuitEntry). z.address) (sym there) ∙ (j.address ∙ t.node_own);
      running = ap (λ (z : CircuitEntry). z.end.running) (sym there) ∙ j.running;
      peer = ap (λ (z : CircuitEntry). z.end.peer) (sym there) ∙ j.peer;
    }

    not_so : (Joint w q → ⊥) → Shared u m p q
    not_so n =
        let i : Idle (w.node.circuit_at q).end = ok.idle q (ap (λ (z : CircuitEntry). z.address) at ∙ (a ∙ sym t.server_own)) n in
        absurd (false≢true (sym (ap (λ (z : Sessions). (z.session k).accepted) i.sessions) ∙ (ap (λ (z : CircuitEntry). (z.end.half.sessions.session k).accepted) at ∙ acc)))

pub reach_run : (u : Setups) (es : List Move) → Fit u → Reach u (run u es (open_machines u))
reach_run u es f =
    let m : Machines = run u es (open_machines u) in
    let g : Goes u m (circuits_open u) = every_run u es f in
    let w : World = go_on g.events (circuits_open u) in
    let t : Ties u m w = g.beside.ties in
    let ok : WorldOk w = world_ok u f g.events in
    record {
      sound = runs_sound u es (open_machines u) f.sessions (open_sound u);
      agree = (every_safe u es f).agree;
      ends = ends_ok u m w t ok;
      some = λ p a r. (let at : w.server.circuit_at p ≡ m.server.core.circuits.circuit_at p = ap (λ (z : Table). z.circuit_at p) t.server in subst (λ (z : CircuitEntry). z.end.peer ≢ 0) at (ok.replied p (ap (λ (z : CircuitEntry). z.address) at ∙ (a ∙ sym t.node_own)) (ap (λ (z : CircuitEntry). z.end.running) at ∙ r)).some);
      joint = joins u m w t ok;
    }
