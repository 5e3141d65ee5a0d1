-- What holds of every run of the two machines.
use Rattle.std.proofs.Common.{◌≡◌, ℕ, sym, ap, ◌∙◌, subst, true, false, List}
use Rattle.lat_model.specs.circuits.World.{CircuitEntry, Table, World}
use Rattle.lat_model.specs.circuits.Events.{go_on}
use Rattle.lat_model.specs.circuits.Agree.{Agree}
use Rattle.lat_model.specs.circuits.WorldOk.{Joint, Replied, WorldOk}
use Rattle.lat_model.proofs.circuits.Follows.{circuits_agree}
use Rattle.lat_model.specs.circuits.Ids.{is_drawn}
use Rattle.lat_machines.specs.world.Machines.{Setups, Machines, Move, run, open_machines}
use Rattle.lat_machines.specs.world.Ties.{Ties}
use Rattle.lat_machines.specs.world.Safe.{Fit, circuits_open, half_of, Shared, SharedMatch, EndsAgree, StreamsInOrder, SlotsCredited, Safe}
use Rattle.lat_machines.proofs.events.Tied.{Goes, every_run}
use Rattle.lat_machines.proofs.frames.Bytes.{heard_by_bytes}
use Rattle.lat_machines.proofs.queue.Quiet.{world_ok, run_quiet}
use Rattle.lat_machines.proofs.frames.Whole.{never_breaks}
use Rattle.lat_machines.proofs.runs.Places.{places}
use Rattle.lat_machines.proofs.tally.Worlds.{post_bears}
use Rattle.lat_machines.proofs.frames.TrueFrames.{frames_true}
use Rattle.lat_machines.proofs.spans.Runs.{node_runs, one_span}
use Rattle.lat_machines.proofs.queue.Legal.{legal_none, legal_run}

joint_of : (u : Setups) (m : Machines) (w : World) (p q : ℕ) → Ties u m w → Shared u m p q → Joint w q × ((w.node.circuit_at q).end.peer ≡ p)
joint_of u m w p q t s =
    let n : (w.node.circuit_at q).end.peer ≡ p = ap (λ (z : Table). (z.circuit_at q).end.peer) t.node ∙ s.names in
    let c : w.server.circuit_at (w.node.circuit_at q).end.peer ≡ m.server.core.circuits.circuit_at p = ap w.server.circuit_at n ∙ ap (λ (z : Table). z.circuit_at p) t.server in
    (record { address = ap (λ (z : CircuitEntry). z.address) c ∙ (s.address ∙ sym t.node_own); running = ap (λ (z : CircuitEntry). z.end.running) c ∙ s.running; peer = ap (λ (z : CircuitEntry). z.end.peer) c ∙ s.peer }, n)

ends_agree : (u : Setups) (m : Machines) (w : World) → Ties u m w → WorldOk w → EndsAgree u m
ends_agree u m w t ok p q s =
    let j : Joint w q × ((w.node.circuit_at q).end.peer ≡ p) = joint_of u m w p q t s in
    let a : Agree (w.server.circuit_at (w.node.circuit_at q).end.peer).end.half (w.node.circuit_at q).end.half = circuits_agree w ok q j.0 in
    subst (λ (z : Table). Agree (half_of m true p) (z.circuit_at q).end.half) t.node
    (subst (λ (z : Table). Agree (z.circuit_at p).end.half (w.node.circuit_at q).end.half) t.server
    (subst (λ z. Agree (w.server.circuit_at z).end.half (w.node.circuit_at q).end.half) j.1 a))

shared_match : (u : Setups) (es : List Move) → Fit u → (w : World) → Ties u (run u es (open_machines u)) w → WorldOk w → SharedMatch u (run u es (open_machines u))
shared_match u es f w t ok p q s = record { address = there ∙ t.server_own; running = runs; server_wide = (one_span u es f).ends true p s.running s.address; node_wide = (one_span u es f).ends false q runs (there ∙ t.server_own) }
  where
    m : Machines
    m = run u es (open_machines u)

    reply : Replied w p
    reply = ok.replied p (ap (λ (z : Table). (z.circuit_at p).address) t.server ∙ (s.address ∙ sym t.node_own)) (ap (λ (z : Table). (z.circuit_at p).end.running) t.server ∙ s.running)

    peer : (w.server.circuit_at p).end.peer ≡ q
    peer = ap (λ (z : Table). (z.circuit_at p).end.peer) t.server ∙ s.peer

    there : (m.node.core.circuits.circuit_at q).address ≡ w.server.own
    there = subst (λ (z : Table). (z.circuit_at q).address ≡ w.server.own) t.node (subst (λ z. (w.node.circuit_at z).address ≡ w.server.own) peer reply.address)

    runs : (m.node.core.circuits.circuit_at q).end.running ≡ true
    runs = node_runs u es f q (subst (λ (z : Table). is_drawn z q ≡ true) t.node (subst (λ z. is_drawn w.node z ≡ true) peer reply.drawn))

pub every_safe : (u : Setups) (es : List Move) → Fit u → Safe u (run u es (open_machines u))
every_safe u es f =
    let g : Goes u (run u es (open_machines u)) (circuits_open u) = every_run u es f in
    record {
      circuits = record { events = g.events; ties = g.beside.ties };
      agree = ends_agree u (run u es (open_machines u)) (go_on g.events (circuits_open u)) g.beside.ties (world_ok u f g.events);
      shared = shared_match u es f (go_on g.events (circuits_open u)) g.beside.ties (world_ok u f g.events);
      places = places u (run u es (open_machines u)) g.events f g.beside.ties (world_ok u f g.events);
      spans = one_span u es f;
      true_frames = frames_true u (run u es (open_machines u)) (go_on g.events (circuits_open u)) g.beside (world_ok u f g.events) (post_bears u es);
      queue = legal_run u es (open_machines u) legal_none;
      whole = never_breaks u (run u es (open_machines u)) (go_on g.events (circuits_open u)) g.beside (world_ok u f g.events);
      bytes = heard_by_bytes u (run u es (open_machines u)) (go_on g.events (circuits_open u)) g.beside (world_ok u f g.events);
      grants = run_quiet u es f;
    }

pub every_stream : (u : Setups) (es : List Move) → Fit u → StreamsInOrder u (run u es (open_machines u))
every_stream u es f p q g s = let a : Agree (half_of (run u es (open_machines u)) true p) (half_of (run u es (open_machines u)) false q) = (every_safe u es f).agree p q s in (a.order_up g, a.order_down g)

pub every_credit : (u : Setups) (es : List Move) → Fit u → SlotsCredited u (run u es (open_machines u))
every_credit u es f p q s = let a : Agree (half_of (run u es (open_machines u)) true p) (half_of (run u es (open_machines u)) false q) = (every_safe u es f).agree p q s in (a.credited_up, a.credited_down)
