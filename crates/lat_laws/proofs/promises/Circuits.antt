-- The circuits of both machines in every run.
use Rattle.std.proofs.Common.{◌≡◌, ℕ, refl, sym, ap, ◌∙◌, subst, Bool, true, false, cond, List, []}
use Rattle.lat_model.specs.sessions.Session.{blank}
use Rattle.lat_model.specs.sessions.Sessions.{Sessions}
use Rattle.lat_model.specs.sessions.Packing.{TaggedSlot}
use Rattle.lat_model.specs.sessions.Joined.{Joined}
use Rattle.lat_model.specs.sessions.EndOk.{EndOk}
use Rattle.lat_model.specs.numbers.Link.{Link, fresh}
use Rattle.lat_model.specs.ends.End.{Message, Half}
use Rattle.lat_model.specs.ends.Starting.{void_sessions}
use Rattle.lat_model.specs.circuits.World.{CircuitEntry, Table, World}
use Rattle.lat_model.specs.circuits.Events.{WorldRun, go_on}
use Rattle.lat_model.specs.circuits.Together.{Together, flat}
use Rattle.lat_model.specs.circuits.WorldOk.{Joint, Replied, WorldOk, mate, void_half}
use Rattle.lat_model.proofs.circuits.Windows.{run_open, open_at, window_at}
use Rattle.lat_model.proofs.circuits.Ids.{zero_undrawn}
use Rattle.lat_machines.specs.cores.Cores.{setup_of}
use Rattle.lat_machines.specs.world.Machines.{Setups, Machines, Move, run, open_machines}
use Rattle.lat_machines.specs.world.Safe.{Fit, circuits_open, Shared}
use Rattle.lat_machines.specs.world.Ties.{Ties}
use Rattle.lat_machines.proofs.events.Tied.{Goes, every_run}
use Rattle.lat_machines.proofs.queue.Quiet.{world_ok}
use Rattle.lat_laws.specs.rounds.Counting.{sessions_at, peer_at, Paired}
use Rattle.lat_laws.specs.promises.Circuits.{RunningIsShared, NothingSaid, NothingSaidBefore, WithinWindows}

-- the sessions at the other end of a circuit of the server to the node: none before its reply was heard
pub record HasMate (u : Setups) (m : Machines) (p : ℕ) : Type 0 where
  pub mates : Sessions
  pub up : List TaggedSlot
  pub down : List TaggedSlot
  pub joined : Joined (sessions_at m true p) mates up down
  pub paired : (m.server.core.circuits.circuit_at p).end.running ≡ true → Paired u m p × (mates ≡ sessions_at m false (peer_at m p))
  pub calling : (m.server.core.circuits.circuit_at p).end.running ≡ false → mates ≡ void_sessions false 0 0

-- What every world of a run has
pub record Standing (u : Setups) (m : Machines) : Type 0 where
  pub mate : (p : ℕ) → (m.server.core.circuits.circuit_at p).address ≡ u.node.own → HasMate u m p
  pub nobody : (sessions_at m false 0).session 0 ≡ blank
  pub before : NothingSaidBefore u m
  pub windows : WithinWindows m

module _ (u : Setups) (f : Fit u) (moves : List Move) where
  abbrev m : Machines
  m = run u moves (open_machines u)

  goes : Goes u m (circuits_open u)
  goes = every_run u moves f

  abbrev w : World
  w = go_on goes.events (circuits_open u)

  ties : Ties u m w
  ties = goes.beside.ties

  ok : WorldOk w
  ok = world_ok u f goes.events

  reached : WorldRun w
  reached = record {
    server = u.server.own;
    node = u.node.own;
    apart = f.apart;
    first = u.server.first;
    other_first = u.node.first;
    setup = setup_of u.server.timing;
    other = setup_of u.node.timing;
    ceiling = f.server_ceiling;
    other_ceiling = f.node_ceiling;
    events = goes.events;
    reached = refl;
  }

  -- the machines with these tables in place of theirs
  abbrev with_tables : Table → Table → Machines
  with_tables x y = record m { server = record (m.server) { core = record (m.server.core) { circuits = x } }; node = record (m.node) { core = record (m.node.core) { circuits = y } } }

  -- what holds of the world of circuits holds of the machines
  tied : (P : Machines → Type 0) → P (with_tables w.server w.node) → P m
  tied P h = subst (λ (x : Table). P (with_tables x m.node.core.circuits)) ties.server (subst (λ (y : Table). P (with_tables w.server y)) ties.node h)

  mate_in : (p : ℕ) → (w.server.circuit_at p).address ≡ u.node.own → HasMate u (with_tables w.server w.node) p
  mate_in p a = record {
    mates = (mate w p).sessions;
    up = flat t.up;
    down = flat t.down;
    joined = t.joined;
    paired = λ r. (let i : Replied w p = ok.replied p home r in let e : (mate w p).sessions ≡ (w.node.circuit_at (w.server.circuit_at p).end.peer).end.half.sessions = there true r in (
      record { home = a; runs = r; address = i.address ∙ ties.server_own; peer = i.peer; slave = ap (λ (x : Sessions). x.master) (sym e) ∙ t.joined.slave; good = subst EndOk e t.joined.slave_ok },
      e,
    ));
    calling = λ r. there false r;
  }
    where
      home : (w.server.circuit_at p).address ≡ w.node.own
      home = a ∙ sym ties.node_own

      t : Together (w.server.circuit_at p).end.half (mate w p) []
      t = ok.matched p home

      there : (b : Bool) → (w.server.circuit_at p).end.running ≡ b → (mate w p).sessions ≡ (cond b (w.node.circuit_at (w.server.circuit_at p).end.peer).end.half (void_half false)).sessions
      there b r = ap (λ c. (cond c (w.node.circuit_at (w.server.circuit_at p).end.peer).end.half (void_half false)).sessions) r

  -- a slave that isn't shared is joint with no circuit
  shared_of : (q : ℕ) → Joint w q → Shared u (with_tables w.server w.node) (w.node.circuit_at q).end.peer q
  shared_of q j = record { names = refl; address = j.address ∙ ties.node_own; running = j.running; peer = j.peer }

  said_none : (h : Half) → h.link ≡ fresh → NothingSaid h
  said_none h q = record { formed = ap (λ (l : Link Message). l.sent) q; taken = ap (λ (l : Link Message). l.came) q }

  before_in : NothingSaidBefore u (with_tables w.server w.node)
  before_in = record {
    slave = λ q a n. said_none (w.node.circuit_at q).end.half (ok.idle q (a ∙ sym ties.server_own) (λ j. n (w.node.circuit_at q).end.peer (shared_of q j))).link;
    master = λ p r. said_none (w.server.circuit_at p).end.half ((open_at w (run_open w reached) true p).quiet r);
  }

  windows_in : WithinWindows (with_tables w.server w.node)
  windows_in true x = record { formed = (open_at w (run_open w reached) true x).within; most = window_at w ok true x }
  windows_in false x = record { formed = (open_at w (run_open w reached) false x).within; most = window_at w ok false x }

  pub standing : Standing u m
  standing = record {
    mate = tied (λ (z : Machines). (p : ℕ) → (z.server.core.circuits.circuit_at p).address ≡ u.node.own → HasMate u z p) mate_in;
    nobody = tied (λ (z : Machines). (sessions_at z false 0).session 0 ≡ blank) (ap (λ (c : CircuitEntry). c.end.half.sessions.session 0) (ok.none_node 0 (zero_undrawn w.node.first w.node.drawn)));
    before = tied (NothingSaidBefore u) before_in;
    windows = tied WithinWindows windows_in;
  }

-- a circuit that runs is shared with the slave that it names
pub running_shared : (u : Setups) (m : Machines) → Standing u m → RunningIsShared u m
running_shared u m h p a r = record { names = ((h.mate p a).paired r).0.peer; address = a; running = r; peer = refl }
