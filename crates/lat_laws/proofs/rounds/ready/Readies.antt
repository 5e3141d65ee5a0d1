-- The ends of a circuit behind a round: ready for the next.
use Rattle.std.proofs.Common.{◌≡◌, ℕ, ◌+◌, ◌*◌, ◌<◌, ◌≤◌, inl, inr, ⊎_elim, sym, ap, ◌∙◌, refl, subst, arith, true, false, cond, List, []}
use Rattle.std.proofs.lemmas.Bool.{false≢true}
use Rattle.lat_model.specs.Lists.{upwards}
use Rattle.lat_model.specs.ends.End.{End, lives}
use Rattle.lat_model.specs.circuits.World.{CircuitEntry, Table, World}
use Rattle.lat_model.specs.circuits.WorldOk.{void_half, WorldOk, Replied}
use Rattle.lat_model.specs.circuits.Together.{Together, flat}
use Rattle.lat_model.specs.sessions.Joined.{Joined}
use Rattle.lat_machines.specs.cores.Cores.{Core}
use Rattle.lat_machines.specs.world.Machines.{Setups, Machines, core_of}
use Rattle.lat_machines.specs.world.Ties.{Ties}
use Rattle.lat_machines.specs.world.Safe.{Fit}
use Rattle.lat_laws.specs.rounds.Settles.{Usual}
use Rattle.lat_laws.specs.rounds.Rounds.{take_lines, take_both, next_moment}
use Rattle.lat_laws.specs.rounds.Idle.{AllAnswered, AllTaken}
use Rattle.lat_model.specs.sessions.EndOk.{EndOk}
use Rattle.lat_model.proofs.circuits.Ids.{drawn_or}
use Rattle.lat_model.specs.circuits.Ids.{is_drawn}
use Rattle.lat_laws.specs.rounds.Measure.{weights}
use Rattle.lat_laws.specs.rounds.Plain.{BothPlain, WorldPlain}
use Rattle.lat_laws.specs.rounds.Progress.{Still, Ready}
use Rattle.lat_laws.specs.rounds.Carried.{server_end, node_end, flying, Carried, Kinds}
use Rattle.lat_laws.specs.rounds.Seated.{BothSeated}
use Rattle.lat_laws.specs.rounds.Fitting.{EndFits, ways_of, BothFit}
use Rattle.lat_laws.proofs.rounds.carried.Runnings.{still_ends}
use Rattle.lat_laws.proofs.rounds.ready.Tooks.{Face, TookCore}
use Rattle.lat_laws.proofs.rounds.ready.Takes.{take_lines_took, take_lines_other}
use Rattle.lat_laws.proofs.rounds.ready.Alls.{all_taken}
use Rattle.lat_laws.proofs.rounds.ready.Answereds.{AllAnsweredAt}

-- what is known of the machines by the world of circuits beside them
pub record Known (u : Setups) (m : Machines) (w : World) (done : List ℕ) : Type 0 where
  pub ties : Ties u m w
  pub good : WorldOk w
  pub kinds : Kinds w
  pub plain : WorldPlain w
  pub carried : Carried w done

abbrev up_end : Machines → ℕ → End
up_end m p = (m.server.core.circuits.circuit_at p).end

abbrev down_end : Machines → ℕ → End
down_end m q = (m.node.core.circuits.circuit_at q).end

-- a circuit of the server to the node that runs
pub record IsRunning (u : Setups) (m : Machines) (p : ℕ) : Type 0 where
  pub address : (m.server.core.circuits.circuit_at p).address ≡ u.node.own
  pub running : (m.server.core.circuits.circuit_at p).end.running ≡ true

-- what the world says of it
pub record Coupling (u : Setups) (m : Machines) (p : ℕ) : Type 0 where
  pub together : Together (up_end m p).half (down_end m (up_end m p).peer).half []
  pub plain : BothPlain (up_end m p).half.sessions (down_end m (up_end m p).peer).half.sessions
  pub drawn : is_drawn m.server.core.circuits p ≡ true
  pub slave_drawn : is_drawn m.node.core.circuits (up_end m p).peer ≡ true
  pub slave_address : (m.node.core.circuits.circuit_at (up_end m p).peer).address ≡ u.server.own

pub coupling : (u : Setups) (m : Machines) (w : World) (done : List ℕ) (p : ℕ) → Known u m w done → IsRunning u m p → Coupling u m p
coupling u m w done p k r = record {
  together = subst (λ (t : Table). Together (t.circuit_at p).end.half (m.node.core.circuits.circuit_at (t.circuit_at p).end.peer).end.half []) k.ties.server (subst (λ (t : Table). Together (server_end w p).half (t.circuit_at (server_end w p).peer).end.half []) k.ties.node (subst (λ b. Together (server_end w p).half (cond b (node_end w (server_end w p).peer).half (void_half false)) []) run (k.good.matched p home)));
  plain = subst (λ (t : Table). BothPlain (t.circuit_at p).end.half.sessions (m.node.core.circuits.circuit_at (t.circuit_at p).end.peer).end.half.sessions) k.ties.server (subst (λ (t : Table). BothPlain (server_end w p).half.sessions (t.circuit_at (server_end w p).peer).end.half.sessions) k.ties.node (subst (λ b. BothPlain (server_end w p).half.sessions (cond b (node_end w (server_end w p).peer).half (void_half false)).sessions) run (k.plain p home)));
  drawn = ⊎_elim {C = is_drawn m.server.core.circuits p ≡ true} (λ l. absurd (false≢true (sym (ap (λ (c : CircuitEntry). c.end.running) (k.good.none_server p (subst (λ (t : Table). is_drawn t p ≡ false) (sym k.ties.server) l))) ∙ run))) (λ l. l) (drawn_or m.server.core.circuits p);
  slave_drawn = subst (λ (t : Table). is_drawn m.node.core.circuits (t.circuit_at p).end.peer ≡ true) k.ties.server (subst (λ (t : Table). is_drawn t (server_end w p).peer ≡ true) k.ties.node rep.drawn);
  slave_address = subst (λ (t : Table). (m.node.core.circuits.circuit_at (t.circuit_at p).end.peer).address ≡ u.server.own) k.ties.server (subst (λ (t : Table). (t.circuit_at (server_end w p).peer).address ≡ u.server.own) k.ties.node (rep.address ∙ k.ties.server_own));
}
  where
    home : (w.server.circuit_at p).address ≡ w.node.own
    home = ap (λ (t : Table). (t.circuit_at p).address) k.ties.server ∙ (r.address ∙ sym k.ties.node_own)

    run : (w.server.circuit_at p).end.running ≡ true
    run = ap (λ (t : Table). (t.circuit_at p).end.running) k.ties.server ∙ r.running

    rep : Replied w p
    rep = k.good.replied p home run

-- the take phase leaves a circuit but for its sessions
pub take_faces : (u : Setups) (m : Machines) (p q : ℕ) → is_drawn m.server.core.circuits p ≡ true → is_drawn m.node.core.circuits q ≡ true → Face (m.server.core.circuits.circuit_at p) ((take_both u m).server.core.circuits.circuit_at p) × Face (m.node.core.circuits.circuit_at q) ((take_both u m).node.core.circuits.circuit_at q)
take_faces u m p q pd qd = (subst (λ (c : Core). Face (m.server.core.circuits.circuit_at p) (c.circuits.circuit_at p)) (sym here) (up.table.face p pd), subst (λ (c : Core). Face (c.circuits.circuit_at q) ((take_both u m).node.core.circuits.circuit_at q)) there (down.table.face q (subst (λ (c : Core). is_drawn c.circuits q ≡ true) (sym there) qd)))
  where
    mid : Machines
    mid = take_lines u true (upwards 0 u.server.lines) m

    here : core_of (take_both u m) true ≡ core_of mid true
    here = take_lines_other u false (upwards 0 u.node.lines) mid

    there : core_of mid false ≡ core_of m false
    there = take_lines_other u true (upwards 0 u.server.lines) m

    up : TookCore (core_of m true) (core_of mid true)
    up = take_lines_took u true (upwards 0 u.server.lines) m

    down : TookCore (core_of mid false) (core_of (take_both u m) false)
    down = take_lines_took u false (upwards 0 u.node.lines) mid

-- and brings no end forward or back
pub take_weights : (u : Setups) (m : Machines) (p q : ℕ) → is_drawn m.server.core.circuits p ≡ true → is_drawn m.node.core.circuits q ≡ true → EndOk (up_end m p).half.sessions → EndOk (down_end m q).half.sessions → (weights (up_end (take_both u m) p).half.sessions ≡ weights (up_end m p).half.sessions) × (weights (down_end (take_both u m) q).half.sessions ≡ weights (down_end m q).half.sessions)
take_weights u m p q pd qd po qo = (ap (λ (c : Core). weights (c.circuits.circuit_at p).end.half.sessions) here ∙ (up.table.sessions p pd).weigh po, (down.table.sessions q (subst (λ (c : Core). is_drawn c.circuits q ≡ true) (sym there) qd)).weigh (subst (λ (c : Core). EndOk (c.circuits.circuit_at q).end.half.sessions) (sym there) qo) ∙ ap (λ (c : Core). weights (c.circuits.circuit_at q).end.half.sessions) there)
  where
    mid : Machines
    mid = take_lines u true (upwards 0 u.server.lines) m

    here : core_of (take_both u m) true ≡ core_of mid true
    here = take_lines_other u false (upwards 0 u.node.lines) mid

    there : core_of mid false ≡ core_of m false
    there = take_lines_other u true (upwards 0 u.server.lines) m

    up : TookCore (core_of m true) (core_of mid true)
    up = take_lines_took u true (upwards 0 u.server.lines) m

    down : TookCore (core_of mid false) (core_of (take_both u m) false)
    down = take_lines_took u false (upwards 0 u.node.lines) mid

-- what `Ready` asks, but that the slave has heard a RUN
pub record Readied (now : ℕ) (m : End) (s : End) : Type 0 where
  pub still : Still m s
  pub together : Together m.half s.half []
  pub plain : BothPlain m.half.sessions s.half.sessions
  pub master_due : m.due_at + 10 * m.timer ≤ now
  pub slave_due : s.due_at + 10 * s.timer ≤ now
  pub master_lives : lives m ≡ true
  pub slave_lives : lives s ≡ true
  pub master_runs : m.running ≡ true
  pub slave_runs : s.running ≡ true
  pub master_window : 0 < m.window
  pub slave_window : 0 < s.window
  pub master_room : 300 ≤ m.room
  pub slave_room : 300 ≤ s.room
  pub master_gives : 0 < m.half.sessions.ceiling
  pub slave_gives : 0 < s.half.sessions.ceiling
  pub answered : AllAnswered s.half.sessions
  pub master_takes : AllTaken m.half.sessions
  pub slave_takes : AllTaken s.half.sessions

pub ready_heard : (now : ℕ) (m s : End) → Readied now m s → s.heard_run ≡ true → Ready now m s
ready_heard now m s r h = record {
  still = r.still;
  together = r.together;
  plain = r.plain;
  master_due = r.master_due;
  slave_due = r.slave_due;
  master_lives = r.master_lives;
  slave_lives = r.slave_lives;
  master_runs = r.master_runs;
  slave_runs = r.slave_runs;
  slave_forms = h;
  master_window = r.master_window;
  slave_window = r.slave_window;
  master_room = r.master_room;
  slave_room = r.slave_room;
  master_gives = r.master_gives;
  slave_gives = r.slave_gives;
  answered = r.answered;
  master_takes = r.master_takes;
  slave_takes = r.slave_takes;
}

-- Behind a round at this moment, of which m is the world behind its deliveries
pub record Rounded (u : Setups) (now : ℕ) (m : Machines) (p : ℕ) : Type 0 where
  pub fit : Fit u
  pub usual : Usual u
  pub seated : BothSeated u m
  pub fits : BothFit u (take_both u m)
  pub fits_before : BothFit u m
  pub answered : AllAnsweredAt (take_both u m)
  pub world : World
  pub done : List ℕ
  pub known : Known u m world done
  pub world_after : World
  pub done_after : List ℕ
  pub known_after : Known u (take_both u m) world_after done_after
  pub runs : IsRunning u m p
  pub server_moment : (take_both u m).server.core.moment ≤ now
  pub node_moment : (take_both u m).node.core.moment ≤ now
  pub lives_on : lives (up_end (take_both u m) p) ≡ true
  pub up_empty : flying world_after done_after true p ≡ []
  pub down_empty : flying world_after done_after false (up_end (take_both u m) p).peer ≡ []

pub ready : (u : Setups) (now : ℕ) (m : Machines) (p : ℕ) → Rounded u now m p → Readied (next_moment u now) (up_end (take_both u m) p) (down_end (take_both u m) (up_end (take_both u m) p).peer)
ready u now m p h = record {
  still = stays.1;
  together = c'.together;
  plain = c'.plain;
  master_due = omega (arith, f.due, h.server_moment, f.timer (inl refl) r'.address);
  slave_due = omega (arith, g.due, h.node_moment, g.timer (inr slave_runs) c'.slave_address);
  master_lives = h.lives_on;
  slave_lives = stays.0;
  master_runs = r'.running;
  slave_runs = slave_runs;
  master_window = f.window r'.running;
  slave_window = g.window slave_runs;
  master_room = f.room r'.running r'.address;
  slave_room = g.room slave_runs c'.slave_address;
  master_gives = (let y : 0 < u.server.timing.ceiling = h.usual.server_gives in omega (arith, y, f.ceiling));
  slave_gives = (let y : 0 < u.node.timing.ceiling = h.usual.node_gives in omega (arith, y, g.ceiling));
  answered = h.answered q' stays.0;
  master_takes = takes.0;
  slave_takes = takes.1;
}
  where
    d : Machines
    d = take_both u m

    c : Coupling u m p
    c = coupling u m h.world h.done p h.known h.runs

    q : ℕ
    q = (up_end m p).peer

    faces : Face (m.server.core.circuits.circuit_at p) (d.server.core.circuits.circuit_at p) × Face (m.node.core.circuits.circuit_at q) (d.node.core.circuits.circuit_at q)
    faces = take_faces u m p q c.drawn c.slave_drawn

    q' : ℕ
    q' = (up_end d p).peer

    same : q' ≡ q
    same = faces.0.peer

    r' : IsRunning u d p
    r' = record { address = faces.0.address ∙ h.runs.address; running = faces.0.running ∙ h.runs.running }

    c' : Coupling u d p
    c' = coupling u d h.world_after h.done_after p h.known_after r'

    w : World
    w = h.world_after

    k : Ties u d w
    k = h.known_after.ties

    home : (w.server.circuit_at p).address ≡ w.node.own
    home = ap (λ (t : Table). (t.circuit_at p).address) k.server ∙ (r'.address ∙ sym k.node_own)

    run : (server_end w p).running ≡ true
    run = ap (λ (t : Table). (t.circuit_at p).end.running) k.server ∙ r'.running

    alive : lives (server_end w p) ≡ true
    alive = ap (λ (t : Table). lives (t.circuit_at p).end) k.server ∙ h.lives_on

    peer_is : (server_end w p).peer ≡ q'
    peer_is = ap (λ (t : Table). (t.circuit_at p).end.peer) k.server

    stays : (lives (down_end d q') ≡ true) × Still (up_end d p) (down_end d q')
    stays = subst (λ (t : Table). (lives (d.node.core.circuits.circuit_at (t.circuit_at p).end.peer).end ≡ true) × Still (t.circuit_at p).end (d.node.core.circuits.circuit_at (t.circuit_at p).end.peer).end) k.server
        (subst (λ (t : Table). (lives (t.circuit_at (server_end w p).peer).end ≡ true) × Still (server_end w p) (t.circuit_at (server_end w p).peer).end) k.node
        (still_ends w h.done_after p h.known_after.good h.known_after.kinds h.known_after.carried home alive run h.up_empty (ap (flying w h.done_after false) peer_is ∙ h.down_empty)))

    slave_runs : (down_end d q').running ≡ true
    slave_runs = sym (ap (λ (t : Table). (t.circuit_at q').end.running) k.node) ∙ h.known_after.kinds.runs q' (ap (λ (t : Table). lives (t.circuit_at q').end) k.node ∙ stays.0)

    f : EndFits (ways_of u true) d.server.core.moment (d.server.core.circuits.circuit_at p).address (up_end d p)
    f = h.fits.server p

    g : EndFits (ways_of u false) d.node.core.moment (d.node.core.circuits.circuit_at q').address (down_end d q')
    g = h.fits.node q'

    takes : AllTaken (up_end d p).half.sessions × AllTaken (down_end d q').half.sessions
    takes = subst (λ z. AllTaken (up_end d p).half.sessions × AllTaken (down_end d z).half.sessions) (sym same) (all_taken u m p q (record {
      sessions = h.fit.sessions;
      seated = h.seated;
      up = flat c.together.up;
      down = flat c.together.down;
      joined = c.together.joined;
      master = c.plain.master;
      slave = c.plain.slave;
      master_low = (let y : u.server.timing.ceiling ≤ 15 = h.usual.server_low in omega (arith, y, (h.fits_before.server p).ceiling));
      slave_low = (let y : u.node.timing.ceiling ≤ 15 = h.usual.node_low in omega (arith, y, (h.fits_before.node q).ceiling));
      master_drawn = c.drawn;
      slave_drawn = c.slave_drawn;
      up_after = flat c'.together.up;
      down_after = flat c'.together.down;
      joined_after = subst (λ z. Joined (up_end d p).half.sessions (down_end d z).half.sessions (flat c'.together.up) (flat c'.together.down)) same c'.together.joined;
      master_lives = h.lives_on;
      slave_lives = subst (λ z. lives (down_end d z) ≡ true) same stays.0;
    }))
