-- What is known of a circuit at the start of each round but the first, and so what the round brings.
use Rattle.std.proofs.Common.{◌≡◌, ◌≢◌, ℕ, zero, suc, ◌<◌, ◌≤◌, sym, ap, ◌∙◌, refl, subst, arith, Bool, true, false, List, [], ◌∷◌, None}
use Rattle.std.proofs.lemmas.Bool.{true≢false}
use Rattle.lat_model.specs.Lists.{upwards}
use Rattle.lat_model.specs.ends.End.{End, lives}
use Rattle.lat_model.specs.ends.Timers.{time_step}
use Rattle.lat_model.specs.circuits.World.{CircuitEntry, Table}
use Rattle.lat_model.specs.circuits.Ids.{is_drawn}
use Rattle.lat_model.proofs.circuits.Ids.{zero_undrawn}
use Rattle.lat_machines.specs.values.Events.{Time}
use Rattle.lat_machines.specs.world.Machines.{Setups, Machines, Does, happens}
use Rattle.lat_machines.specs.world.Home.{Connection, connects_all}
use Rattle.lat_machines.specs.world.Safe.{Fit}
use Rattle.lat_laws.specs.rounds.Rounds.{undelivered, time_both, delivered_by, take_lines, take_both, round, rounds, next_moment, Whole}
use Rattle.lat_laws.specs.rounds.Settles.{Usual}
use Rattle.lat_laws.specs.rounds.Progress.{Brings}
use Rattle.lat_laws.specs.rounds.Counting.{peer_at}
use Rattle.lat_laws.proofs.rounds.progress.Settled.{round_brings}
use Rattle.lat_laws.proofs.rounds.rounds.Moves.{Moved, Reached, moved_one, moved_then, moved_time, moved_deliveries, moved_lines, moved_round, moved_rounds}
use Rattle.lat_laws.proofs.rounds.rounds.Prefixes.{Within}
use Rattle.lat_laws.proofs.rounds.rounds.Delivers.{Keeps, does_keeps, time_keeps, deliveries_keep, round_keeps}
use Rattle.lat_laws.proofs.rounds.rounds.Youngs.{reached_follows, reached_within, reached_then}
use Rattle.lat_laws.proofs.rounds.rounds.Beside.{Follows}
use Rattle.lat_laws.proofs.rounds.rounds.Done.{done_of}
use Rattle.lat_laws.proofs.rounds.rounds.Empty.{Emptied, Joins, joins_at, none_undelivered, emptied_flies}
use Rattle.lat_laws.proofs.rounds.ready.Moments.{BothUntil, round_until}
use Rattle.lat_laws.proofs.rounds.ready.Reached.{Standing, reached_standing}
use Rattle.lat_laws.proofs.rounds.ready.Readies.{Known, IsRunning, Coupling, coupling, Readied, ready_heard, Rounded, ready}
use Rattle.lat_laws.proofs.rounds.ready.Firsts.{first_brings}
use Rattle.lat_laws.proofs.rounds.shape.Times.{timed, time_here, time_there}
use Rattle.lat_laws.proofs.rounds.settle.Steady.{HasEnd, RunsTo}
use Rattle.lat_laws.proofs.rounds.settle.Walks.{runs_on, lived_up, lived_down}
use Rattle.lat_laws.proofs.rounds.settle.Wires.{takes_empty_up, takes_empty_down}

abbrev pub up_end : Machines → ℕ → End
up_end w p = (w.server.core.circuits.circuit_at p).end

abbrev pub down_end : Machines → ℕ → End
down_end w q = (w.node.core.circuits.circuit_at q).end

-- A circuit that runs and lives at the end of the rounds to come; its world is that behind a whole round
pub record Runs (u : Setups) (p : ℕ) (now : ℕ) (w : Machines) (more : List (List (List ℕ))) : Type 0 where
  pub fit : Fit u
  pub usual : Usual u
  pub reached : Reached u w
  pub until : BothUntil now w
  pub whole : Whole u now more w
  pub home : (w.server.core.circuits.circuit_at p).address ≡ u.node.own
  pub running : (up_end w p).running ≡ true
  pub alive : lives (up_end (rounds u now more w) p) ≡ true
  -- the world behind the deliveries
  pub before : Machines
  pub takes : w ≡ take_both u before
  pub reached_before : Reached u before
  pub none : undelivered u before ≡ None
  pub runs_before : IsRunning u before p

pub known_of : (u : Setups) (m : Machines) (k : Follows u m) → Known u m k.world (done_of u m)
known_of u m k = record { ties = k.beside.ties; good = k.beside.good; kinds = k.beside.kinds; plain = k.beside.plain; carried = k.beside.carried }

-- what the world says of a circuit that runs
pub coupled : (u : Setups) (m : Machines) (p : ℕ) → Fit u → Usual u → Reached u m → IsRunning u m p → Coupling u m p
coupled u m p f s r i = let k : Follows u m = reached_follows u m f s r in coupling u m k.world (done_of u m) p (known_of u m k) i

pub some_circuit : (u : Setups) (m : Machines) (p : ℕ) → Fit u → Usual u → Reached u m → (up_end m p).running ≡ true → p ≢ 0
some_circuit u m p f s r run z =
    let k : Follows u m = reached_follows u m f s r in
    let e : (k.world.server.circuit_at p).end.running ≡ false = ap (λ (c : CircuitEntry). c.end.running) (k.beside.good.none_server p (ap (is_drawn k.world.server) z ∙ zero_undrawn k.world.server.first k.world.server.drawn)) in
    true≢false (sym run ∙ (ap (λ (t : Table). (t.circuit_at p).end.running) (sym k.beside.ties.server) ∙ e))

pub some_peer : (u : Setups) (m : Machines) (p : ℕ) → Fit u → Usual u → Reached u m → IsRunning u m p → (up_end m p).peer ≢ 0
some_peer u m p f s r i z =
    let k : Follows u m = reached_follows u m f s r in
    let t : k.world.server ≡ m.server.core.circuits = k.beside.ties.server in
    (k.beside.good.replied p (ap (λ (x : Table). (x.circuit_at p).address) t ∙ (i.address ∙ sym k.beside.ties.node_own)) (ap (λ (x : Table). (x.circuit_at p).end.running) t ∙ i.running)).some (ap (λ (x : Table). (x.circuit_at p).end.peer) t ∙ z)

pub moved_takes : (u : Setups) (m : Machines) → Moved u m (take_both u m)
moved_takes u m =
    let s : Machines = take_lines u true (upwards 0 u.server.lines) m in
    moved_then u m s (take_both u m) (moved_lines u true (upwards 0 u.server.lines) m) (moved_lines u false (upwards 0 u.node.lines) s)

module _ (u : Setups) (p : ℕ) (now : ℕ) (w : Machines) (more : List (List (List ℕ))) (o : Runs u p now w more) where
  abbrev m : Machines
  m = o.before

  reached_takes : Reached u (take_both u m)
  reached_takes = subst (Reached u) o.takes o.reached

  alive_now : lives (up_end w p) ≡ true
  alive_now = lived_up u p w (rounds u now more w) (moved_rounds u more now w) (coupled u w p o.fit o.usual o.reached (record { address = o.home; running = o.running })).drawn o.alive

  rounded : Rounded u now m p
  rounded = record {
    fit = o.fit;
    usual = o.usual;
    seated = s.seated;
    fits = z.fits;
    fits_before = s.fits;
    answered = z.answered;
    world = k.world;
    done = done_of u m;
    known = known_of u m k;
    world_after = l.world;
    done_after = done_of u (take_both u m);
    known_after = known_of u (take_both u m) l;
    runs = o.runs_before;
    server_moment = subst (λ v. v.server.core.moment ≤ now) o.takes o.until.server;
    node_moment = subst (λ v. v.node.core.moment ≤ now) o.takes o.until.node;
    lives_on = subst (λ v. lives (up_end v p) ≡ true) o.takes alive_now;
    up_empty = emptied_flies u (take_both u m) l.world l.beside true p (takes_empty_up u m p some c.drawn (none_undelivered u m true p o.none));
    down_empty = emptied_flies u (take_both u m) l.world l.beside false (up_end (take_both u m) p).peer (takes_empty_down u m (up_end (take_both u m) p).peer p some c.drawn (none_undelivered u m false (up_end (take_both u m) p).peer o.none));
  }
    where
      s : Standing u m
      s = reached_standing u m o.fit o.reached_before

      z : Standing u (take_both u m)
      z = reached_standing u (take_both u m) o.fit reached_takes

      k : Follows u m
      k = reached_follows u m o.fit o.usual o.reached_before

      l : Follows u (take_both u m)
      l = reached_follows u (take_both u m) o.fit o.usual reached_takes

      c : Coupling u m p
      c = coupled u m p o.fit o.usual o.reached_before o.runs_before

      some : p ≢ 0
      some = some_circuit u m p o.fit o.usual o.reached_before o.runs_before.running

  pub readied : Readied (next_moment u now) (up_end w p) (down_end w (peer_at w p))
  readied = subst (λ v. Readied (next_moment u now) (up_end v p) (down_end v (peer_at v p))) (sym o.takes) (ready u now m p rounded)

-- each frame of its circuit was delivered
pub emptied : (u : Setups) (p : ℕ) (now : ℕ) (w : Machines) (more : List (List (List ℕ))) → Runs u p now w more → Emptied u w true p
emptied u p now w more o = subst (λ v. Emptied u v true p) (sym o.takes) (takes_empty_up u o.before p (some_circuit u o.before p o.fit o.usual o.reached_before o.runs_before.running) (coupled u o.before p o.fit o.usual o.reached_before o.runs_before).drawn (none_undelivered u o.before true p o.none))

-- the round to come

connects_live : (cs : List Connection) (e : End) → lives (connects_all cs e) ≡ lives e
connects_live [] e = refl
connects_live (k ∷ ks) e = connects_live ks _

module _ (u : Setups) (p : ℕ) (now : ℕ) (w : Machines) (r : List (List ℕ)) (more : List (List (List ℕ))) (o : Runs u p now w (r ∷ more)) where
  abbrev pub then_now : ℕ
  then_now = next_moment u now

  -- behind the server's time, both times, and the deliveries
  abbrev pub one : Machines
  one = happens u w (Does true (Time then_now) [])

  abbrev pub both_timed : Machines
  both_timed = time_both u then_now w

  abbrev pub all_come : Machines
  all_come = delivered_by u then_now r w

  abbrev pub next : Machines
  next = round u then_now r w

  abbrev pub q : ℕ
  q = peer_at w p

  pub within : Within w
  within = reached_within u w o.reached

  pub reached_timed : Reached u both_timed
  reached_timed = reached_then u w both_timed o.reached (moved_time u then_now w) (time_keeps u then_now w within o.reached.lossless).lossless

  pub reached_one : Reached u one
  reached_one = reached_then u w one o.reached (moved_one u w (Does true (Time then_now) []) tt tt) (does_keeps u w true (Time then_now) [] within o.reached.lossless).lossless

  pub reached_come : Reached u all_come
  reached_come = (let k : Keeps u w both_timed = time_keeps u then_now w within o.reached.lossless in reached_then u both_timed all_come reached_timed (moved_deliveries u then_now r both_timed) (deliveries_keep u then_now r both_timed (reached_within u both_timed reached_timed) k.lossless).lossless)

  pub reached_next : Reached u next
  reached_next = reached_then u w next o.reached (moved_round u then_now r w) (round_keeps u then_now r w within o.reached.lossless).lossless

  pub moved_come : Moved u w all_come
  moved_come = moved_then u w both_timed all_come (moved_time u then_now w) (moved_deliveries u then_now r both_timed)

  pub here : Coupling u w p
  here = coupled u w p o.fit o.usual o.reached (record { address = o.home; running = o.running })

  runs_here : HasEnd p u.node.own (RunsTo q) w.server.core
  runs_here = record { drawn = here.drawn; address = o.home; end = (o.running, refl) }

  pub runs_one : HasEnd p u.node.own (RunsTo q) one.server.core
  runs_one = runs_on u p u.node.own q w one (moved_one u w (Does true (Time then_now) []) tt tt) runs_here

  pub runs_timed : HasEnd p u.node.own (RunsTo q) both_timed.server.core
  runs_timed = runs_on u p u.node.own q w both_timed (moved_time u then_now w) runs_here

  pub runs_come : HasEnd p u.node.own (RunsTo q) all_come.server.core
  runs_come = runs_on u p u.node.own q w all_come moved_come runs_here

  pub runs_next : HasEnd p u.node.own (RunsTo q) next.server.core
  runs_next = runs_on u p u.node.own q w next (moved_round u then_now r w) runs_here

  pub lives_next : lives (up_end next p) ≡ true
  lives_next = lived_up u p next (rounds u now (r ∷ more) w) (moved_rounds u more then_now next) runs_next.drawn o.alive

  pub lives_come : lives (up_end all_come p) ≡ true
  lives_come = lived_up u p all_come next (moved_takes u all_come) runs_come.drawn lives_next

  lives_timed : lives (up_end both_timed p) ≡ true
  lives_timed = lived_up u p both_timed all_come (moved_deliveries u then_now r both_timed) runs_timed.drawn lives_come

  pub lives_here : lives (up_end w p) ≡ true
  lives_here = lived_up u p w next (moved_round u then_now r w) here.drawn lives_next

  pub moments : (w.server.core.moment ≤ then_now) × (w.node.core.moment ≤ then_now)
  moments = (let a : w.server.core.moment ≤ now = o.until.server in omega (arith, a), let b : w.node.core.moment ≤ now = o.until.node in omega (arith, b))

  pub some : p ≢ 0
  some = some_circuit u w p o.fit o.usual o.reached o.running

  some_slave : q ≢ 0
  some_slave = some_peer u w p o.fit o.usual o.reached (record { address = o.home; running = o.running })

  -- the two ends behind their times
  pub timed_here : (cs : List Connection) × (one.server.core.circuits.circuit_at p ≡ record { address = (w.server.core.circuits.circuit_at p).address; end = connects_all cs (timed then_now (w.server.core.circuits.circuit_at p)).end })
  timed_here = time_here u w then_now p moments.0 (more_than p some) here.drawn lives_here
    where
      more_than : (n : ℕ) → n ≢ 0 → 0 < n
      more_than zero z = absurd (z refl)
      more_than (suc n) z = omega arith

  pub forms_up : lives (time_step then_now (up_end w p)).end ≡ true
  forms_up = sym (connects_live timed_here.0 (timed then_now (w.server.core.circuits.circuit_at p)).end) ∙ (ap (λ (c : CircuitEntry). lives c.end) (sym timed_here.1) ∙ lives_timed)

  -- the slave lives behind the deliveries
  pub joins_come : Joins (up_end all_come p) (down_end all_come (peer_at all_come p))
  joins_come = joins_at u all_come p o.fit o.usual reached_come o.whole.0 runs_come.address lives_come runs_come.end.0

  pub slave_come : lives (down_end all_come q) ≡ true
  slave_come = subst (λ z. lives (down_end all_come z) ≡ true) runs_come.end.1 joins_come.alive

  pub slave_here : lives (down_end w q) ≡ true
  slave_here = lived_down u q w all_come moved_come here.slave_drawn slave_come

  pub timed_there : both_timed.node.core.circuits.circuit_at q ≡ timed then_now (w.node.core.circuits.circuit_at q)
  timed_there = time_there u one then_now q moments.1 (more_than q some_slave) here.slave_drawn slave_here
    where
      more_than : (n : ℕ) → n ≢ 0 → 0 < n
      more_than zero z = absurd (z refl)
      more_than (suc n) z = omega arith

  slave_drawn_timed : is_drawn both_timed.node.core.circuits (peer_at both_timed p) ≡ true
  slave_drawn_timed = (coupled u both_timed p o.fit o.usual reached_timed (record { address = runs_timed.address; running = runs_timed.end.0 })).slave_drawn

  pub forms_down : lives (time_step then_now (down_end w q)).end ≡ true
  forms_down = ap (λ (c : CircuitEntry). lives c.end) (sym timed_there) ∙ lived_down u q both_timed all_come (moved_deliveries u then_now r both_timed) (subst (λ z. is_drawn both_timed.node.core.circuits z ≡ true) runs_timed.end.1 slave_drawn_timed) slave_come

  pub brings : Brings then_now (up_end w p) (down_end w q)
  brings = go (down_end w q).heard_run refl
    where
      k : Readied then_now (up_end w p) (down_end w q)
      k = readied u p now w (r ∷ more) o

      go : (b : Bool) → (down_end w q).heard_run ≡ b → Brings then_now (up_end w p) (down_end w q)
      go true h = round_brings then_now (up_end w p) (down_end w q) (ready_heard then_now (up_end w p) (down_end w q) k h) forms_up forms_down
      go false h = first_brings then_now (up_end w p) (down_end w q) k ((reached_standing u w o.fit o.reached).idle q h) forms_up

  -- it goes on
  pub runs_on_next : Runs u p then_now next more
  runs_on_next = record {
    fit = o.fit;
    usual = o.usual;
    reached = reached_next;
    until = round_until u then_now r w (record { server = moments.0; node = moments.1 });
    whole = o.whole.1;
    home = runs_next.address;
    running = runs_next.end.0;
    alive = o.alive;
    before = all_come;
    takes = refl;
    reached_before = reached_come;
    none = o.whole.0;
    runs_before = record { address = runs_come.address; running = runs_come.end.0 };
  }
