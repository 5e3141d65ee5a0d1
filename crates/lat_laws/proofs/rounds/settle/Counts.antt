-- A round brings the two ends of a circuit forward, or all is through behind it.
use Rattle.std.proofs.Common.{◌≡◌, ◌≢◌, ℕ, zero, suc, ◌+◌, ◌<◌, ◌≤◌, ◌⊎◌, inl, inr, ⊎_elim, sym, ap, ◌∙◌, refl, subst, arith, Bool, true, false, List, [], ◌∷◌, ◌++◌, length, slice_get, length-append}
use Rattle.std.proofs.lemmas.List.{append_assoc}
use Rattle.lat_model.specs.Lists.{Each, upwards}
use Rattle.lat_model.specs.sessions.Slots.{Slot}
use Rattle.lat_model.specs.sessions.Sessions.{Sessions}
use Rattle.lat_model.specs.sessions.Calls.{Connect}
use Rattle.lat_model.specs.sessions.EndOk.{EndOk}
use Rattle.lat_model.specs.numbers.Link.{Link, bare_frame}
use Rattle.lat_model.specs.ends.End.{Bare, Sent, Run, End, lives}
use Rattle.lat_model.specs.ends.Run.{run_end}
use Rattle.lat_model.specs.ends.Timers.{time_step}
use Rattle.lat_model.specs.circuits.World.{CircuitEntry, Table}
use Rattle.lat_model.proofs.circuits.Kin.{kin_time}
use Rattle.lat_model.specs.circuits.Ids.{is_drawn}
use Rattle.lat_machines.specs.values.Events.{Time}
use Rattle.lat_machines.specs.values.Frames.{OutFrame}
use Rattle.lat_machines.specs.cores.Cores.{Core, Side, at_moment, passes_time}
use Rattle.lat_machines.specs.server.Server.{server_side, server_event, finished_requests, grant_lines}
use Rattle.lat_machines.specs.node.Node.{node_step}
use Rattle.lat_machines.specs.world.Home.{Connection, connects_one, connects_all}
use Rattle.lat_machines.specs.world.Machines.{Setups, Posted, Machines, post_all}
use Rattle.lat_machines.specs.world.Safe.{Fit}
use Rattle.lat_machines.specs.world.Spans.{both_wide, IsOfSpan, OneSpan}
use Rattle.lat_machines.proofs.spans.Runs.{one_span}
use Rattle.lat_laws.specs.rounds.Lossless.{is_in}
use Rattle.lat_laws.specs.rounds.Rounds.{take_lines, next_moment, round}
use Rattle.lat_laws.specs.rounds.Measure.{weights}
use Rattle.lat_laws.specs.rounds.Progress.{Brings, Forward, Back, Answered, Through}
use Rattle.lat_laws.specs.rounds.Counting.{sessions_at, peer_at, both}
use Rattle.lat_laws.proofs.rounds.progress.Times.{time_grows}
use Rattle.lat_laws.proofs.rounds.rounds.Moves.{Reached}
use Rattle.lat_laws.proofs.rounds.rounds.Nexts.{each_in}
use Rattle.lat_laws.proofs.rounds.rounds.Beside.{Follows}
use Rattle.lat_laws.proofs.rounds.rounds.Youngs.{reached_follows}
use Rattle.lat_laws.proofs.rounds.counting.Most.{Matched, matched_at}
use Rattle.lat_laws.proofs.rounds.counting.Counts.{ThroughAt}
use Rattle.lat_laws.proofs.rounds.counting.Stays.{Past, Low, Onto, goes_call}
use Rattle.lat_laws.proofs.rounds.counting.Forth.{Forth, forth_same, tell_forth, deliveries_forth, lines_forth, round_forth}
use Rattle.lat_laws.proofs.rounds.row.Settle.{round_stays}
use Rattle.lat_laws.proofs.rounds.shape.Times.{timed}
use Rattle.lat_laws.proofs.rounds.settle.Steady.{HasEnd, RunsTo}
use Rattle.lat_laws.proofs.rounds.settle.Wires.{NotOf, either_part}
use Rattle.lat_laws.proofs.rounds.settle.Before.{Runs, up_end, down_end, coupled, emptied, within, moments, some, here, reached_timed, reached_come, reached_next, reached_one, runs_one, runs_timed, runs_come, runs_next, lives_here, forms_down, timed_here, timed_there, brings}
use Rattle.lat_laws.proofs.rounds.settle.Before as Before
use Rattle.lat_laws.proofs.rounds.settle.Opens.{Begin, time_begins}
use Rattle.lat_laws.proofs.rounds.settle.Bares.{run_empty}
use Rattle.lat_laws.proofs.rounds.settle.Answers.{Slave, Waits, bare_post, get_at, bare_answers}

connects_more : (cs : List Connection) (e : End) → Past e.half.sessions → Low e.half.sessions → weights e.half.sessions ≤ weights (connects_all cs e).half.sessions
connects_more [] e p l = omega arith
connects_more (k ∷ ks) e p l =
    let o : Onto e.half.sessions (connects_one k e).half.sessions = goes_call e.half.sessions (Connect k.service k.request) tt p in
    let r : Low (connects_one k e).half.sessions × (weights e.half.sessions ≤ weights (connects_one k e).half.sessions) = o.rises l in
    omega (arith, r.1, connects_more ks (connects_one k e) o.past r.0)

post_more : (b : Bool) (xs ys : List OutFrame) → post_all b (xs ++ ys) ≡ post_all b xs ++ post_all b ys
post_more b [] ys = refl
post_more b (x ∷ xs) ys = ap (λ z. record { by_server = b; frame = x } ∷ z) (post_more b xs ys)

reached_span : (u : Setups) (m : Machines) → Fit u → Reached u m → OneSpan u m
reached_span u m f r = subst (OneSpan u) (sym r.there) (one_span u r.moves f)

abbrev NotCircuit : ℕ → Posted → Type 0
NotCircuit p f = f.frame.circuit ≢ p

posted_not : (p : ℕ) (fs : List OutFrame) → NotOf p fs → Each (NotCircuit p) (post_all true fs)
posted_not p [] h = tt
posted_not p (f ∷ fs) h = (h.0, posted_not p fs h.1)

join_parts : (ws fs : List Posted) (f : Posted) (bs gs ns : List Posted) → (ws ++ ((fs ++ f ∷ bs) ++ gs)) ++ ns ≡ (ws ++ fs) ++ f ∷ ((bs ++ gs) ++ ns)
join_parts ws fs f bs gs ns = simp append_assoc

-- the posts of a world, which begin with these of another and one that was looked for
record FirstPost (p : ℕ) (q : ℕ) (to : ℕ) (side : Side) (before : List Posted) (posts : List Posted) (l : Link (List Slot)) : Type 0 where
  core : Core
  front : List OutFrame
  back : List Posted
  parts : posts ≡ (before ++ post_all true front) ++ bare_post side core p to q l ∷ back
  others : NotOf p front

module _ (u : Setups) (p : ℕ) (now : ℕ) (w : Machines) (r : List (List ℕ)) (more : List (List (List ℕ))) (o : Runs u p now w (r ∷ more)) where
  abbrev t : ℕ
  t = next_moment u now

  abbrev one : Machines
  one = Before.one u p now w r more o

  abbrev m : Machines
  m = Before.both_timed u p now w r more o

  abbrev come : Machines
  come = Before.all_come u p now w r more o

  abbrev next : Machines
  next = round u (next_moment u now) r w

  abbrev q : ℕ
  q = peer_at w p

  matched : (v : Machines) → Reached u v → HasEnd p u.node.own (RunsTo q) v.server.core → Matched u v p
  matched v a h = matched_at u v p o.fit o.usual a h.address h.end.0

  pub matched_here : Matched u w p
  matched_here = matched_at u w p o.fit o.usual o.reached o.home o.running

  pub peer_next : peer_at next p ≡ q
  peer_next = (runs_next u p now w r more o).end.1

  -- what comes behind a part of the round
  rise_up : (v : Machines) → Reached u v → HasEnd p u.node.own (RunsTo q) v.server.core → Forth v next → weights (sessions_at v true p) ≤ weights (sessions_at next true p)
  rise_up v a h f =
      let x : Matched u v p = matched v a h in
      let ok : EndOk (sessions_at v true p) = x.together.joined.master_ok in
      let g : Onto (sessions_at v true p) (sessions_at next true p) = f.server.at p x.here ok.past in
      (g.rises ok.serial_made).1

  rise_down : (v : Machines) → Reached u v → HasEnd p u.node.own (RunsTo q) v.server.core → Forth v next → weights (sessions_at v false q) ≤ weights (sessions_at next false q)
  rise_down v a h f =
      let x : Matched u v p = matched v a h in
      let ok : EndOk (sessions_at v false q) = subst (λ z. EndOk (sessions_at v false z)) h.end.1 x.paired.good in
      let d : is_drawn v.node.core.circuits q ≡ true = subst (λ z. is_drawn v.node.core.circuits z ≡ true) h.end.1 x.drawn in
      let g : Onto (sessions_at v false q) (sessions_at next false q) = f.node.at q d ok.past in
      (g.rises ok.serial_made).1

  from_come : Forth come next
  from_come =
      let k : Machines = take_lines u true (upwards 0 u.server.lines) come in
      lines_forth u come false (upwards 0 u.node.lines) k (lines_forth u come true (upwards 0 u.server.lines) come (forth_same come))

  lines_from : (v : Machines) → Forth v come → Forth v next
  lines_from v f =
      let k : Machines = take_lines u true (upwards 0 u.server.lines) come in
      lines_forth u v false (upwards 0 u.node.lines) k (lines_forth u v true (upwards 0 u.server.lines) come f)

  from_timed : Forth m next
  from_timed = lines_from m (deliveries_forth u m t r m (forth_same m))

  from_one : Forth one next
  from_one = lines_from one (deliveries_forth u one t r m (tell_forth u one one false (Time t) [] tt (forth_same one)))

  -- the master's time
  up_timed : weights (time_step t (up_end w p)).end.half.sessions ≤ weights (sessions_at next true p)
  up_timed =
      let e : End = (timed t (w.server.core.circuits.circuit_at p)).end in
      let ok : EndOk (time_step t (up_end w p)).end.half.sessions = (time_grows t (up_end w p)).good matched_here.together.joined.master_ok in
      let a : weights e.half.sessions ≤ weights (connects_all (timed_here u p now w r more o).0 e).half.sessions = connects_more (timed_here u p now w r more o).0 e ok.past ok.serial_made in
      let b : sessions_at one true p ≡ (connects_all (timed_here u p now w r more o).0 e).half.sessions = ap (λ (c : CircuitEntry). c.end.half.sessions) (timed_here u p now w r more o).1 in
      omega (arith, a, ap weights b, rise_up one (reached_one u p now w r more o) (runs_one u p now w r more o) from_one)

  -- the slave's
  down_timed : weights (time_step t (down_end w q)).end.half.sessions ≤ weights (sessions_at next false q)
  down_timed =
      let b : sessions_at m false q ≡ (time_step t (down_end w q)).end.half.sessions = ap (λ (c : CircuitEntry). c.end.half.sessions) (timed_there u p now w r more o) in
      omega (arith, ap weights b, rise_down m (reached_timed u p now w r more o) (runs_timed u p now w r more o) from_timed)

  from_here : Forth w next
  from_here = round_forth u t r w

  runs_w : HasEnd p u.node.own (RunsTo q) w.server.core
  runs_w = record { drawn = (here u p now w r more o).drawn; address = o.home; end = (o.running, refl) }

  up_more : weights (sessions_at w true p) ≤ weights (sessions_at next true p)
  up_more = rise_up w o.reached runs_w from_here

  down_more : weights (sessions_at w false q) ≤ weights (sessions_at next false q)
  down_more = rise_down w o.reached runs_w from_here

  -- the slave behind its time
  slave : Slave u p (timed t (w.node.core.circuits.circuit_at q))
  slave = subst (Slave u p) (timed_there u p now w r more o) (record {
    address = subst (λ z. (m.node.core.circuits.circuit_at z).address ≡ u.server.own) to x.paired.address;
    peer = subst (λ z. (m.node.core.circuits.circuit_at z).end.peer ≡ p) to x.paired.peer;
    master = sym (ap (λ (z : Table). (z.circuit_at q).end.master) k.beside.ties.node) ∙ k.beside.kinds.slaves q;
    running = running;
    alive = alive;
    wide = (reached_span u m o.fit reached).ends false q running (subst (λ z. (m.node.core.circuits.circuit_at z).address ≡ u.server.own) to x.paired.address);
  })
    where
      reached : Reached u (Before.both_timed u p now w r more o)
      reached = reached_timed u p now w r more o

      k : Follows u (Before.both_timed u p now w r more o)
      k = reached_follows u (Before.both_timed u p now w r more o) o.fit o.usual (reached_timed u p now w r more o)

      x : Matched u (Before.both_timed u p now w r more o) p
      x = matched (Before.both_timed u p now w r more o) (reached_timed u p now w r more o) (runs_timed u p now w r more o)

      to : peer_at (Before.both_timed u p now w r more o) p ≡ peer_at w p
      to = (runs_timed u p now w r more o).end.1

      alive : lives ((Before.both_timed u p now w r more o).node.core.circuits.circuit_at (peer_at w p)).end ≡ true
      alive = ap (λ (c : CircuitEntry). lives c.end) (timed_there u p now w r more o) ∙ forms_down u p now w r more o

      running : ((Before.both_timed u p now w r more o).node.core.circuits.circuit_at (peer_at w p)).end.running ≡ true
      running = sym (ap (λ (z : Table). (z.circuit_at (peer_at w p)).end.running) k.beside.ties.node) ∙ k.beside.kinds.runs (peer_at w p) (ap (λ (z : Table). lives (z.circuit_at (peer_at w p)).end) k.beside.ties.node ∙ alive)

  -- what the master's time sends first

  abbrev passed : List OutFrame
  passed = (passes_time (server_side u.server) (at_moment (next_moment u now) w.server.core)).frames

  abbrev grants : List OutFrame
  grants = (grant_lines u.server (upwards 0 u.server.lines) (record { state = finished_requests (server_event u.server w.server (Time (next_moment u now))).state; frames = [] })).frames

  abbrev there : List OutFrame
  there = (node_step u.node [] one.node (Time (next_moment u now))).frames

  abbrev to : ℕ
  to = (w.server.core.circuits.circuit_at p).address

  abbrev BeginsWith : Link (List Slot) → ℕ → Type 0
  BeginsWith l d = (c : Core) × Begin p passed (bare_post (server_side u.server) c p to d l).frame

  begins_with : (l : Link (List Slot)) (rest : List Sent) → (time_step t (up_end w p)).sent ≡ Run Bare false (bare_frame l) ∷ rest → BeginsWith l q
  begins_with l rest e = subst (BeginsWith l) (kin_time t (up_end w p)).peer (time_begins (server_side u.server) w.server.core t p (Run Bare false (bare_frame l)) rest (moments u p now w r more o).0 (positive p (some u p now w r more o)) (here u p now w r more o).drawn (lives_here u p now w r more o) e)
    where
      positive : (n : ℕ) → n ≢ 0 → 0 < n
      positive zero z = absurd (z refl)
      positive (suc n) z = omega arith

  first_post : (l : Link (List Slot)) (rest : List Sent) → (time_step t (up_end w p)).sent ≡ Run Bare false (bare_frame l) ∷ rest → FirstPost p q to (server_side u.server) w.posts m.posts l
  first_post l rest e =
      let b : BeginsWith l q = begins_with l rest e in
      let f : OutFrame = (bare_post (server_side u.server) b.0 p to q l).frame in
      record {
        core = b.0;
        front = b.1.front;
        back = (post_all true b.1.back ++ post_all true grants) ++ post_all false there;
        parts =
            ap (λ z. (w.posts ++ post_all true (z ++ grants)) ++ post_all false there) b.1.parts
            ∙ (ap (λ z. (w.posts ++ z) ++ post_all false there) (post_more true (b.1.front ++ f ∷ b.1.back) grants ∙ ap (λ z. z ++ post_all true grants) (post_more true b.1.front (f ∷ b.1.back)))
            ∙ join_parts w.posts (post_all true b.1.front) (bare_post (server_side u.server) b.0 p to q l) (post_all true b.1.back) (post_all true grants) (post_all false there));
        others = b.1.others;
      }

  -- and so the slave waits for it
  waits : (l : Link (List Slot)) (f : FirstPost p q to (server_side u.server) w.posts m.posts l) → Waits u p q (timed t (w.node.core.circuits.circuit_at q)) (bare_post (server_side u.server) f.core p to q l) m
  waits l f = record {
    reached = reached_timed u p now w r more o;
    runs = runs_timed u p now w r more o;
    has = record {
      drawn = subst (λ z. is_drawn m.node.core.circuits z ≡ true) (runs_timed u p now w r more o).end.1 (matched m (reached_timed u p now w r more o) (runs_timed u p now w r more o)).drawn;
      address = ap (λ (c : CircuitEntry). c.address) (timed_there u p now w r more o) ∙ slave.address;
      end = (ap (λ (c : CircuitEntry). c.end.master) (timed_there u p now w r more o) ∙ slave.master, ap (λ (c : CircuitEntry). c.end.peer) (timed_there u p now w r more o) ∙ slave.peer);
    };
    before = w.posts ++ post_all true f.front;
    behind = f.back;
    posts = f.parts;
    new = fresh (is_in (length (w.posts ++ post_all true f.front)) w.delivered) refl;
    others = λ k g e other by circuit. ⊎_elim {C = is_in k w.delivered ≡ true} (λ a. emptied u p now w (r ∷ more) o k g a other by circuit) (λ a. absurd (a circuit)) (either_part (NotCircuit p) w.posts (post_all true f.front) k g e (posted_not p f.front f.others));
    same = timed_there u p now w r more o;
  }
    where
      fresh : (b : Bool) → is_in (length (w.posts ++ post_all true f.front)) w.delivered ≡ b → is_in (length (w.posts ++ post_all true f.front)) w.delivered ≡ false
      fresh false h = h
      fresh true h = absurd (omega (arith, each_in (λ i. i < length w.posts) (length (w.posts ++ post_all true f.front)) w.delivered (within u p now w r more o) h, length-append w.posts (post_all true f.front)))

  -- the slave forms at it
  down_answered : (l : Link (List Slot)) (rest : List Sent) → (time_step t (up_end w p)).sent ≡ Run Bare false (bare_frame l) ∷ rest → ((n : ℕ) → suc (weights (sessions_at w false q)) ≤ weights (run_end n false (bare_frame l) (time_step t (down_end w q)).end).step.end.half.sessions) → suc (weights (sessions_at w false q)) ≤ weights (sessions_at next false q)
  down_answered l rest e h =
      let f : FirstPost p q to (server_side u.server) w.posts m.posts l = first_post l rest e in
      let d : End = down_end w q in
      let span : IsOfSpan (both_wide u) (bare_post (server_side u.server) f.core p to q l).frame.value = (reached_span u m o.fit (reached_timed u p now w r more o)).frames (length (w.posts ++ post_all true f.front)) (bare_post (server_side u.server) f.core p to q l) (ap (λ z. slice_get z (length (w.posts ++ post_all true f.front))) f.parts ∙ get_at (w.posts ++ post_all true f.front) (bare_post (server_side u.server) f.core p to q l) f.back) o.home in
      let a : suc (weights (sessions_at w false q)) ≤ weights (sessions_at come false q) = bare_answers u p q t (suc (weights (sessions_at w false q))) r m (timed t (w.node.core.circuits.circuit_at q)) (server_side u.server) f.core to l o.fit o.usual slave o.home span
      (λ n. let s : Sessions = (run_end n false (bare_frame l) (time_step t d).end).step.end.half.sessions in let z : (run_end n false (bare_frame l) (timed t (w.node.core.circuits.circuit_at q)).end).step.end.half.sessions ≡ s = run_empty n (timed t (w.node.core.circuits.circuit_at q)).end.empty_at l (time_step t d).end in let y : suc (weights (sessions_at w false q)) ≤ weights s = h n in omega (arith, y, ap weights z))
      (waits l f) o.whole.0 in
      omega (arith, a, rise_down come (reached_come u p now w r more o) (runs_come u p now w r more o) from_come)

  -- a round counts
  pub counts : (suc (both w p) ≤ both next p) ⊎ ThroughAt next p
  counts = go (brings u p now w r more o)
    where
      total : weights (sessions_at w true p) + weights (sessions_at w false q) < weights (sessions_at next true p) + weights (sessions_at next false q) → suc (both w p) ≤ both next p
      total h = subst (λ z. suc (both w p) ≤ weights (sessions_at next true p) + weights (sessions_at next false z)) (sym peer_next) (omega (arith, h))

      go : Brings t (up_end w p) (down_end w q) → (suc (both w p) ≤ both next p) ⊎ ThroughAt next p
      go (Forward h) = inl (total (omega (arith, h, up_timed, down_more)))
      go (Back h) = inl (total (omega (arith, h, down_timed, up_more)))
      go (Answered rest e h) = inl (total (omega (arith, down_answered (up_end w p).half.link rest e h, up_more)))
      go (Through h) = inr (round_stays u t r w p matched_here (matched next (reached_next u p now w r more o) (runs_next u p now w r more o)) peer_next h)
