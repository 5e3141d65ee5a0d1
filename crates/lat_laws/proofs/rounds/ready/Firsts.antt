-- A slave that has heard no RUN has no sessions, and a round with it brings the master forward, or nothing is put.
use Rattle.std.proofs.Common.{◌≡◌, ℕ, suc, ◌+◌, ◌≤◌, ⊎_elim, sym, ap, ◌∙◌, refl, subst, arith, Bool, true, false, not, cond, ◌&&◌, ◌||◌, List, [], ◌∷◌, length, min, Option, Some, None, nat_eq, nat_lt, slice_get}
use Rattle.std.proofs.lemmas.Bool.{true≢false, and_from, or_left, lt-ltb}
use Rattle.lat_model.specs.sessions.Slots.{Slot}
use Rattle.lat_model.specs.sessions.Joined.{Joined}
use Rattle.lat_model.specs.numbers.Link.{Link, window_open}
use Rattle.lat_model.specs.ends.End.{End, Step, lives, call_end, finish}
use Rattle.lat_model.specs.ends.Timers.{note_empty, time_step}
use Rattle.lat_model.specs.ends.Run.{run_end}
use Rattle.lat_model.specs.ends.Starting.{make_slave, again_start, hear_stop, void_sessions}
use Rattle.lat_model.specs.circuits.World.{CircuitEntry, first_end}
use Rattle.lat_model.specs.circuits.WorldOk.{Idle}
use Rattle.lat_model.specs.circuits.Arriving.{living, slave_of}
use Rattle.lat_model.proofs.circuits.Kin.{Calm, idle_calm, calm_time, calm_again, calm_stop, idle_call}
use Rattle.lat_model.specs.circuits.Ids.{next_id}
use Rattle.lat_machines.specs.values.Messages.{Head, StartInfo, RunMessage, WideMessage, StartMessage, StopMessage}
use Rattle.lat_machines.specs.values.Timing.{agreed_by}
use Rattle.lat_machines.specs.values.Events.{Numbers, Event, Hears, Time, Connects, Puts, Sets, Takes, Attends, Closes, Requests, Withdraws, Announces, is_heard, Avoids, Readies, Halts}
use Rattle.lat_machines.specs.values.Frames.{OfCircuit, OfNotice, Whole, Malformed}
use Rattle.lat_machines.specs.world.Machines.{Setups, Posted, Machines, Move, Does, HearsFrame, HearsForeign, tell, is_for_other, heard_as, counted, marked_delivered, comes, is_own, happens, run, open_machines}
use Rattle.lat_machines.specs.values.Answers.{Ended}
use Rattle.lat_machines.specs.cores.Acts.{Acted, idle, put_at, steps_at, move_at, end_at}
use Rattle.lat_machines.specs.cores.Hearing.{HeardAct, foreign, names, fits_kind, numbers_at, run_frame, run_at, hear_run, hear_stop_at, Makes, Repeats, Refuses, start_at}
use Rattle.lat_machines.specs.cores.Cores.{Core, with_circuits, setup_of}
use Rattle.lat_machines.specs.node.Node.{NodeConfig}
use Rattle.lat_laws.specs.rounds.Idle.{Silent, AtRest}
use Rattle.lat_laws.specs.rounds.Progress.{Due, Brings, Forward, Through}
use Rattle.lat_laws.proofs.rounds.sessions.Fits.{all_fit}
use Rattle.lat_laws.proofs.rounds.sessions.Rests.{at_rest}
use Rattle.lat_laws.proofs.rounds.plain.Handies.{handy_master}
use Rattle.lat_laws.proofs.rounds.progress.Times.{time_forward}
use Rattle.lat_laws.proofs.rounds.progress.Settled.{joined_still}
use Rattle.lat_laws.proofs.rounds.ready.Stays.{stays_heard, stays_time}
use Rattle.lat_laws.proofs.rounds.ready.Traverse.{KeepsNode, EventSays, in_any, node_keeps}
use Rattle.lat_laws.proofs.rounds.ready.Readies.{Readied}

-- a round with such a slave

void_silent : (room a c : ℕ) → Silent room (void_sessions false a c)
void_silent room a c k i = refl

pub first_brings : (now : ℕ) (m s : End) → Readied now m s → Idle s → lives (time_step now m).end ≡ true → Brings now m s
first_brings now m s r i lm = ⊎_elim {B = Silent m.room m.half.sessions} {C = Brings now m s} (λ h. Forward h) (λ h. Through (at_rest m.room s.room m.half.sessions s.half.sessions (rests h))) (time_forward now m master open_now lm)
  where
    j : Joined m.half.sessions s.half.sessions [] []
    j = joined_still m s r.together r.still

    master : Due now m
    master = record {
      lives = r.master_lives;
      running = r.master_runs;
      forms = and_from m.running (m.master || m.heard_run) r.master_runs (or_left m.master m.heard_run r.still.master);
      due = r.master_due;
      window = r.master_window;
      fits = all_fit m.room m.half.sessions r.master_room (handy_master m.half.sessions s.half.sessions [] [] j r.plain.master r.plain.slave);
      good = j.master_ok;
    }

    none : length s.half.link.came ≡ 0
    none = ap (λ (l : Link (List Slot)). length l.came) i.link

    open_now : window_open m.window m.half.link ≡ true
    open_now = lt-ltb (length m.half.link.sent) (m.half.link.known + m.window) (omega (arith, r.master_window, r.still.up.brings, none))

    rests : Silent m.room m.half.sessions → AtRest m.room s.room m.half.sessions s.half.sessions
    rests a = record {
      joined = j;
      master_gives = r.master_gives;
      slave_gives = r.slave_gives;
      master_ids = r.plain.master.ids;
      slave_ids = r.plain.slave.ids;
      master_accepts = λ k. (r.plain.master.each k).accepts j.master;
      slave_answers = r.answered;
      no_stops = r.plain.stops;
      master_takes = r.master_takes;
      slave_takes = r.slave_takes;
      master_silent = a;
      slave_silent = subst (Silent s.room) (sym i.sessions) (void_silent s.room i.agreed i.ceiling);
    }

-- such slaves in a core

abbrev pub IdleEnd : End → Type 0
IdleEnd e = e.heard_run ≡ false → Idle e

abbrev pub CoreIdle : Core → Type 0
CoreIdle c = (x : ℕ) → IdleEnd (c.circuits.circuit_at x).end

put_idle : (b : Bool) (c : Core) (drawn x address : ℕ) (s : Step) → IdleEnd s.end → CoreIdle c → CoreIdle (with_circuits c (put_at b c.circuits drawn x address s).table)
put_idle b c drawn x address s h g y = go (nat_eq y x)
  where
    go : (n : Bool) → IdleEnd (cond n (record { address = address; end = s.end }) (c.circuits.circuit_at y)).end
    go true = h
    go false = g y

noted_idle : (e : End) (s : Step) → IdleEnd s.end → IdleEnd (note_empty e s).end
noted_idle e s h q = let i : Idle s.end = h q in record { link = i.link; agreed = i.agreed; ceiling = i.ceiling; agreed_low = i.agreed_low; ceiling_low = i.ceiling_low; sessions = i.sessions; heard_run = i.heard_run; master = i.master }

steps_idle : (b : Bool) (c : Core) (x : ℕ) (s : Step) → IdleEnd s.end → CoreIdle c → CoreIdle (with_circuits c (steps_at b c.circuits x s).table)
steps_idle b c x s h g = put_idle b c c.circuits.drawn x (c.circuits.circuit_at x).address (note_empty (c.circuits.circuit_at x).end s) (noted_idle (c.circuits.circuit_at x).end s h) g

act_cond : (c : Core) (n : Bool) (x y : Acted) → CoreIdle (with_circuits c x.table) → CoreIdle (with_circuits c y.table) → CoreIdle (with_circuits c (cond n x y).table)
act_cond c true x y f g = f
act_cond c false x y f g = g

heard_cond : (c : Core) (n : Bool) (x y : HeardAct) → CoreIdle (with_circuits c x.act.table) → CoreIdle (with_circuits c y.act.table) → CoreIdle (with_circuits c (cond n x y).act.table)
heard_cond c true x y f g = f
heard_cond c false x y f g = g

-- whether a RUN was heard stays as it was, and the rest where none was
calm_idle : (e f : End) → (Idle e → Calm e f) → (e.heard_run ≡ true → f.heard_run ≡ true) → IdleEnd e → IdleEnd f
calm_idle e f c t h q = go e.heard_run refl
  where
    go : (b : Bool) → e.heard_run ≡ b → Idle f
    go true r = absurd (true≢false (sym (t r) ∙ q))
    go false r = idle_calm e f (c (h r)) (h r)

pub node_idles : (config : NodeConfig) (S : ℕ → Bool → StartInfo → Type 0) → config.timing.ceiling ≤ 255 → KeepsNode config S CoreIdle
node_idles config S low = record {
  acts = record {
    within = λ n. true;
    moment = λ c now q g. g;
    sits = λ c ss g. g;
    renames = λ c ns g. g;
    calls = λ c x y g. act_cond c (lives (c.circuits.circuit_at x).end) (steps_at false c.circuits x (record { end = call_end y (c.circuits.circuit_at x).end; sent = [] })) (idle c.circuits) (steps_idle false c x (record { end = call_end y (c.circuits.circuit_at x).end; sent = [] }) (λ q. idle_call y (c.circuits.circuit_at x).end (g x q)) g) g;
    times = λ c x g. act_cond c (lives (c.circuits.circuit_at x).end) (steps_at false c.circuits x (time_step c.moment (c.circuits.circuit_at x).end)) (idle c.circuits) (steps_idle false c x (time_step c.moment (c.circuits.circuit_at x).end) (calm_idle (c.circuits.circuit_at x).end (time_step c.moment (c.circuits.circuit_at x).end).end (calm_time c.moment (c.circuits.circuit_at x).end) (stays_time c.moment (c.circuits.circuit_at x).end).heard (g x)) g) g;
    runs = λ c from wide h slots n g. runs c from wide h slots n g;
    stops = λ c from to source reason g. stops c from to source reason g;
    ends = λ c x r g. ends c x r g;
  };
  starts = λ c from source info s g. starts c from source info g (nat_eq (slave_of c.circuits from source) 0) (nat_lt (living c.circuits) 8 && nat_lt c.circuits.drawn 65535);
}
  where
    moved : (c : Core) (x : ℕ) → CoreIdle c → CoreIdle (with_circuits c (move_at false c.circuits x c.moment).table)
    moved c x g =
        let e : End = (c.circuits.circuit_at x).end in
        let s : Step = record { end = record e { moment = c.moment }; sent = [] } in
        act_cond c (lives e) (steps_at false c.circuits x s) (idle c.circuits) (steps_idle false c x s (calm_idle e s.end (λ i. record { half = refl; heard_run = refl; master = refl }) (λ q. q) (g x)) g) g

    runs : (c : Core) (from : ℕ) (wide : Bool) (h : Head) (slots : List Slot) (n : Option Numbers) → CoreIdle c → CoreIdle (with_circuits c (hear_run false c.circuits from wide h slots n c.moment).act.table)
    runs c from wide h slots n g =
        let e : End = (c.circuits.circuit_at h.to).end in
        let s : Step = (run_end c.moment h.ask (run_frame (numbers_at e h n) slots) e).step in
        heard_cond c (names c.circuits from h.to h.from) (run_at false c.circuits h.to (fits_kind e h.master wide) c.moment h.ask (run_frame (numbers_at e h n) slots)) (foreign c.circuits)
        (heard_cond c (fits_kind e h.master wide) _ _ (steps_idle false c h.to s (λ q. absurd (true≢false (sym ((stays_heard c.moment h.ask (run_frame (numbers_at e h n) slots) e).heard refl) ∙ q))) g) (moved c h.to g))
        g

    stop_heard : (now r : ℕ) (e : End) → e.heard_run ≡ true → (hear_stop now r e).end.heard_run ≡ true
    stop_heard now r e q = go (lives e)
      where
        go : (b : Bool) → (cond {A = Step} b (record { end = record e { ended = Some r; moment = now }; sent = [] }) (record { end = e; sent = [] })).end.heard_run ≡ true
        go true = q
        go false = q

    stops : (c : Core) (from to source reason : ℕ) → CoreIdle c → CoreIdle (with_circuits c (hear_stop_at false c.circuits from to source c.moment reason).act.table)
    stops c from to source reason g =
        let y : CircuitEntry = c.circuits.circuit_at to in
        heard_cond c (nat_eq y.address from && (nat_eq y.end.peer source || nat_eq source 0) && lives y.end) (record { act = steps_at false c.circuits to (hear_stop c.moment reason y.end); answer = Ended reason }) (foreign c.circuits)
        (steps_idle false c to (hear_stop c.moment reason y.end) (calm_idle y.end (hear_stop c.moment reason y.end).end (λ i. calm_stop c.moment reason y.end) (stop_heard c.moment reason y.end) (g to)) g) g

    ends : (c : Core) (x r : ℕ) → CoreIdle c → CoreIdle (with_circuits c (end_at false c.circuits x r).table)
    ends c x r g =
        let e : End = (c.circuits.circuit_at x).end in
        act_cond c (lives e) (steps_at false c.circuits x (finish r e)) (idle c.circuits) (steps_idle false c x (finish r e) (calm_idle e (finish r e).end (λ i. record { half = refl; heard_run = refl; master = refl }) (λ q. q) (g x)) g) g

    again_heard : (now : ℕ) (e : End) → e.heard_run ≡ true → (again_start now e).end.heard_run ≡ true
    again_heard now e q = (calm_again now e).heard_run ∙ q

    starts : (c : Core) (from source : ℕ) (info : StartInfo) → CoreIdle c → (a b : Bool) → CoreIdle (with_circuits c (start_at (setup_of config.timing) c.circuits from source c.moment (agreed_by config.timing info) (cond a (cond b (Makes (next_id c.circuits)) Refuses) (Repeats (slave_of c.circuits from source)))).table)
    starts c from source info g true true = put_idle false c (suc c.circuits.drawn) (next_id c.circuits) from (make_slave c.moment source (agreed_by config.timing info) (first_end false false (setup_of config.timing))) (λ q. record { link = refl; agreed = min info.sessions (min config.timing.sessions 64); ceiling = config.timing.ceiling; agreed_low = omega arith; ceiling_low = low; sessions = refl; heard_run = refl; master = refl }) g
    starts c from source info g true false = g
    starts c from source info g false b =
        let x : ℕ = slave_of c.circuits from source in
        let e : End = (c.circuits.circuit_at x).end in
        steps_idle false c x (again_start c.moment e) (calm_idle e (again_start c.moment e).end (λ i. calm_again c.moment e) (again_heard c.moment e) (g x)) g

-- in every run

abbrev pub Anything : ℕ → Bool → StartInfo → Type 0
Anything from master info = Unit {0}

pub says_any : (e : Event) → EventSays Anything e
says_any (Hears from (Malformed field at) k now) = tt
says_any (Hears from (Whole (OfNotice n)) k now) = tt
says_any (Hears from (Whole (OfCircuit (RunMessage h slots))) k now) = tt
says_any (Hears from (Whole (OfCircuit (WideMessage h slots))) k now) = tt
says_any (Hears from (Whole (OfCircuit (StartMessage master ask to source info))) k now) = tt
says_any (Hears from (Whole (OfCircuit (StopMessage master ask to source reason text))) k now) = tt
says_any (Time now) = tt
says_any (Connects line service) = tt
says_any (Puts line bytes) = tt
says_any (Sets line setting) = tt
says_any (Takes line n) = tt
says_any (Attends line flag) = tt
says_any (Closes line) = tt
says_any (Requests to id service) = tt
says_any (Withdraws id) = tt
says_any Announces = tt
says_any (Avoids line) = tt
says_any (Readies line ready) = tt
says_any Halts = tt

abbrev pub NodeIdle : Machines → Type 0
NodeIdle w = CoreIdle w.node.core

idles_any : (config : NodeConfig) (S : ℕ → Bool → StartInfo → Type 0) (low : config.timing.ceiling ≤ 255) (n : ℕ) → (node_idles config S low).acts.within n ≡ true
unfolding node_idles
idles_any config S low n = refl

tell_idle : (u : Setups) (w : Machines) (b : Bool) (e : Event) (rates : List ℕ) → u.node.timing.ceiling ≤ 255 → NodeIdle w → NodeIdle (tell u w b e rates)
tell_idle u w true e rates low h = h
tell_idle u w false e rates low h = node_keeps u.node Anything CoreIdle (node_idles u.node Anything low) rates w.node e (in_any (node_idles u.node Anything low).acts.within (idles_any u.node Anything low) e) (says_any e) h

idle_cond : (n : Bool) (x y : Machines) → NodeIdle x → NodeIdle y → NodeIdle (cond n x y)
idle_cond true x y p q = p
idle_cond false x y p q = q

pub happens_idle : (u : Setups) (w : Machines) (e : Move) → u.node.timing.ceiling ≤ 255 → NodeIdle w → NodeIdle (happens u w e)
happens_idle u w (Does b e rates) low h = idle_cond (is_heard e) w (tell u w b e rates) h (tell_idle u w b e rates low h)
happens_idle u w (HearsForeign b from payload now rates) low h = idle_cond (is_own u from) w (tell u w b (Hears from payload None now) rates) h (tell_idle u w b (Hears from payload None now) rates low h)
happens_idle u w (HearsFrame i now rates) low h = go (slice_get w.posts i)
  where
    go : (o : Option Posted) → NodeIdle (comes u w i now rates o)
    go None = h
    go (Some f) = idle_cond (is_for_other u f) (tell u (marked_delivered i w) (not f.by_server) (heard_as u f now) rates) (counted (marked_delivered i w)) (tell_idle u (marked_delivered i w) (not f.by_server) (heard_as u f now) rates low h) h

pub run_idle : (u : Setups) (es : List Move) (w : Machines) → u.node.timing.ceiling ≤ 255 → NodeIdle w → NodeIdle (run u es w)
run_idle u [] w low h = h
run_idle u (e ∷ es) w low h = run_idle u es (happens u w e) low (happens_idle u w e low h)

pub open_idle : (u : Setups) → u.node.timing.ceiling ≤ 255 → NodeIdle (open_machines u)
open_idle u low x q = record { link = refl; agreed = min u.node.timing.sessions 64; ceiling = u.node.timing.ceiling; agreed_low = omega arith; ceiling_low = low; sessions = refl; heard_run = refl; master = refl }
