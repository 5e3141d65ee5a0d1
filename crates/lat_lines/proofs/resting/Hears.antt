-- A message of which no slot is taken leaves each session as its line knows it.
use Rattle.std.proofs.Common.{◌≡◌, ℕ, Bool, true, false, not, ◌&&◌, ◌||◌, cond, nat_eq, List, [], None, refl}
use Rattle.std.proofs.lemmas.Bool.{cond_both, false≢true}
use Rattle.lat_model.specs.sessions.Slots.{Slot}
use Rattle.lat_model.specs.numbers.Link.{Frame}
use Rattle.lat_model.specs.ends.End.{End, Step, still, lives}
use Rattle.lat_model.specs.ends.Run.{run_end}
use Rattle.lat_model.specs.ends.Timers.{note_empty}
use Rattle.lat_model.specs.ends.Starting.{Agreed, noted, replied, reply_end, again_start, hear_reply, hear_stop}
use Rattle.lat_model.specs.circuits.World.{Table}
use Rattle.lat_machines.specs.values.Messages.{Head, StartInfo, Message, RunMessage, WideMessage, StartMessage, StopMessage}
use Rattle.lat_machines.specs.values.Timing.{agreed_by}
use Rattle.lat_machines.specs.values.Answers.{Circuit, Running, Again, Foreign, Ended}
use Rattle.lat_machines.specs.cores.Acts.{Acted, idle, steps_at, move_at}
use Rattle.lat_machines.specs.cores.Hearing.{HeardAct, foreign, names, fits_kind, numbers_at, run_frame, answer_of, run_at, hear_run, hear_stop_at, hear_reply_at, StartFact, Repeats, Makes, Refuses, start_fact}
use Rattle.lat_machines.specs.cores.Cores.{Core, Side, with_circuits, sent_frame}
use Rattle.lat_lines.specs.circuits.Hears.{HeardCore, of_act, untouched, start_core, heard_core}
use Rattle.lat_lines.specs.Calm.{CoreCalm, takes_nothing}
use Rattle.lat_lines.proofs.resting.Quiet.{IsQuiet, quiet_refl, run_quiet}
use Rattle.lat_lines.proofs.resting.Cores.{core_refl, step_calm, map_nil, wire_nil}

-- whatever is answered so is calm, where no frame goes out
abbrev Calmly : Core → HeardCore → Type 0
Calmly c h = takes_nothing h.answer ≡ true → h.doing.frames ≡ [] → CoreCalm c h.doing.core

abbrev ActsCalmly : Side → Core → HeardAct → Type 0
ActsCalmly k c h = Calmly c (of_act k c h)

foreign_calm : (k : Side) (c : Core) → ActsCalmly k c (foreign c.circuits)
foreign_calm k c h none = core_refl c

-- a RUN

runs_calm : (k : Side) (c : Core) (x : ℕ) (ask : Bool) (f : Frame (List Slot))
    → ActsCalmly k c (record { act = steps_at k.server c.circuits x (run_end c.moment ask f (c.circuits.circuit_at x).end).step; answer = answer_of (run_end c.moment ask f (c.circuits.circuit_at x).end).answer })
runs_calm k c x ask f h none =
    let e : End = (c.circuits.circuit_at x).end in
    let s : Step = (run_end c.moment ask f e).step in
    let a : Acted = steps_at k.server c.circuits x s in
    let unsent = wire_nil k.server x (c.circuits.circuit_at x).address (note_empty e s).end.peer s.sent (map_nil (sent_frame k (with_circuits c a.table)) a.sent none) in
    step_calm k.server c x s (run_quiet c.moment ask f e h unsent)

moves_calm : (k : Side) (c : Core) (x : ℕ) → ActsCalmly k c (record { act = move_at k.server c.circuits x c.moment; answer = Foreign })
moves_calm k c x =
    let e : End = (c.circuits.circuit_at x).end in
    let s : Step = still (record e { moment = c.moment }) in
    cond_both (lives e) (steps_at k.server c.circuits x s) (idle c.circuits) (λ a. ActsCalmly k c (record { act = a; answer = Foreign }))
    (λ l h none. step_calm k.server c x s (record { sessions = refl; exists = refl; ended = refl; peer = refl }))
    (λ l h none. core_refl c)

run_calm : (k : Side) (c : Core) (from : ℕ) (wide : Bool) (h : Head) (slots : List Slot) → ActsCalmly k c (hear_run k.server c.circuits from wide h slots None c.moment)
run_calm k c from wide h slots =
    cond_both (names t from h.to h.from) (run_at k.server t h.to fits c.moment h.ask f) (foreign t) (ActsCalmly k c)
    (λ n. cond_both fits
    (record { act = steps_at k.server t h.to (run_end c.moment h.ask f e).step; answer = answer_of (run_end c.moment h.ask f e).answer })
    (record { act = move_at k.server t h.to c.moment; answer = Foreign }) (ActsCalmly k c)
    (λ g. runs_calm k c h.to h.ask f)
    (λ g. moves_calm k c h.to))
    (λ n. foreign_calm k c)
  where
    t : Table
    t = c.circuits

    e : End
    e = (t.circuit_at h.to).end

    fits : Bool
    fits = fits_kind e h.master wide

    f : Frame (List Slot)
    f = run_frame (numbers_at e h None) slots

-- a reply to a START

reply_quiet : (now peer : ℕ) (g : Agreed) (e : End) → takes_nothing (Circuit (cond e.running Again Running)) ≡ true → IsQuiet e (hear_reply now peer g e).end
reply_quiet now peer g e h =
    cond_both (lives e) (cond e.running (noted now e) (still (reply_end now peer g e))) (still e) (λ s. IsQuiet e s.end) (λ l. by e.running h)
    (λ l. quiet_refl e)
  where
    by : (b : Bool) → takes_nothing (Circuit (cond b Again Running)) ≡ true → IsQuiet e (cond b (noted now e) (still (reply_end now peer g e))).end
    by true h = record { sessions = refl; exists = refl; ended = refl; peer = refl }
    by false h = absurd (false≢true h)

reply_calm : (k : Side) (c : Core) (from to source : ℕ) (g : Agreed) → ActsCalmly k c (hear_reply_at c.circuits from to source c.moment g)
reply_calm k c from to source g =
    cond_both (nat_eq (t.circuit_at to).address from && lives e && (not e.running || nat_eq e.peer source)) (record { act = steps_at true t to (hear_reply c.moment source g e); answer = cond e.running Again Running }) (foreign t) (ActsCalmly k c)
    (λ q h none. step_calm true c to (hear_reply c.moment source g e) (reply_quiet c.moment source g e h))
    (λ q. foreign_calm k c)
  where
    t : Table
    t = c.circuits

    e : End
    e = (t.circuit_at to).end

-- a STOP

stop_calm : (k : Side) (c : Core) (from to source r : ℕ) → ActsCalmly k c (hear_stop_at k.server c.circuits from to source c.moment r)
stop_calm k c from to source r =
    let t : Table = c.circuits in
    let e : End = (t.circuit_at to).end in
    cond_both (nat_eq (t.circuit_at to).address from && (nat_eq e.peer source || nat_eq source 0) && lives e) (record { act = steps_at k.server t to (hear_stop c.moment r e); answer = Ended r }) (foreign t) (ActsCalmly k c)
    (λ q h none. absurd (false≢true h))
    (λ q. foreign_calm k c)

-- a START

again_quiet : (now : ℕ) (e : End) → IsQuiet e (again_start now e).end
again_quiet now e =
    cond_both (lives e && not e.heard_run) (replied now e) (cond (lives e) (noted now e) (still e)) (λ s. IsQuiet e s.end) (λ h. record { sessions = refl; exists = refl; ended = refl; peer = refl })
    (λ h. cond_both (lives e) (noted now e) (still e) (λ s. IsQuiet e s.end) (λ l. record { sessions = refl; exists = refl; ended = refl; peer = refl }) (λ l. quiet_refl e))

start_calm : (k : Side) (c : Core) (from source : ℕ) (info : StartInfo) (fact : StartFact) → Calmly c (start_core k c from source info fact)
start_calm k c from source info (Repeats x) h none = step_calm false c x (again_start c.moment (c.circuits.circuit_at x).end) (again_quiet c.moment (c.circuits.circuit_at x).end)
start_calm k c from source info (Makes x) h none = absurd (false≢true h)
start_calm k c from source info Refuses h none = absurd (false≢true h)

untouched_calm : (c : Core) → Calmly c (untouched c)
untouched_calm c h none = core_refl c

pub heard_calm : (k : Side) (from : ℕ) (m : Message) (c : Core) → Calmly c (heard_core k from m c)
heard_calm k from (RunMessage h slots) c = run_calm k c from false h slots
heard_calm k from (WideMessage h slots) c = run_calm k c from true h slots
heard_calm k from (StartMessage true ask to source info) c =
    cond_both k.server (untouched c) (start_core k c from source info (start_fact c.circuits from source)) (Calmly c) (λ s. untouched_calm c) (λ s. start_calm k c from source info (start_fact c.circuits from source))
heard_calm k from (StartMessage false ask to source info) c =
    cond_both k.server (of_act k c (hear_reply_at c.circuits from to source c.moment (agreed_by k.timing info))) (untouched c) (Calmly c) (λ s. reply_calm k c from to source (agreed_by k.timing info)) (λ s. untouched_calm c)
heard_calm k from (StopMessage master ask to source reason text) c = stop_calm k c from to source reason
