-- What a node stands for once its lines have done something, and how its machine goes on.
use Rattle.std.proofs.Common.{◌≡◌, ℕ, refl, sym, ap, subst, ◌∙◌, false, List, []}
use Rattle.lat_base.specs.Answers.{PutFits, TookFits}
use Rattle.lat_base.specs.declared.answer.Answer as base
use Rattle.lat_base.specs.declared.answer.Answer.TheVariants as answers
use Rattle.lat_base.specs.declared.event.Event.{Event}
use Rattle.lat_base.specs.declared.event.Event.TheVariants as events
use Rattle.lat_base.specs.declared.outbox.OutFrame.{OutFrame}
use Rattle.lat_machines.specs.cores.Cores.{Side, Core, at_moment, passes_time}
use Rattle.lat_machines.specs.cores.LineCalls.{Said, on_line}
use Rattle.lat_machines.specs.values.Answers.{NotHere}
use Rattle.lat_machines.specs.values.Events.{Time}
use Rattle.lat_machines.specs.node.Node.{NodeConfig, Node, NodeStep, node_side, with_core, said, tells, node_step}
use Rattle.lat_payload.specs.Frames.{Emits}
use Rattle.lat_payload.proofs.Frames.{adds_none}
use Rattle.lat_lines.specs.Kept as lines
use Rattle.lat_lines.specs.Stands as line_stands
use Rattle.lat_session.specs.declared.call.SessionCall.{SessionCall}
use Rattle.lat_session.specs.declared.call.SessionCall.TheVariants.{Put, Set, Attend, Close}
use Rattle.lat_lines.specs.Answers.{SimulatesCall, HasAnswered, IsPlain}
use Rattle.lat_lines.specs.AnswerValues.{answer_shown}
use Rattle.lat_lines.specs.Calls.{call_on, event_of, IsNoCall}
use Rattle.lat_lines.specs.Events.{event_shown}
use Rattle.lat_node.specs.Kept.{Kept, SameConfig, config_of}
use Rattle.lat_node.specs.Stands.{Stands}
use Rattle.lat_node.specs.Events.{Simulates, TakesNoMemory}

abbrev pub with_lines : {H : Type 0} → Kept H → lines.Kept → Kept H
with_lines k l = record k { lines = l }

-- the lines alone have gone on
pub moved : {H : Type 0} (k : Kept H) (l : lines.Kept) (s : Node) (c : Core) → Stands k s → line_stands.Stands l c → Stands (with_lines k l) (with_core s c)
moved k l s c st x = record { lines = x; requests = st.requests; accepted = st.accepted; turned_away = st.turned_away; halted = st.halted }

pub same_lines : {H : Type 0} (k : Kept H) (l : lines.Kept) → lines.SameLines k.lines l → SameConfig k (with_lines k l)
same_lines k l same = record { config = rw (same.core.own, same.core.name, same.core.timing, same.core.first, same.lines) refl; rule = refl }

pub same_twice : {H : Type 0} (k l m : Kept H) → SameConfig k l → SameConfig l m → SameConfig k m
same_twice k l m p q = record { config = q.config ∙ p.config; rule = q.rule ∙ p.rule }

-- a node's side of its circuits
pub side_is : {H : Type 0} (k : Kept H) → k.lines.circuits.server ≡ false → lines.side_of k.lines ≡ node_side (config_of k)
side_is k node = ap (λ b. record { server = b; timing = (config_of k).timing; name = (config_of k).name }) node

pub side_stays : (k l : lines.Kept) → lines.SameLines k l → lines.side_of l ≡ lines.side_of k
side_stays k l same = rw (same.core.server, same.core.timing, same.core.name) refl

-- a call on a line
pub called : {H : Type 0} (k : Kept H) (l : lines.Kept) (call : Side → Core → Said) (answer : base.Answer) (before : List OutFrame) → k.lines.circuits.server ≡ false →
    SimulatesCall (call (lines.side_of k.lines)) k.lines l answer → Simulates (λ config s. said s (call (node_side config) s.core)) k (with_lines k l) answer before before
called k l call answer before node says s st =
    let x : HasAnswered s.core (call (node_side (config_of k)) s.core) l answer = subst (λ (side : Side). HasAnswered s.core (call side s.core) l answer) (side_is k node) (says s.core st.lines) in
    (moved k l s (call (node_side (config_of k)) s.core).core st x.state, x.answered, adds_none before)

-- a moment, and what the circuits do then
pub timed : {H : Type 0} (k : Kept H) (l d : lines.Kept) (now : ℕ) (before after : List OutFrame) → k.lines.circuits.server ≡ false →
    ((c : Core) → line_stands.Stands k.lines c → line_stands.Stands l (at_moment now c)) → lines.SameLines k.lines l → line_stands.Simulates (passes_time (lines.side_of l)) l d before after →
    Simulates (λ config s. node_step config [] s (Time now)) k (with_lines k d) answers.Done before after
timed k l d now before after node passed same did s st =
    let t : Node = with_core s (at_moment now s.core) in
    let stood = moved k l s (at_moment now s.core) st (passed s.core st.lines) in
    let x : line_stands.HasStepped t.core (passes_time (node_side (config_of k)) t.core) d before after = subst (λ (side : Side). line_stands.HasStepped t.core (passes_time side t.core) d before after) (side_stays k.lines l same ∙ side_is k node) (did t.core stood.lines) in
    (moved (with_lines k l) d t (passes_time (node_side (config_of k)) t.core).core stood x.state, refl, x.frames)

-- a call on a line's session

node_call : (config : NodeConfig) (s : Node) (line : ℕ) (call : SessionCall) → node_step config [] s (event_shown (event_of line call)) ≡ said s (on_line config.lines s.core line (λ x. call_on (node_side config) s.core x call))
node_call config s line (Put bytes) = refl
node_call config s line (Set setting) = refl
node_call config s line (Attend flag) = refl
node_call config s line Close = refl

-- what it did, and answered
abbrev HasDone : {H : Type 0} (new : Kept H) → base.Answer → List OutFrame → NodeStep → Type 0
HasDone new answer out t = Stands new t.state × (answer_shown answer ≡ t.answer) × Emits t.frames out out

pub does_call : {H : Type 0} (k old : Kept H) (l : lines.Kept) (e : Event) (line : ℕ) (call : SessionCall) (answer : base.Answer) (out : List OutFrame) → k ≡ old → k.lines.circuits.server ≡ false → e ≡ event_of line call →
    SimulatesCall (λ c. on_line k.lines.lines c line (λ x. call_on (lines.side_of k.lines) c x call)) k.lines l answer → Simulates (λ config s. node_step config [] s (event_shown e)) old (with_lines k l) answer out out
does_call {H = H} k old l e line call answer out same node is says =
    subst (λ (y : Event). Simulates (λ config s. node_step config [] s (event_shown y)) old (with_lines k l) answer out out) (sym is)
    (subst (λ (z : Kept H). Simulates (λ config s. node_step config [] s (event_shown (event_of line call))) z (with_lines k l) answer out out) same
    (λ s st. subst (HasDone (with_lines k l) answer out) (sym (node_call (config_of k) s line call))
    (called k l (λ side d. on_line k.lines.lines d line (λ x. call_on side d x call)) answer out node says s st)))

-- an event that there is none of at a node

at_nothing : (config : NodeConfig) (s : Node) (e : Event) → TakesNoMemory e → ((now : _) → e ≡ events.Time now → ⊥) → ((id : _) → e ≡ events.Cancel id → ⊥) → IsNoCall e → node_step config [] s (event_shown e) ≡ tells s NotHere
at_nothing config s (events.Heard from payload now) a t w c = absurd a
at_nothing config s (events.Time now) a t w c = absurd (t now refl)
at_nothing config s (events.Connect line service) a t w c = refl
at_nothing config s (events.Put line bytes) a t w c = absurd c
at_nothing config s (events.Set line setting) a t w c = absurd c
at_nothing config s (events.Take line count) a t w c = absurd a
at_nothing config s (events.Attend line flag) a t w c = absurd c
at_nothing config s (events.Close line) a t w c = absurd c
at_nothing config s (events.Request to id service) a t w c = absurd a
at_nothing config s (events.Cancel id) a t w c = absurd (w id refl)
at_nothing config s events.Announce a t w c = absurd a
at_nothing config s (events.Avoid line) a t w c = refl
at_nothing config s (events.Ready line ready) a t w c = refl
at_nothing config s events.Halt a t w c = absurd a

pub does_nothing : {H : Type 0} (k : Kept H) (e : Event) (before : List OutFrame) → TakesNoMemory e → ((now : _) → e ≡ events.Time now → ⊥) → ((id : _) → e ≡ events.Cancel id → ⊥) → IsNoCall e →
    Simulates (λ config s. node_step config [] s (event_shown e)) k k answers.NotHere before before
does_nothing k e before a t w c = λ s st.
    subst (HasDone k answers.NotHere before) (sym (at_nothing (config_of k) s e a t w c)) (st, refl, adds_none before)

-- what a plain answer tells of no call
pub plain_fits : (ready : ℕ → ℕ) (a : base.Answer) (e : Event) → IsPlain a → PutFits a e × TookFits ready a e
plain_fits ready (answers.Circuit heard) e p = (tt, tt)
plain_fits ready (answers.Started id) e p = (tt, tt)
plain_fits ready answers.StartRefused e p = (tt, tt)
plain_fits ready answers.Announced e p = (tt, tt)
plain_fits ready answers.DirectoryFull e p = (tt, tt)
plain_fits ready (answers.Kept kept) e p = (tt, tt)
plain_fits ready answers.NotKept e p = (tt, tt)
plain_fits ready answers.Noted e p = (tt, tt)
plain_fits ready answers.Apart e p = (tt, tt)
plain_fits ready answers.Solicited e p = (tt, tt)
plain_fits ready answers.Ignored e p = (tt, tt)
plain_fits ready (answers.Bad bad) e p = (tt, tt)
plain_fits ready (answers.Connected circuit session) e p = (tt, tt)
plain_fits ready (answers.Put n) e p = absurd p
plain_fits ready (answers.Took items) e p = absurd p
plain_fits ready answers.Done e p = (tt, tt)
plain_fits ready answers.NoLine e p = (tt, tt)
plain_fits ready answers.Busy e p = (tt, tt)
plain_fits ready answers.NoService e p = (tt, tt)
plain_fits ready answers.SessionsFull e p = (tt, tt)
plain_fits ready answers.CircuitsFull e p = (tt, tt)
plain_fits ready answers.IdsOut e p = (tt, tt)
plain_fits ready answers.Closed e p = (tt, tt)
plain_fits ready answers.Full e p = (tt, tt)
plain_fits ready answers.IdUsed e p = (tt, tt)
plain_fits ready answers.NotHere e p = (tt, tt)
plain_fits ready answers.Halted e p = (tt, tt)
