-- An event and what follows it are a step of the machine.
use Rattle.std.proofs.Common.{◌≡◌, ℕ, true, refl, sym, ap, ◌∙◌, subst, List, []}
use Rattle.lat_base.specs.declared.answer.Answer as base
use Rattle.lat_base.specs.declared.answer.Answer.TheVariants as answers
use Rattle.lat_base.specs.declared.event.Event as base_event
use Rattle.lat_base.specs.declared.event.Event.TheVariants as events
use Rattle.lat_base.specs.declared.outbox.OutFrame.{OutFrame}
use Rattle.lat_machines.specs.values.Answers.{NotHere}
use Rattle.lat_machines.specs.values.Events.{Event}
use Rattle.lat_machines.specs.cores.Cores.{Side}
use Rattle.lat_machines.specs.cores.LineCalls.{on_line}
use Rattle.lat_machines.specs.server.Server.{ServerConfig, Server, ServerStep, server_side, said, tells, server_event, server_step, passed}
use Rattle.lat_session.specs.declared.call.SessionCall.{SessionCall}
use Rattle.lat_session.specs.declared.call.SessionCall.TheVariants.{Put, Set, Attend, Close}
use Rattle.lat_lines.specs.Answers.{SimulatesCall, HasAnswered}
use Rattle.lat_lines.specs.AnswerValues.{answer_of}
use Rattle.lat_lines.specs.Calls.{call_on, event_of, IsNoCall}
use Rattle.lat_lines.specs.Events.{event_shown}
use Rattle.lat_lines.specs.Kept as lines
use Rattle.lat_lines.proofs.AnswerValues.{answer_back}
use Rattle.lat_queue.specs.Tables.{Table}
use Rattle.lat_server.specs.Kept.{Kept, AtRest, config_of}
use Rattle.lat_server.specs.Stands.{Stands, Machine, IsMachine, next, answered, Frames}
use Rattle.lat_server.specs.Events.{HasDone, Simulates, Follows, HasFollowed, TakesNoMemory}
use Rattle.lat_server.proofs.Connecting.{idle, same_side}
use Rattle.lat_server.proofs.EventSeats.{event_seats}
use Rattle.lat_server.proofs.Hearing.{did_call}

-- the configuration stays where the lines are the same
pub config_same : (k : Kept) (l : lines.Kept) (r : Table) → lines.SameLines k.lines l → config_of (record k { lines = l; queue = r }) ≡ config_of k
config_same k l r s =
    let a : l.lines ≡ k.lines.lines = s.lines in
    let b : l.circuits.own ≡ k.lines.circuits.own = s.core.own in
    let c : l.circuits.name ≡ k.lines.circuits.name = s.core.name in
    let d : l.circuits.timing ≡ k.lines.circuits.timing = s.core.timing in
    let e : l.circuits.first ≡ k.lines.circuits.first = s.core.first in
    rw (a, b, c, d, e) refl

-- a call on a line

server_call : (config : ServerConfig) (s : Server) (line : ℕ) (call : SessionCall) → server_event config s (event_shown (event_of line call)) ≡ said s (on_line config.lines s.core line (λ x. call_on (server_side config) s.core x call))
server_call config s line (Put bytes) = refl
server_call config s line (Set setting) = refl
server_call config s line (Attend flag) = refl
server_call config s line Close = refl

pub does_call : (k old : Kept) (l : lines.Kept) (e : base_event.Event) (line : ℕ) (call : SessionCall) (a : base.Answer) (out : List OutFrame) → k ≡ old → k.lines.circuits.server ≡ true → e ≡ event_of line call
    → SimulatesCall (λ c. on_line k.lines.lines c line (λ x. call_on (lines.side_of k.lines) c x call)) k.lines l a → Simulates (λ config s. server_event config s (event_shown e)) old (record k { lines = l }) a out out
does_call k old l e line call a out same server is says s st =
    let new : Kept = record k { lines = l } in
    let in_it : Stands k s = subst (λ (z : Kept). Stands z s) (sym same) st in
    subst (λ (y : base_event.Event). HasDone s (server_event (config_of old) s (event_shown y)) new a out out) (sym is)
    (subst (λ (z : Kept). HasDone s (server_event (config_of z) s (event_shown (event_of line call))) new a out out) same
    (subst (λ (t : ServerStep). HasDone s t new a out out) (sym (server_call (config_of k) s line call))
    (did_call k s l a (on_line k.lines.lines s.core line (λ x. call_on (server_side (config_of k)) s.core x call)) out in_it
    (subst (λ (z : Side). HasAnswered s.core (on_line k.lines.lines s.core line (λ x. call_on z s.core x call)) l a) (sym (same_side k server)) (says s.core in_it.lines)))))

-- an event that is nothing to a server

at_nothing : (config : ServerConfig) (s : Server) (e : base_event.Event) → TakesNoMemory e → ((now : _) → e ≡ events.Time now → ⊥) → ((line : _) (service : _) → e ≡ events.Connect line service → ⊥) → ((line : _) → e ≡ events.Avoid line → ⊥) → ((line : _) (ready : _) → e ≡ events.Ready line ready → ⊥) → (e ≡ events.Halt → ⊥) → IsNoCall e
    → server_event config s (event_shown e) ≡ tells s NotHere
at_nothing config s (events.Heard from payload now) l t n a r h c = absurd l
at_nothing config s (events.Time now) l t n a r h c = absurd (t now refl)
at_nothing config s (events.Connect line service) l t n a r h c = absurd (n line service refl)
at_nothing config s (events.Put line bytes) l t n a r h c = absurd c
at_nothing config s (events.Set line setting) l t n a r h c = absurd c
at_nothing config s (events.Take line count) l t n a r h c = absurd l
at_nothing config s (events.Attend line flag) l t n a r h c = absurd c
at_nothing config s (events.Close line) l t n a r h c = absurd c
at_nothing config s (events.Request to id service) l t n a r h c = refl
at_nothing config s (events.Cancel id) l t n a r h c = refl
at_nothing config s events.Announce l t n a r h c = refl
at_nothing config s (events.Avoid line) l t n a r h c = absurd (a line refl)
at_nothing config s (events.Ready line ready) l t n a r h c = absurd (r line ready refl)
at_nothing config s events.Halt l t n a r h c = absurd (h refl)

pub does_nothing : (k : Kept) (e : base_event.Event) (before : List OutFrame) → AtRest k → TakesNoMemory e → ((now : _) → e ≡ events.Time now → ⊥) → ((line : _) (service : _) → e ≡ events.Connect line service → ⊥) → ((line : _) → e ≡ events.Avoid line → ⊥) → ((line : _) (ready : _) → e ≡ events.Ready line ready → ⊥) → (e ≡ events.Halt → ⊥) → IsNoCall e
    → Simulates (λ config s. server_event config s (event_shown e)) k k answers.NotHere before before
does_nothing k e before rest l t n a r h c = λ s st.
    subst (λ (step : ServerStep). HasDone s step k answers.NotHere before before) (sym (at_nothing (config_of k) s e l t n a r h c))
    (record { state = idle k s NotHere before rest st; answered = refl })

-- what a core promises of a step
pub record HasStepped (m : Machine) (e : base_event.Event) (new : Kept) (answer : base.Answer) (after : List OutFrame) : Type 0 where
  pub state : IsMachine new (next m e)
  pub answer_is : answer ≡ answered m e
  pub frames : Frames m e after

pub has_stepped : (k middle new : Kept) (m : Machine) (e : base_event.Event) (a : base.Answer) (before between after : List OutFrame) → before ≡ [] → IsMachine k m → Simulates (λ config s. server_event config s (event_shown e)) k middle a before between → config_of middle ≡ config_of k → config_of new ≡ config_of middle
    → Follows middle new between after → HasStepped m e new a after
has_stepped k middle new m e a before between after empty im does same then follows =
    let s : Server = m.state in
    let ev : Event = event_shown e in
    let t : ServerStep = server_event (config_of k) s ev in
    let d : HasDone s t middle a before between = does s im.state in
    let f : HasFollowed (passed (config_of middle) t) new before after = follows s t before d.state (event_seats (config_of k) s ev) in
    let g : HasFollowed (server_step (config_of k) s ev) new [] after = subst (λ z. HasFollowed (server_step (config_of k) s ev) new z after) empty (subst (λ (c : ServerConfig). HasFollowed (passed c t) new before after) same f) in
    let h : HasFollowed (server_step m.config s ev) new [] after = subst (λ (c : ServerConfig). HasFollowed (server_step c s ev) new [] after) (sym im.config) g in
    record {
      state = record { config = im.config ∙ sym same ∙ sym then; state = h.state };
      answer_is = sym (answer_back a) ∙ ap answer_of d.answered ∙ ap (λ (c : ServerConfig). answer_of (server_event c s ev).answer) (sym im.config);
      frames = record { same = h.frames.same; readable = h.frames.readable };
    }
