-- What an end does at a START, a reply and a STOP, over the fields of a circuit.
use Rattle.std.proofs.Common.{◌≡◌, ℕ, ◌≤◌, Bool, true, false, not, cond, ◌&&◌, ◌||◌, nat_eq, min, List, [], ◌∷◌, ◌++◌, map, Option, None, Some, refl, sym, ap, subst, ◌∙◌, arith, append-nil}
use Rattle.std.proofs.lemmas.Bool.{true≢false}
use Rattle.lat_base.specs.declared.heard.Heard.{Heard as OwnHeard}
use Rattle.lat_base.specs.declared.heard.Heard.TheVariants as answers
use Rattle.lat_base.specs.declared.outbox.OutFrame.{OutFrame}
use Rattle.lat_base.specs.declared.outbox.Mark.TheVariants as marks
use Rattle.lat_fields.specs.Payloads.{padded}
use Rattle.lat_frames.specs.Written.{message_text}
use Rattle.lat_model.specs.numbers.Link.{fresh}
use Rattle.lat_model.specs.sessions.Sessions.{Sessions}
use Rattle.lat_model.specs.ends.End.{End, Step, ReplyStart, lives, still}
use Rattle.lat_model.specs.ends.Starting.{Agreed, again_start, hear_reply, hear_stop, reply_end}
use Rattle.lat_machines.specs.values.Messages.{Message, StartInfo}
use Rattle.lat_machines.specs.values.Timing.{Timing, agreed_by}
use Rattle.lat_machines.specs.values.Answers.{Running, Again, Ended}
use Rattle.lat_circuit.specs.Links as link
use Rattle.lat_circuit.specs.Payloads.{is_wide}
use Rattle.lat_circuit.specs.Messages.{message_of, IsFormed}
use Rattle.lat_session.specs.Stands as sessions
use Rattle.lat_session.specs.Table.{Table}
use Rattle.lat_circuit.specs.declared.agreed.Agreed.{Agreed as OwnAgreed}
use Rattle.lat_circuit.specs.declared.circuit.Circuit.TheInside.{Inside}
use Rattle.lat_circuit.specs.Agrees.{agreed_shown, span_of, Works}
use Rattle.lat_circuit.specs.Frames.{AreFormed, frame_sent, message_sent}
use Rattle.lat_circuit.specs.Kept.{Kept}
use Rattle.lat_circuit.specs.Shown.{shown}
use Rattle.lat_circuit.specs.Stands.{Stands}
use Rattle.lat_circuit.specs.Hears.{HeardStep, foreign, hears_start, hears_reply, hears_stop, heard_shown, SimulatesHearing}

-- a step that changes no end in another way: by another name
pub hear_as : (f g : End → HeardStep) (r : OwnHeard) (k l : Kept) (o p : List OutFrame) → SimulatesHearing f r k l o p → ((e : End) → Stands k e → g e ≡ f e) → SimulatesHearing g r k l o p
hear_as f g r k l o p a same = λ e st.
    let P : HeardStep → Type 0 = λ s. Stands l s.step.end × (p ≡ o ++ map (frame_sent l.facts) s.step.sent) × (heard_shown r ≡ s.answer) × AreFormed l.facts s.step.sent in
    subst P (sym (same e st)) (a e st)

-- the branch that was taken
pub hear_true : (t : End → Bool) (f g : End → HeardStep) (r : OwnHeard) (k l : Kept) (o p : List OutFrame) → ((e : End) → Stands k e → t e ≡ true) → SimulatesHearing f r k l o p → SimulatesHearing (λ e. cond (t e) (f e) (g e)) r k l o p
hear_true t f g r k l o p is a = hear_as f (λ e. cond (t e) (f e) (g e)) r k l o p a (λ e st. ap (λ b. cond b (f e) (g e)) (is e st))

pub hear_false : (t : End → Bool) (f g : End → HeardStep) (r : OwnHeard) (k l : Kept) (o p : List OutFrame) → ((e : End) → Stands k e → t e ≡ false) → SimulatesHearing g r k l o p → SimulatesHearing (λ e. cond (t e) (f e) (g e)) r k l o p
hear_false t f g r k l o p is a = hear_as g (λ e. cond (t e) (f e) (g e)) r k l o p a (λ e st. ap (λ b. cond b (f e) (g e)) (is e st))

-- what a circuit that has not ended tells of its end
pub lives_is : (k : Kept) (e : End) → Stands k e → k.ended ≡ None → lives e ≡ true
lives_is k e st is = ap (λ (o : Option ℕ). elim o [ None ↦ e.exists | Some r ↦ false ]) (sym st.ended ∙ is) ∙ st.exists

-- the circuit, given a moment
abbrev pub given : Inside → ℕ → Inside
given a now = record a { moments = record (a.moments) { now = now } }

pub given_stands : (a : Inside) (now : ℕ) (e : End) → Stands (shown a) e → Stands (shown (given a now)) (record e { moment = now })
given_stands a now e st = record {
  master = st.master;
  peer = st.peer;
  wide = st.wide;
  exists = st.exists;
  running = st.running;
  heard_run = st.heard_run;
  owed = st.owed;
  ended = st.ended;
  rounds = st.rounds;
  room = st.room;
  window = st.window;
  timer = st.timer;
  keepalive = st.keepalive;
  moments = record { now = refl; due_at = st.moments.due_at; heard_at = st.moments.heard_at; sent_at = st.moments.sent_at; since = st.moments.since; start_at = st.moments.start_at; empty_at = st.moments.empty_at };
  link = st.link;
  sessions = st.sessions;
  calls = st.calls;
}

-- a frame of the circuit was heard
abbrev pub noted_at : Inside → ℕ → Inside
noted_at a now = record a { moments = record (a.moments) { now = now; heard_at = now } }

pub noted_is : (a : Inside) (now : ℕ) (e : End) → Stands (shown a) e → Stands (shown (noted_at a now)) (record e { moment = now; heard_at = now })
noted_is a now e st = record {
  master = st.master;
  peer = st.peer;
  wide = st.wide;
  exists = st.exists;
  running = st.running;
  heard_run = st.heard_run;
  owed = st.owed;
  ended = st.ended;
  rounds = st.rounds;
  room = st.room;
  window = st.window;
  timer = st.timer;
  keepalive = st.keepalive;
  moments = record { now = refl; due_at = st.moments.due_at; heard_at = refl; sent_at = st.moments.sent_at; since = st.moments.since; start_at = st.moments.start_at; empty_at = st.moments.empty_at };
  link = st.link;
  sessions = st.sessions;
  calls = st.calls;
}

-- a STOP
abbrev pub ended_at : Inside → ℕ → ℕ → Inside
ended_at a now reason = record a { ended = Some reason; moments = record (a.moments) { now = now } }

ended_is : (a : Inside) (now reason : ℕ) (e : End) → Stands (shown a) e → Stands (shown (ended_at a now reason)) (record e { ended = Some reason; moment = now })
ended_is a now reason e st = record {
  master = st.master;
  peer = st.peer;
  wide = st.wide;
  exists = st.exists;
  running = st.running;
  heard_run = st.heard_run;
  owed = st.owed;
  ended = refl;
  rounds = st.rounds;
  room = st.room;
  window = st.window;
  timer = st.timer;
  keepalive = st.keepalive;
  moments = record { now = refl; due_at = st.moments.due_at; heard_at = st.moments.heard_at; sent_at = st.moments.sent_at; since = st.moments.since; start_at = st.moments.start_at; empty_at = st.moments.empty_at };
  link = st.link;
  sessions = st.sessions;
  calls = st.calls;
}

pub stop_did : (a : Inside) (own to source reason now : ℕ) → a.ended ≡ None
    → ((e : End) → Stands (shown a) e → nat_eq to own && (nat_eq e.peer source || nat_eq source 0) ≡ true)
    → SimulatesHearing (hears_stop own now to source reason) (answers.Ended reason) (shown a) (shown (ended_at a now reason)) [] []
stop_did a own to source reason now alive is =
    hear_true
    (λ e. nat_eq to own && (nat_eq e.peer source || nat_eq source 0))
    (λ e. record { step = hear_stop now reason e; answer = Ended reason })
    foreign
    (answers.Ended reason) (shown a) (shown (ended_at a now reason)) [] [] is
    (hear_as (λ e. record { step = still (record e { ended = Some reason; moment = now }); answer = Ended reason })
    (λ e. record { step = hear_stop now reason e; answer = Ended reason })
    (answers.Ended reason) (shown a) (shown (ended_at a now reason)) [] []
    (λ e st. (ended_is a now reason e st, refl, refl, tt))
    (λ e st. ap (λ b. record { step = cond b (still (record e { ended = Some reason; moment = now })) (still e); answer = Ended reason }) (lives_is (shown a) e st alive)))

-- a START again
abbrev pub replied_at : Inside → ℕ → Inside
replied_at a now = record a { owed = false; moments = record (a.moments) { now = now; heard_at = now; sent_at = now } }

replied_is : (a : Inside) (now : ℕ) (e : End) → Stands (shown a) e → Stands (shown (replied_at a now)) (record e { moment = now; heard_at = now; sent_at = now; owed = false })
replied_is a now e st = record {
  master = st.master;
  peer = st.peer;
  wide = st.wide;
  exists = st.exists;
  running = st.running;
  heard_run = st.heard_run;
  owed = refl;
  ended = st.ended;
  rounds = st.rounds;
  room = st.room;
  window = st.window;
  timer = st.timer;
  keepalive = st.keepalive;
  moments = record { now = refl; due_at = st.moments.due_at; heard_at = refl; sent_at = refl; since = st.moments.since; start_at = st.moments.start_at; empty_at = st.moments.empty_at };
  link = st.link;
  sessions = st.sessions;
  calls = st.calls;
}

-- what a START again does, where the slave lives
again_is : (now : ℕ) (b : Bool) (e : End) → lives e ≡ true → e.heard_run ≡ b
    → again_start now e
    ≡ cond b (still (record e { moment = now; heard_at = now })) (record { end = record e { moment = now; heard_at = now; sent_at = now; owed = false }; sent = ReplyStart ∷ [] })
again_is now true e alive is = rw (alive, is) refl
again_is now false e alive is = rw (alive, is) refl

pub again_noted : (a : Inside) (source now : ℕ) (o : List OutFrame) → a.ended ≡ None → a.heard_run ≡ true
    → ((e : End) → Stands (shown a) e → not e.master && nat_eq e.peer source ≡ true)
    → SimulatesHearing (hears_start source now) answers.Again (shown a) (shown (noted_at a now)) o o
again_noted a source now o alive heard is =
    hear_true
    (λ e. not e.master && nat_eq e.peer source)
    (λ e. record { step = again_start now e; answer = Again })
    foreign
    answers.Again (shown a) (shown (noted_at a now)) o o is
    (hear_as (λ e. record { step = still (record e { moment = now; heard_at = now }); answer = Again })
    (λ e. record { step = again_start now e; answer = Again })
    answers.Again (shown a) (shown (noted_at a now)) o o
    (λ e st. (noted_is a now e st, sym (append-nil o), refl, tt))
    (λ e st. ap (λ s. record { step = s; answer = Again }) (again_is now true e (lives_is (shown a) e st alive) (sym st.heard_run ∙ heard))))

pub again_replied : (a : Inside) (source now : ℕ) (s : Message) (o p : List OutFrame) → a.ended ≡ None → a.heard_run ≡ false
    → ((e : End) → Stands (shown a) e → not e.master && nat_eq e.peer source ≡ true)
    → s ≡ message_sent (shown a).facts ReplyStart
    → p ≡ o ++ record { to = a.config.peer; payload = padded (message_text (message_of s)); circuit = a.link.ids.from; mark = marks.Plain } ∷ []
    → ((e : End) → Stands (shown a) e → IsFormed (message_sent (shown a).facts ReplyStart))
    → SimulatesHearing (hears_start source now) answers.Again (shown a) (shown (replied_at a now)) o p
again_replied a source now s o p alive heard is text out fair =
    hear_true
    (λ e. not e.master && nat_eq e.peer source)
    (λ e. record { step = again_start now e; answer = Again })
    foreign
    answers.Again (shown a) (shown (replied_at a now)) o p is
    (hear_as (λ e. record { step = record { end = record e { moment = now; heard_at = now; sent_at = now; owed = false }; sent = ReplyStart ∷ [] }; answer = Again })
    (λ e. record { step = again_start now e; answer = Again })
    answers.Again (shown a) (shown (replied_at a now)) o p
    (λ e st. (replied_is a now e st, out ∙ ap (λ t. o ++ record { to = a.config.peer; payload = padded (message_text (message_of t)); circuit = a.link.ids.from; mark = marks.Plain } ∷ []) text, refl, (fair e st, tt)))
    (λ e st. ap (λ s. record { step = s; answer = Again }) (again_is now false e (lives_is (shown a) e st alive) (sym st.heard_run ∙ heard))))

-- a reply

reply_is : (now from : ℕ) (g : Agreed) (b : Bool) (e : End) → lives e ≡ true → e.running ≡ b
    → hear_reply now from g e ≡ cond b (still (record e { moment = now; heard_at = now })) (still (reply_end now from g e))
reply_is now from g true e alive is = rw (alive, is) refl
reply_is now from g false e alive is = rw (alive, is) refl

abbrev pub is_reply : ℕ → (to source : ℕ) → End → Bool
is_reply own to source e = e.master && (nat_eq to own && (not e.running || nat_eq e.peer source))

pub reply_noted : (a : Inside) (own : ℕ) (t : Timing) (to source : ℕ) (info : StartInfo) (now : ℕ) → a.ended ≡ None → a.running ≡ true
    → ((e : End) → Stands (shown a) e → is_reply own to source e ≡ true)
    → SimulatesHearing (hears_reply own now t to source info) answers.Again (shown a) (shown (noted_at a now)) [] []
reply_noted a own t to source info now alive run is =
    hear_true
    (is_reply own to source)
    (λ e. record { step = hear_reply now source (agreed_by t info) e; answer = cond e.running Again Running })
    foreign
    answers.Again (shown a) (shown (noted_at a now)) [] [] is
    (λ e st.
    let P : Step → Type 0 = λ s. Stands (shown (noted_at a now)) s.end × ([] ≡ map (frame_sent (shown (noted_at a now)).facts) s.sent) × AreFormed (shown (noted_at a now)).facts s.sent in
    let x = subst P (sym (reply_is now source (agreed_by t info) true e (lives_is (shown a) e st alive) (sym st.running ∙ run))) (noted_is a now e st, refl, tt) in
    (x.0, x.1, ap (λ b. cond b Again Running) (sym run ∙ st.running), x.2))

pub reply_runs : (a : Inside) (own : ℕ) (t : Timing) (to source : ℕ) (info : StartInfo) (now : ℕ) (l : Kept) → a.ended ≡ None → a.running ≡ false
    → ((e : End) → Stands (shown a) e → is_reply own to source e ≡ true)
    → ((e : End) → Stands (shown (noted_at a now)) e → Stands l (reply_end now source (agreed_by t info) e))
    → SimulatesHearing (hears_reply own now t to source info) answers.Running (shown a) l [] []
reply_runs a own t to source info now l alive run is did =
    hear_true
    (is_reply own to source)
    (λ e. record { step = hear_reply now source (agreed_by t info) e; answer = cond e.running Again Running })
    foreign
    answers.Running (shown a) l [] [] is
    (λ e st.
    let P : Step → Type 0 = λ s. Stands l s.end × ([] ≡ map (frame_sent l.facts) s.sent) × AreFormed l.facts s.sent in
    let x = subst P (sym (reply_is now source (agreed_by t info) false e (lives_is (shown a) e st alive) (sym st.running ∙ run))) (did (record e { moment = now; heard_at = now }) (noted_is a now e st), refl, tt) in
    (x.0, x.1, ap (λ b. cond b Again Running) (sym run ∙ st.running), x.2))

pub span_is : (b : Bool) → is_wide (span_of b) ≡ b
span_is true = refl
span_is false = refl

pub window_is : (w : ℕ) → w ≤ 8 → w ≡ min w 8
window_is w most = omega (arith, most)

-- the circuit that runs with these numbers
abbrev pub running_with : Inside → link.Kept → Table → OwnAgreed → Inside
running_with a l t g = record a { link = l; sessions = t; room = g.room; running = true; owed = true; rounds = 0; moments = record (a.moments) { empty_at = a.moments.now } }

pub runs_with : (a : Inside) (from : ℕ) (g : OwnAgreed) (l : link.Kept) (t : Table) → a.running ≡ false → a.moments.heard_at ≡ a.moments.now → Works g
    → l ≡ link.fresh_kept (record { master = a.link.ids.master; to = from; from = a.link.ids.from }) g.window (span_of g.wide)
    → link.Stands l fresh
    → ((s : Sessions) → sessions.Stands a.sessions s → sessions.Stands t (record s { agreed = min g.sessions s.agreed }))
    → (e : End) → Stands (shown a) e → Stands (shown (running_with a l t g)) (reply_end a.moments.now from (agreed_shown g) e)
runs_with a from g l t run heard works l_is anew agrees e st = record {
  master = ap (λ (k : link.Kept). k.ids.master) l_is ∙ st.master;
  peer = ap (λ (k : link.Kept). k.ids.to) l_is;
  wide = ap (λ (k : link.Kept). is_wide k.sending.span) l_is ∙ span_is g.wide;
  exists = st.exists;
  running = refl;
  heard_run = st.heard_run;
  owed = refl;
  ended = st.ended;
  rounds = refl;
  room = refl;
  window = ap (λ (k : link.Kept). k.sending.window) l_is ∙ window_is g.window works.narrow_window;
  timer = st.timer;
  keepalive = st.keepalive;
  moments = record { now = refl; due_at = st.moments.due_at; heard_at = heard; sent_at = st.moments.sent_at; since = st.moments.since; start_at = st.moments.start_at; empty_at = refl };
  link = subst (λ m. link.Stands l m) (sym (st.calls (sym st.running ∙ run))) anew;
  sessions = agrees e.half.sessions st.sessions;
  calls = λ no. absurd (true≢false no);
}
