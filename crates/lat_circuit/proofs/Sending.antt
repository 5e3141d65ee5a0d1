-- The steps that send frames, over the fields of a circuit.
use Rattle.std.proofs.Common.{◌≡◌, ℕ, ◌+◌, Bool, true, false, List, [], ◌∷◌, ◌++◌, map, refl, sym, ap, subst, ◌∙◌, arith}
use Rattle.std.proofs.lemmas.Bool.{true≢false}
use Rattle.lat_base.specs.Names.{IsName}
use Rattle.lat_base.specs.declared.outbox.OutFrame.{OutFrame}
use Rattle.lat_base.specs.declared.outbox.Mark.TheVariants as marks
use Rattle.lat_fields.specs.Payloads.{padded}
use Rattle.lat_frames.specs.Written.{message_text}
use Rattle.lat_model.specs.numbers.Link.{Link, showing, bare_frame, again_frames}
use Rattle.lat_model.specs.sessions.Slots.{Slot}
use Rattle.lat_model.specs.ends.End.{End, CallStart, ReplyStart, marked, send_bare, send_again, send_start}
use Rattle.lat_machines.specs.values.Messages.{Message, StartMessage, RunMessage, WideMessage, StopMessage}
use Rattle.lat_circuit.specs.Links as link
use Rattle.lat_circuit.specs.Payloads.{run_payload}
use Rattle.lat_circuit.specs.Messages.{message_of, IsFormed}
use Rattle.lat_circuit.specs.declared.circuit.Circuit.TheInside.{Inside}
use Rattle.lat_circuit.specs.declared.start.Start.{Start}
use Rattle.lat_circuit.specs.Kept.{Knows}
use Rattle.lat_circuit.specs.Shown.{shown}
use Rattle.lat_circuit.specs.Frames.{AreFormed, frame_sent, message_sent, start_message}
use Rattle.lat_circuit.specs.Stands.{Stands}
use Rattle.lat_circuit.proofs.Messages.{run_formed, none_message, again_formed, call_formed, reply_formed}
use Rattle.lat_circuit.proofs.Packs.{framed}

-- a link that has shown what it took
shown_link : (k : link.Kept) (l : Link (List Slot)) → link.Stands k l → link.Stands k (showing l)
shown_link k l st = record { sends = st.sends; takes = st.takes; texts = st.texts; messages = st.messages }

-- a RUN without slots

abbrev pub bared : Inside → Inside
bared a = record a { owed = false; moments = record (a.moments) { sent_at = a.moments.now } }

pub bare_did : (a : Inside) (ask : Bool) (text : List ℕ) (before after : List OutFrame) (e : End) → Knows a.config a.link.ids a.running → a.running ≡ true → Stands (shown a) e
    → text ≡ run_payload a.link.ids a.link.sending.span ask (bare_frame e.half.link)
    → after ≡ before ++ framed a text marks.Bare ∷ []
    → Stands (shown (bared a)) (send_bare ask e).end × (after ≡ before ++ map (frame_sent (shown (bared a)).facts) (send_bare ask e).sent) × AreFormed (shown (bared a)).facts (send_bare ask e).sent
bare_did a ask text before after e knows run st text_is out = (
  record {
    master = st.master;
    peer = st.peer;
    wide = st.wide;
    exists = st.exists;
    running = st.running;
    heard_run = st.heard_run;
    owed = refl;
    ended = st.ended;
    rounds = st.rounds;
    room = st.room;
    window = st.window;
    timer = st.timer;
    keepalive = st.keepalive;
    moments = record { now = st.moments.now; due_at = st.moments.due_at; heard_at = st.moments.heard_at; sent_at = st.moments.now; since = st.moments.since; start_at = st.moments.start_at; empty_at = st.moments.empty_at };
    link = shown_link a.link e.half.link st.link;
    sessions = st.sessions;
    calls = λ h. absurd (true≢false (sym run ∙ st.running ∙ h));
  },
  out ∙ ap (λ t. before ++ framed a t marks.Bare ∷ []) text_is,
  (run_formed a.link.ids.master ask a.link.ids.to a.link.ids.from a.link.sending.span (bare_frame e.half.link) (knows.peer run) knows.own (none_message a.link.sending.span), tt),
)

-- a round

abbrev pub repeated : Inside → Inside
repeated a = record a { owed = false; rounds = a.rounds + 1; moments = record (a.moments) { sent_at = a.moments.now; since = a.moments.now } }

pub again_did : (a : Inside) (before after : List OutFrame) (e : End) → Knows a.config a.link.ids a.running → a.running ≡ true → Stands (shown a) e
    → after ≡ before ++ map (frame_sent (shown a).facts) (marked (again_frames e.half.link))
    → Stands (shown (repeated a)) (send_again e).end × (after ≡ before ++ map (frame_sent (shown (repeated a)).facts) (send_again e).sent) × AreFormed (shown (repeated a)).facts (send_again e).sent
again_did a before after e knows run st out = (
  record {
    master = st.master;
    peer = st.peer;
    wide = st.wide;
    exists = st.exists;
    running = st.running;
    heard_run = st.heard_run;
    owed = refl;
    ended = st.ended;
    rounds = omega (arith, st.rounds);
    room = st.room;
    window = st.window;
    timer = st.timer;
    keepalive = st.keepalive;
    moments = record { now = st.moments.now; due_at = st.moments.due_at; heard_at = st.moments.heard_at; sent_at = st.moments.now; since = st.moments.now; start_at = st.moments.start_at; empty_at = st.moments.empty_at };
    link = shown_link a.link e.half.link st.link;
    sessions = st.sessions;
    calls = λ h. absurd (true≢false (sym run ∙ st.running ∙ h));
  },
  out,
  again_formed (shown a).facts a.link.sending.span _ _ _ refl (knows.peer run) knows.own st.link.messages,
)

-- a START

abbrev slave_in : Message → List ℕ
slave_in (StartMessage master ask to from info) = info.slave
slave_in (RunMessage head slots) = []
slave_in (WideMessage head slots) = []
slave_in (StopMessage master ask to from reason text) = []

abbrev name_in : Message → List ℕ
name_in (StartMessage master ask to from info) = info.name
name_in (RunMessage head slots) = []
name_in (WideMessage head slots) = []
name_in (StopMessage master ask to from reason text) = []

-- the START of a master that doesn't run yet
pub calls_formed : (a : Inside) (s : Start) → Knows a.config a.link.ids a.running → a.running ≡ false → start_message s ≡ message_sent (shown a).facts CallStart → IsName s.slave × IsName s.name → IsFormed (message_sent (shown a).facts CallStart)
calls_formed a s knows run is names =
    call_formed (shown a).facts knows.timing (subst IsName (ap name_in is) names.1) (subst IsName (ap slave_in is) names.0) (knows.calls run).1 knows.own

slave_runs : (a : Inside) → Knows a.config a.link.ids a.running → a.link.ids.master ≡ false → a.running ≡ true
slave_runs a knows slave = go a.running refl
  where
    go : (b : Bool) → a.running ≡ b → b ≡ true
    go true is = refl
    go false is = absurd (true≢false (sym (knows.calls is).0 ∙ slave))

-- the reply of a slave
pub replies_formed : (a : Inside) (s : Start) → Knows a.config a.link.ids a.running → a.link.ids.master ≡ false → start_message s ≡ message_sent (shown a).facts ReplyStart → IsName s.slave × IsName s.name → IsFormed (message_sent (shown a).facts ReplyStart)
replies_formed a s knows slave is names =
    reply_formed (shown a).facts knows.timing (subst IsName (ap slave_in is) names.0) (subst IsName (ap name_in is) names.1) (knows.peer (slave_runs a knows slave)) knows.own

abbrev pub started : Inside → Inside
started a = record a { rounds = a.rounds + 1; moments = record (a.moments) { start_at = a.moments.now; sent_at = a.moments.now } }

pub start_did : (a : Inside) (s : Start) (before after : List OutFrame) (e : End) → Knows a.config a.link.ids a.running → a.running ≡ false → Stands (shown a) e
    → start_message s ≡ message_sent (shown a).facts CallStart
    → IsName s.slave × IsName s.name
    → after ≡ before ++ framed a (padded (message_text (message_of (start_message s)))) marks.Plain ∷ []
    → Stands (shown (started a)) (send_start e).end × (after ≡ before ++ map (frame_sent (shown (started a)).facts) (send_start e).sent) × AreFormed (shown (started a)).facts (send_start e).sent
start_did a s before after e knows run st is names out = (
  record {
    master = st.master;
    peer = st.peer;
    wide = st.wide;
    exists = st.exists;
    running = st.running;
    heard_run = st.heard_run;
    owed = st.owed;
    ended = st.ended;
    rounds = omega (arith, st.rounds);
    room = st.room;
    window = st.window;
    timer = st.timer;
    keepalive = st.keepalive;
    moments = record { now = st.moments.now; due_at = st.moments.due_at; heard_at = st.moments.heard_at; sent_at = st.moments.now; since = st.moments.since; start_at = st.moments.now; empty_at = st.moments.empty_at };
    link = st.link;
    sessions = st.sessions;
    calls = st.calls;
  },
  out ∙ ap (λ m. before ++ framed a (padded (message_text (message_of m))) marks.Plain ∷ []) is,
  (calls_formed a s knows run is names, tt),
)
