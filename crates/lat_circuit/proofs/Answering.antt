-- How a slave begins, over the fields of a circuit.
use Rattle.std.proofs.Common.{◌≡◌, ℕ, ◌<◌, true, false, None, List, [], ◌∷◌, ◌++◌, length, map, min, refl, sym, ap, subst, ◌∙◌}
use Rattle.std.proofs.lemmas.Bool.{true≢false}
use Rattle.lat_base.specs.Names.{IsName}
use Rattle.lat_base.specs.declared.outbox.OutFrame.{OutFrame}
use Rattle.lat_base.specs.declared.outbox.Mark.TheVariants as marks
use Rattle.lat_fields.specs.Payloads.{padded}
use Rattle.lat_frames.specs.Written.{message_text}
use Rattle.lat_model.specs.circuits.World.{first_end}
use Rattle.lat_model.specs.numbers.Link.{fresh}
use Rattle.lat_model.specs.ends.End.{ReplyStart}
use Rattle.lat_model.specs.ends.Starting.{Agreed, make_slave, no_sessions}
use Rattle.lat_machines.specs.cores.Cores.{setup_of}
use Rattle.lat_machines.specs.values.Messages.{StartInfo}
use Rattle.lat_machines.specs.values.Timing.{agreed_by}
use Rattle.lat_circuit.specs.Links as link
use Rattle.lat_circuit.specs.Payloads.{is_wide}
use Rattle.lat_circuit.specs.Messages.{message_of}
use Rattle.lat_session.specs.Stands as sessions
use Rattle.lat_session.specs.Table.{Table}
use Rattle.lat_circuit.specs.declared.agreed.Agreed.{Agreed as OwnAgreed}
use Rattle.lat_circuit.specs.declared.circuit.Circuit.TheInside.{Inside}
use Rattle.lat_circuit.specs.declared.config.CircuitConfig.{CircuitConfig}
use Rattle.lat_circuit.specs.declared.moments.Moments.{Moments}
use Rattle.lat_circuit.specs.declared.start.Start.{Start}
use Rattle.lat_frames.specs.Timings.{IsTiming}
use Rattle.lat_circuit.specs.Agrees.{agreed_shown, span_of, Works}
use Rattle.lat_circuit.specs.Begins.{Begins, facts_answered}
use Rattle.lat_circuit.specs.Kept.{Facts, Knows}
use Rattle.lat_circuit.specs.Shown.{shown}
use Rattle.lat_circuit.specs.Frames.{AreFormed, frame_sent, message_sent, start_message, timing_shown}
use Rattle.lat_circuit.specs.Stands.{Stands}
use Rattle.lat_circuit.proofs.HeardStarts.{span_is, window_is}
use Rattle.lat_circuit.proofs.Packs.{framed}
use Rattle.lat_circuit.proofs.Sending.{replies_formed}

-- the slave that answers
abbrev pub answering : CircuitConfig → OwnAgreed → Moments → link.Kept → Table → Inside
answering config g m l t = record {
  config = config;
  running = true;
  heard_run = false;
  owed = false;
  ended = None;
  rounds = 0;
  room = g.room;
  timer = g.timer;
  keepalive = g.keepalive;
  moments = m;
  link = l;
  sessions = t;
}

abbrev pub moments_answered : ℕ → Moments
moments_answered now = record { now = now; due_at = now; heard_at = now; sent_at = now; since = now; start_at = 0; empty_at = now }

-- what its parts were made of
pub record Answers (config : CircuitConfig) (id from now : ℕ) (g : OwnAgreed) (m : Moments) (l : link.Kept) (t : Table) : Type 0 where
  pub timing : IsTiming config.timing
  pub own : 0 < id
  pub peer : 0 < from
  pub works : Works g
  pub moments : m ≡ moments_answered now
  pub is : l ≡ link.fresh_kept (record { master = false; to = from; from = id }) g.window (span_of g.wide)
  pub link : link.Stands l fresh
  pub sessions : sessions.Stands t (record (no_sessions false config.timing.sessions config.timing.ceiling) { agreed = min g.sessions (no_sessions false config.timing.sessions config.timing.ceiling).agreed })

answered_stands : (config : CircuitConfig) (id from now : ℕ) (g : OwnAgreed) (m : Moments) (l : link.Kept) (t : Table) → Answers config id from now g m l t
    → Stands (shown (answering config g m l t)) (make_slave now from (agreed_shown g) (first_end false false (setup_of (timing_shown config.timing)))).end
answered_stands config id from now g m l t w = record {
  master = ap (λ (k : link.Kept). k.ids.master) w.is;
  peer = ap (λ (k : link.Kept). k.ids.to) w.is;
  wide = ap (λ (k : link.Kept). is_wide k.sending.span) w.is ∙ span_is g.wide;
  exists = refl;
  running = refl;
  heard_run = refl;
  owed = refl;
  ended = refl;
  rounds = refl;
  room = refl;
  window = ap (λ (k : link.Kept). k.sending.window) w.is ∙ window_is g.window w.works.narrow_window;
  timer = refl;
  keepalive = refl;
  moments = record {
    now = ap (λ (z : Moments). z.now) w.moments;
    due_at = ap (λ (z : Moments). z.due_at) w.moments;
    heard_at = ap (λ (z : Moments). z.heard_at) w.moments;
    sent_at = ap (λ (z : Moments). z.sent_at) w.moments;
    since = ap (λ (z : Moments). z.since) w.moments;
    start_at = ap (λ (z : Moments). z.start_at) w.moments;
    empty_at = ap (λ (z : Moments). z.empty_at) w.moments;
  };
  link = w.link;
  sessions = w.sessions;
  calls = λ h. absurd (true≢false h);
}

answered_knows : (config : CircuitConfig) (id from now : ℕ) (g : OwnAgreed) (m : Moments) (l : link.Kept) (t : Table) → Answers config id from now g m l t → Knows config l.ids true
answered_knows config id from now g m l t w = record {
  timing = w.timing;
  own = subst (λ (k : link.Kept). 0 < k.ids.from) (sym w.is) w.own;
  peer = λ h. subst (λ (k : link.Kept). 0 < k.ids.to) (sym w.is) w.peer;
  calls = λ h. absurd (true≢false h);
}

pub answered_begins : (config : CircuitConfig) (id from now places : ℕ) (info : StartInfo) (g : OwnAgreed) (m : Moments) (l : link.Kept) (t : Table) (s : Start) (before after : List OutFrame) → Answers config id from now g m l t
    → agreed_shown g ≡ agreed_by (timing_shown config.timing) info
    → length t.sessions ≡ places → t.master ≡ false
    → start_message s ≡ message_sent (shown (answering config g m l t)).facts ReplyStart
    → IsName s.slave × IsName s.name
    → after ≡ before ++ framed (answering config g m l t) (padded (message_text (message_of (start_message s)))) marks.Plain ∷ []
    → Begins (make_slave now from (agreed_by (timing_shown config.timing) info) (first_end false false (setup_of (timing_shown config.timing)))) (facts_answered config id from info) places now (shown (answering config g m l t)) before after
answered_begins config id from now places info g m l t s before after w g_is size side is names out =
    let a : Inside = answering config g m l t in
    let facts : (shown a).facts ≡ facts_answered config id from info =
    ap (λ (k : link.Kept). record { config = config; id = k.ids.from; master = k.ids.master; peer = k.ids.to; wide = is_wide k.sending.span }) w.is
    ∙ ap (λ b. record { config = config; id = id; master = false; peer = from; wide = b }) (span_is g.wide ∙ ap (λ (z : Agreed). z.wide) g_is) in
    let fair = replies_formed a s (answered_knows config id from now g m l t w) (ap (λ (k : link.Kept). k.ids.master) w.is) is names in
    record {
      state = subst (λ z. Stands (shown a) (make_slave now from z (first_end false false (setup_of (timing_shown config.timing)))).end) g_is (answered_stands config id from now g m l t w);
      out =
          out
          ∙ ap (λ z. before ++ framed a (padded (message_text (message_of z))) marks.Plain ∷ []) is
          ∙ ap (λ k. before ++ map (frame_sent k) (ReplyStart ∷ [])) facts;
      formed = subst (λ (k : Facts). AreFormed k (ReplyStart ∷ [])) facts (fair, tt);
      is = facts;
      side = side;
      room = size;
      moment = ap (λ (z : Moments). z.now) w.moments;
    }
