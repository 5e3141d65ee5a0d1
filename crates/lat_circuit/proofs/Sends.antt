-- The steps that form messages, over the fields of a circuit.
use Rattle.std.proofs.Common.{◌≡◌, ℕ, Bool, true, false, not, ◌&&◌, cond, nat_eq, List, [], ◌∷◌, ◌++◌, length, map, refl, sym, ap, subst, ◌∙◌}
use Rattle.std.proofs.lemmas.Bool.{true≢false}
use Rattle.lat_base.specs.declared.outbox.OutFrame.{OutFrame}
use Rattle.lat_base.specs.declared.outbox.Mark.TheVariants as marks
use Rattle.lat_model.specs.Lists.{is_empty}
use Rattle.lat_model.specs.numbers.Link.{Link, form_message, formed_frame, window_open}
use Rattle.lat_model.specs.sessions.Slots.{Slot}
use Rattle.lat_model.specs.sessions.Sessions.{Sessions, held}
use Rattle.lat_model.specs.sessions.Packing.{Packing, pack}
use Rattle.lat_model.specs.ends.End.{End, Step, still, wire_of, all_known, acknowledge, send_message, form_packed, occasion}
use Rattle.lat_model.specs.ends.Timers.{note_empty}
use Rattle.lat_circuit.specs.Links as link
use Rattle.lat_circuit.specs.Payloads.{is_wide, run_payload}
use Rattle.lat_session.specs.Stands as sessions
use Rattle.lat_session.specs.Table.{Table}
use Rattle.lat_circuit.specs.declared.circuit.Circuit.TheInside.{Inside}
use Rattle.lat_circuit.specs.declared.moments.Moments.{Moments}
use Rattle.lat_circuit.specs.Kept.{Kept}
use Rattle.lat_circuit.specs.Shown.{shown}
use Rattle.lat_circuit.specs.Frames.{AreFormed, frame_sent}
use Rattle.lat_circuit.specs.Stands.{AreMoments, Stands, Simulates}
use Rattle.lat_circuit.specs.Steps.{form_slots}
use Rattle.lat_circuit.proofs.Packs.{framed, pack_idle, none_empty, some_empty}

moments_stay : (m : Moments) (e f : End) → AreMoments m e → e.moment ≡ f.moment → e.due_at ≡ f.due_at → e.heard_at ≡ f.heard_at → e.sent_at ≡ f.sent_at → e.since ≡ f.since → e.start_at ≡ f.start_at → e.empty_at ≡ f.empty_at → AreMoments m f
moments_stay m e f st now due heard sent since start empty = record {
  now = st.now ∙ now;
  due_at = st.due_at ∙ due;
  heard_at = st.heard_at ∙ heard;
  sent_at = st.sent_at ∙ sent;
  since = st.since ∙ since;
  start_at = st.start_at ∙ start;
  empty_at = st.empty_at ∙ empty;
}

pub with_sessions : (a : Inside) (t : Table) (e : End) (s : Sessions) → Stands (shown a) e → sessions.Stands t s → Stands (shown (record a { sessions = t })) (record e { half = record (e.half) { sessions = s } })
with_sessions a t e s st is = record {
  master = st.master;
  peer = st.peer;
  wide = st.wide;
  exists = st.exists;
  running = st.running;
  heard_run = st.heard_run;
  owed = st.owed;
  ended = st.ended;
  rounds = st.rounds;
  room = st.room;
  window = st.window;
  timer = st.timer;
  keepalive = st.keepalive;
  moments = moments_stay a.moments e (record e { half = record (e.half) { sessions = s } }) st.moments refl refl refl refl refl refl refl;
  link = st.link;
  sessions = is;
  calls = st.calls;
}

-- the moment since which there is no session
pub noted_stands : (a : Inside) (at : ℕ) (d e : End) → Stands (shown a) e
    → at ≡ cond (not (nat_eq (held d.half.sessions) 0) && nat_eq (held e.half.sessions) 0) a.moments.now a.moments.empty_at
    → Stands (shown (record a { moments = record (a.moments) { empty_at = at } })) (note_empty d (still e)).end
noted_stands a at d e st is = record {
  master = st.master;
  peer = st.peer;
  wide = st.wide;
  exists = st.exists;
  running = st.running;
  heard_run = st.heard_run;
  owed = st.owed;
  ended = st.ended;
  rounds = st.rounds;
  room = st.room;
  window = st.window;
  timer = st.timer;
  keepalive = st.keepalive;
  moments = record {
    now = st.moments.now;
    due_at = st.moments.due_at;
    heard_at = st.moments.heard_at;
    sent_at = st.moments.sent_at;
    since = st.moments.since;
    start_at = st.moments.start_at;
    empty_at =
        is
        ∙ ap (λ n. cond (not (nat_eq (held d.half.sessions) 0) && nat_eq (held e.half.sessions) 0) n a.moments.empty_at) st.moments.now
        ∙ ap (λ n. cond (not (nat_eq (held d.half.sessions) 0) && nat_eq (held e.half.sessions) 0) e.moment n) st.moments.empty_at;
  };
  link = st.link;
  sessions = st.sessions;
  calls = st.calls;
}

-- the circuit whose link has formed this message
abbrev pub formed : Inside → link.Kept → ℕ → Inside
formed a new since = record a { link = new; owed = false; moments = record (a.moments) { since = since; sent_at = a.moments.now } }

formed_stands : (a : Inside) (new : link.Kept) (since : ℕ) (e : End) (m : List Slot) → Stands (shown a) e → a.running ≡ true → link.Stands new (form_message e.half.link m)
    → new.ids ≡ a.link.ids → new.sending.span ≡ a.link.sending.span → new.sending.window ≡ a.link.sending.window
    → since ≡ cond (all_known e) e.moment e.since
    → Stands (shown (formed a new since)) (form_slots m e).end
formed_stands a new since e m st run is ids span window since_is = record {
  master = ap (λ i. i.master) ids ∙ st.master;
  peer = ap (λ i. i.to) ids ∙ st.peer;
  wide = ap is_wide span ∙ st.wide;
  exists = st.exists;
  running = st.running;
  heard_run = st.heard_run;
  owed = refl;
  ended = st.ended;
  rounds = st.rounds;
  room = st.room;
  window = ap (λ w. cond a.running w 0) window ∙ st.window;
  timer = st.timer;
  keepalive = st.keepalive;
  moments = record { now = st.moments.now; due_at = st.moments.due_at; heard_at = st.moments.heard_at; sent_at = st.moments.now; since = since_is; start_at = st.moments.start_at; empty_at = st.moments.empty_at };
  link = is;
  sessions = st.sessions;
  calls = λ h. absurd (true≢false (sym run ∙ st.running ∙ h));
}

pub formed_did : (a : Inside) (new : link.Kept) (since : ℕ) (text : List ℕ) (before after : List OutFrame) (e : End) (m : List Slot) → Stands (shown a) e → a.running ≡ true → link.Stands new (form_message e.half.link m)
    → new.ids ≡ a.link.ids → new.sending.span ≡ a.link.sending.span → new.sending.window ≡ a.link.sending.window
    → since ≡ cond (all_known e) e.moment e.since
    → text ≡ run_payload a.link.ids a.link.sending.span false (formed_frame e.half.link m)
    → after ≡ before ++ framed (formed a new since) text marks.Fresh ∷ []
    → AreFormed (shown a).facts (form_slots m e).sent
    → Stands (shown (formed a new since)) (form_slots m e).end × (after ≡ before ++ map (frame_sent (shown (formed a new since)).facts) (form_slots m e).sent) × AreFormed (shown (formed a new since)).facts (form_slots m e).sent
formed_did a new since text before after e m st run is ids span window since_is text_is out fair = (
  formed_stands a new since e m st run is ids span window since_is,
  out
      ∙ ap (λ t. before ++ framed (formed a new since) t marks.Fresh ∷ [])
      (text_is ∙ ap (λ i. run_payload i a.link.sending.span false (formed_frame e.half.link m)) (sym ids) ∙ ap (λ s. run_payload new.ids s false (formed_frame e.half.link m)) (sym span)),
  subst (λ s. AreFormed (record { config = a.config; id = new.ids.from; master = new.ids.master; peer = new.ids.to; wide = is_wide s }) (form_slots m e).sent) (sym span)
      (subst (λ i. AreFormed (record { config = a.config; id = i.from; master = i.master; peer = i.to; wide = is_wide a.link.sending.span }) (form_slots m e).sent) (sym ids) fair),
)

-- what the link tells of the window
pub window_is : (a : Inside) (b r : Bool) → a.running ≡ true → ((l : Link (List Slot)) → link.Stands a.link l → r ≡ window_open a.link.sending.window l) → r ≡ b → (e : End) → Stands (shown a) e → window_open e.window e.half.link ≡ b
window_is a b r run is was e st =
    ap (λ w. window_open w e.half.link) (sym st.window ∙ ap (λ x. cond x a.link.sending.window 0) run) ∙ sym (is e.half.link st.link) ∙ was

-- an occasion at which nothing is packed
pub idle_did : (a : Inside) (new : Table) (count : ℕ) (l : Kept) (before after : List OutFrame) → ((e : End) → Stands (shown a) e → window_open e.window e.half.link ≡ true)
    → ((s : Sessions) → sessions.Stands a.sessions s → sessions.Stands new (pack a.room s).after)
    → ((s : Sessions) → sessions.Stands a.sessions s → count ≡ length (pack a.room s).slots)
    → count ≡ 0
    → Simulates acknowledge (shown (record a { sessions = new })) l before after
    → Simulates occasion (shown a) l before after
idle_did a new count l before after wide packs counts none did = λ e st.
    let p : Packing = pack a.room e.half.sessions in
    let empty : is_empty p.slots ≡ true = none_empty p.slots (sym (counts e.half.sessions st.sessions) ∙ none) in
    let same : p.after ≡ e.half.sessions = pack_idle a.room e.half.sessions empty in
    let stays : sessions.Stands new e.half.sessions = subst (λ s. sessions.Stands new s) same (packs e.half.sessions st.sessions) in
    let P : Step → Type 0 = λ s. Stands l s.end × (after ≡ before ++ map (frame_sent l.facts) s.sent) × AreFormed l.facts s.sent in
    subst P
    (sym (
    ap (λ b. cond b (form_packed (pack e.room e.half.sessions) e) (acknowledge e)) (wide e st)
    ∙ ap (λ r. form_packed (pack r e.half.sessions) e) (sym st.room)
    ∙ ap (λ b. cond b (acknowledge e) (send_message p e)) empty
    ))
    (did e (with_sessions a new e e.half.sessions st stays))

-- an occasion at which a message is formed
pub busy_did : (a : Inside) (new : Table) (count : ℕ) (l : Kept) (before after : List OutFrame) → ((e : End) → Stands (shown a) e → window_open e.window e.half.link ≡ true)
    → ((s : Sessions) → sessions.Stands a.sessions s → sessions.Stands new (pack a.room s).after)
    → ((s : Sessions) → sessions.Stands a.sessions s → count ≡ length (pack a.room s).slots)
    → (count ≡ 0 → ⊥)
    → ((e : End) → Stands (shown a) e → Stands (shown (record a { sessions = new })) (record e { half = record (e.half) { sessions = (pack a.room e.half.sessions).after } }) →
    Stands l (form_slots (wire_of (pack a.room e.half.sessions).slots) (record e { half = record (e.half) { sessions = (pack a.room e.half.sessions).after } })).end
    × (after ≡ before ++ map (frame_sent l.facts) (form_slots (wire_of (pack a.room e.half.sessions).slots) e).sent)
    × AreFormed l.facts (form_slots (wire_of (pack a.room e.half.sessions).slots) e).sent)
    → Simulates occasion (shown a) l before after
busy_did a new count l before after wide packs counts some did = λ e st.
    let p : Packing = pack a.room e.half.sessions in
    let full : is_empty p.slots ≡ false = some_empty p.slots (λ n. some (counts e.half.sessions st.sessions ∙ n)) in
    let P : Step → Type 0 = λ s. Stands l s.end × (after ≡ before ++ map (frame_sent l.facts) s.sent) × AreFormed l.facts s.sent in
    subst P
    (sym (
    ap (λ b. cond b (form_packed (pack e.room e.half.sessions) e) (acknowledge e)) (wide e st)
    ∙ ap (λ r. form_packed (pack r e.half.sessions) e) (sym st.room)
    ∙ ap (λ b. cond b (acknowledge e) (send_message p e)) full
    ))
    (did e st (with_sessions a new e p.after st (packs e.half.sessions st.sessions)))
