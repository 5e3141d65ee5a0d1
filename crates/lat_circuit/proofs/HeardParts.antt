-- The parts in which a RUN is heard, one after the other.
use Rattle.std.proofs.Common.{◌≡◌, ℕ, suc, Bool, true, false, cond, ◌&&◌, ◌||◌, nat_eq, List, [], ◌∷◌, ◌++◌, length, map, append-nil, Option, None, Some, Result, Ok, Err, refl, sym, ap, subst, ◌∙◌, arith}
use Rattle.std.proofs.lemmas.Bool.{true≢false}
use Rattle.lat_base.specs.declared.heard.Heard.{Heard as OwnHeard}
use Rattle.lat_base.specs.declared.heard.Heard.TheVariants as answers
use Rattle.lat_base.specs.declared.outbox.OutFrame.{OutFrame}
use Rattle.lat_model.specs.numbers.Link.{is_unsent, is_next, take_message}
use Rattle.lat_model.specs.sessions.Slots as model
use Rattle.lat_model.specs.sessions.Hearing.{HeardAll, hear_all}
use Rattle.lat_model.specs.ends.End.{End, still, finish}
use Rattle.lat_model.specs.ends.Run.{ack_end, run_end}
use Rattle.lat_model.specs.Reasons.{broken}
use Rattle.lat_machines.specs.values.Messages.{Head}
use Rattle.lat_machines.specs.values.Answers.{Heard, Taken, Again, AckOnly, Foreign, Broke}
use Rattle.lat_machines.specs.cores.Hearing.{fits_kind, numbers_at, run_frame}
use Rattle.lat_slots.specs.declared.slot.Slot.{Slot}
use Rattle.lat_stream.specs.Wire.{slot_heard}
use Rattle.lat_circuit.specs.Links as link
use Rattle.lat_circuit.specs.Payloads.{is_wide}
use Rattle.lat_session.specs.Stands as sessions
use Rattle.lat_session.specs.Table.{Table}
use Rattle.lat_circuit.specs.declared.circuit.Circuit.TheInside.{Inside}
use Rattle.lat_circuit.specs.Kept.{Kept}
use Rattle.lat_circuit.specs.Shown.{shown}
use Rattle.lat_circuit.specs.Frames.{AreFormed, frame_sent}
use Rattle.lat_circuit.specs.Stands.{Stands, Simulates}
use Rattle.lat_circuit.specs.Hears.{HeardStep, foreign, hears_named, hears_run, heard_shown, SimulatesHearing}
use Rattle.lat_circuit.specs.Applies.{number_heard, ack_heard, Applied, apply_slots, apply_body, apply, slave_occasion, applied_step, some_answer, Applies}
use Rattle.lat_circuit.proofs.Sends.{with_sessions}
use Rattle.lat_circuit.proofs.HeardStarts.{hear_as, hear_true, hear_false, given, given_stands}
use Rattle.lat_circuit.proofs.HeardRun.{answered, hearing, run_is, number_same}

-- the slots

pub slots_bad : {E : Type 0} (a : Inside) (t : Table) (slots : List model.Slot) (r : Result OwnHeard E) (e : End) → Stands (shown a) e
    → sessions.Stands t (hear_all slots e.half.sessions).after
    → (hear_all slots e.half.sessions).good ≡ false
    → some_answer r ≡ None
    → Stands (shown (record a { sessions = t })) (apply_slots slots e).end × (some_answer r ≡ (apply_slots slots e).answer)
slots_bad a t slots r e st here bad none =
    let h : HeardAll = hear_all slots e.half.sessions in
    let P : Applied → Type 0 = λ x. Stands (shown (record a { sessions = t })) x.end × (some_answer r ≡ x.answer) in
    subst (λ b. P (cond b
    (record {
      end = record e { half = record { link = take_message e.half.link slots; sessions = h.after }; owed = true };
      answer = Some (Taken (length slots));
    })
    (record { end = record e { half = record (e.half) { sessions = h.after } }; answer = None }))) (sym bad)
    (with_sessions a t e h.after st here, none)

length_heard : (slots : List Slot) → length (map slot_heard slots) ≡ length slots
length_heard [] = refl
length_heard (x ∷ xs) = ap suc (length_heard xs)

-- the circuit that took a message
abbrev pub took : Inside → link.Kept → Table → Inside
took a l t = record a { link = l; sessions = t; owed = true }

pub slots_good : (a : Inside) (l : link.Kept) (t : Table) (slots : List Slot) (e : End) → Stands (shown a) e → a.running ≡ true
    → l.ids ≡ a.link.ids
    → l.sending ≡ a.link.sending
    → link.Stands l (take_message e.half.link (map slot_heard slots))
    → sessions.Stands t (hear_all (map slot_heard slots) e.half.sessions).after
    → (hear_all (map slot_heard slots) e.half.sessions).good ≡ true
    → Stands (shown (took a l t)) (apply_slots (map slot_heard slots) e).end × (Some (Taken (length slots)) ≡ (apply_slots (map slot_heard slots) e).answer)
slots_good a l t slots e st run ids sending took_it here good =
    let h : HeardAll = hear_all (map slot_heard slots) e.half.sessions in
    let P : Applied → Type 0 = λ x. Stands (shown (took a l t)) x.end × (Some (Taken (length slots)) ≡ x.answer) in
    subst (λ b. P (cond b
    (record {
      end = record e { half = record { link = take_message e.half.link (map slot_heard slots); sessions = h.after }; owed = true };
      answer = Some (Taken (length (map slot_heard slots)));
    })
    (record { end = record e { half = record (e.half) { sessions = h.after } }; answer = None }))) (sym good) (
      record {
        master = ap (λ i. i.master) ids ∙ st.master;
        peer = ap (λ i. i.to) ids ∙ st.peer;
        wide = ap (λ s. is_wide s.span) sending ∙ st.wide;
        exists = st.exists;
        running = st.running;
        heard_run = st.heard_run;
        owed = refl;
        ended = st.ended;
        rounds = st.rounds;
        room = st.room;
        window = ap (λ s. cond a.running s.window 0) sending ∙ st.window;
        timer = st.timer;
        keepalive = st.keepalive;
        moments = record { now = st.moments.now; due_at = st.moments.due_at; heard_at = st.moments.heard_at; sent_at = st.moments.sent_at; since = st.moments.since; start_at = st.moments.start_at; empty_at = st.moments.empty_at };
        link = took_it;
        sessions = here;
        calls = λ h. absurd (true≢false (sym run ∙ st.running ∙ h));
      },
      ap (λ n. Some (Taken n)) (sym (length_heard slots)),
    )

-- the body

-- an acknowledgement is owed
pub owing : (a : Inside) (b : Bool) (c : Bool) (e : End) → Stands (shown a) e → b ≡ c → Stands (shown (record a { owed = b })) (record e { owed = c })
owing a b c e st is = record {
  master = st.master;
  peer = st.peer;
  wide = st.wide;
  exists = st.exists;
  running = st.running;
  heard_run = st.heard_run;
  owed = is;
  ended = st.ended;
  rounds = st.rounds;
  room = st.room;
  window = st.window;
  timer = st.timer;
  keepalive = st.keepalive;
  moments = record { now = st.moments.now; due_at = st.moments.due_at; heard_at = st.moments.heard_at; sent_at = st.moments.sent_at; since = st.moments.since; start_at = st.moments.start_at; empty_at = st.moments.empty_at };
  link = st.link;
  sessions = st.sessions;
  calls = st.calls;
}

none_told : (slots : List Slot) → length slots ≡ 0 → map slot_heard slots ≡ []
none_told [] is = refl
none_told (x ∷ xs) is = absurd (omega (arith, is))

pub body_none : (a : Inside) (n : ℕ) (ask b : Bool) (slots : List Slot) (e : End) → Stands (shown a) e → length slots ≡ 0 → b ≡ (a.owed || ask)
    → Stands (shown (record a { owed = b })) (apply_body n ask (map slot_heard slots) e).end × (Some AckOnly ≡ (apply_body n ask (map slot_heard slots) e).answer)
body_none a n ask b slots e st none is =
    subst (λ z. Stands (shown (record a { owed = b })) (apply_body n ask z e).end × (Some AckOnly ≡ (apply_body n ask z e).answer)) (sym (none_told slots none))
    (owing a b (e.owed || ask) e st (is ∙ ap (λ z. z || ask) st.owed), refl)

-- where there are slots
body_some : (slots : List Slot) (n : ℕ) (ask : Bool) (e : End) → (length slots ≡ 0 → ⊥)
    → apply_body n ask (map slot_heard slots) e ≡ cond (is_next e.half.link n) (apply_slots (map slot_heard slots) e) (record { end = record e { owed = true }; answer = Some Again })
body_some [] n ask e some = absurd (some refl)
body_some (x ∷ xs) n ask e some = refl

pub body_again : (a : Inside) (n : ℕ) (ask : Bool) (slots : List Slot) (e : End) → Stands (shown a) e → (length slots ≡ 0 → ⊥) → is_next e.half.link n ≡ false
    → Stands (shown (record a { owed = true })) (apply_body n ask (map slot_heard slots) e).end × (Some Again ≡ (apply_body n ask (map slot_heard slots) e).answer)
body_again a n ask slots e st some other =
    let P : Applied → Type 0 = λ x. Stands (shown (record a { owed = true })) x.end × (Some Again ≡ x.answer) in
    subst P (sym (body_some slots n ask e some ∙ ap (λ b. cond b (apply_slots (map slot_heard slots) e) (record { end = record e { owed = true }; answer = Some Again })) other))
    (owing a true true e st refl, refl)

pub body_takes : {E : Type 0} (n : ℕ) (ask : Bool) (slots : List Slot) (r : Result OwnHeard E) (l : Kept) (e : End) → (length slots ≡ 0 → ⊥) → is_next e.half.link n ≡ true
    → Stands l (apply_slots (map slot_heard slots) e).end × (some_answer r ≡ (apply_slots (map slot_heard slots) e).answer)
    → Stands l (apply_body n ask (map slot_heard slots) e).end × (some_answer r ≡ (apply_body n ask (map slot_heard slots) e).answer)
body_takes n ask slots r l e some next takes =
    let P : Applied → Type 0 = λ x. Stands l x.end × (some_answer r ≡ x.answer) in
    subst P (sym (body_some slots n ask e some ∙ ap (λ b. cond b (apply_slots (map slot_heard slots) e) (record { end = record e { owed = true }; answer = Some Again })) next)) takes

-- the whole

pub unsent_applies : {E : Type 0} (h : Head) (slots : List model.Slot) (r : Result OwnHeard E) (k l : Kept) → some_answer r ≡ None → l ≡ k
    → ((e : End) → Stands k e → is_unsent e.half.link (ack_heard h.ack e) ≡ true)
    → Applies (apply h slots) r k l
unsent_applies h slots r k l none same is = λ e st.
    let P : Applied → Type 0 = λ x. Stands l x.end × (some_answer r ≡ x.answer) in
    subst (λ b. P (cond b (record { end = e; answer = None }) (apply_body (number_heard h.seq e) h.ask slots (ack_end (ack_heard h.ack e) e)))) (sym (is e st))
    (subst (λ z. Stands z e) (sym same) st, none)

pub then_applies : {E : Type 0} (h : Head) (slots : List model.Slot) (r : Result OwnHeard E) (k m l : Kept)
    → ((e : End) → Stands k e → is_unsent e.half.link (ack_heard h.ack e) ≡ false)
    → ((e : End) → Stands k e → is_unsent e.half.link (ack_heard h.ack e) ≡ false → Stands m (ack_end (ack_heard h.ack e) e))
    → Applies (λ e. apply_body (number_heard h.seq e) h.ask slots e) r m l
    → Applies (apply h slots) r k l
then_applies h slots r k m l is state body = λ e st.
    let P : Applied → Type 0 = λ x. Stands l x.end × (some_answer r ≡ x.answer) in
    let d : End = ack_end (ack_heard h.ack e) e in
    subst (λ b. P (cond b (record { end = e; answer = None }) (apply_body (number_heard h.seq e) h.ask slots d))) (sym (is e st)) (
    subst (λ n. P (apply_body n h.ask slots d)) (number_same h.seq (ack_heard h.ack e) e) (body d (state e st (is e st)))
    )

abbrev step_of : (e : End) (o : Option Heard) → HeardStep
step_of e o = elim o [ None ↦ record { step = finish broken e; answer = Broke broken } | Some answer ↦ record { step = slave_occasion e; answer = answer } ]

pub applied_ok : {E : Type 0} (f : End → Applied) (r : Result OwnHeard E) (answer : OwnHeard) (k m l : Kept) (o p : List OutFrame) → r ≡ Ok answer
    → Applies f r k m → Simulates slave_occasion m l o p → SimulatesHearing (λ e. applied_step (f e)) answer k l o p
applied_ok f r answer k m l o p is a did = λ e st.
    let x = a e st in
    let y = did (f e).end x.0 in
    let P : HeardStep → Type 0 = λ s. Stands l s.step.end × (p ≡ o ++ map (frame_sent l.facts) s.step.sent) × (heard_shown answer ≡ s.answer) × AreFormed l.facts s.step.sent in
    subst P (ap (λ z. step_of (f e).end z) (ap some_answer (sym is) ∙ x.1)) (y.0, y.1, refl, y.2)

pub applied_err : {E : Type 0} (f : End → Applied) (r : Result OwnHeard E) (b : E) (k m l : Kept) (o p : List OutFrame) → r ≡ Err b
    → Applies f r k m → Simulates (finish broken) m l o p → SimulatesHearing (λ e. applied_step (f e)) (answers.Broke broken) k l o p
applied_err f r b k m l o p is a did = λ e st.
    let x = a e st in
    let y = did (f e).end x.0 in
    let P : HeardStep → Type 0 = λ s. Stands l s.step.end × (p ≡ o ++ map (frame_sent l.facts) s.step.sent) × (Broke broken ≡ s.answer) × AreFormed l.facts s.step.sent in
    subst P (ap (λ z. step_of (f e).end z) (ap some_answer (sym is) ∙ x.1)) (y.0, y.1, refl, y.2)

-- which RUNs belong to the circuit

abbrev pub is_named : ℕ → Head → End → Bool
is_named own h e = nat_eq h.to own && (nat_eq h.from e.peer && e.running)

pub run_foreign : (own now : ℕ) (wide : Bool) (h : Head) (slots : List model.Slot) (k : Kept) (o : List OutFrame)
    → ((e : End) → Stands k e → is_named own h e ≡ false)
    → SimulatesHearing (hears_run own now wide h slots) answers.Foreign k k o o
run_foreign own now wide h slots k o is =
    hear_false (is_named own h) (hears_named now wide h slots) foreign answers.Foreign k k o o is (λ e st. (st, sym (append-nil o), refl, tt))

pub run_unfit : (own now : ℕ) (wide : Bool) (h : Head) (slots : List model.Slot) (a : Inside) (o : List OutFrame)
    → ((e : End) → Stands (shown a) e → is_named own h e ≡ true)
    → ((e : End) → Stands (shown (given a now)) e → fits_kind e h.master wide ≡ false)
    → SimulatesHearing (hears_run own now wide h slots) answers.Foreign (shown a) (shown (given a now)) o o
run_unfit own now wide h slots a o is unfit =
    hear_true (is_named own h) (hears_named now wide h slots) foreign answers.Foreign (shown a) (shown (given a now)) o o is
    (hear_false (λ e. fits_kind e h.master wide)
    (λ e. answered (run_end now h.ask (run_frame (numbers_at e h None) slots) e))
    (λ e. record { step = still (record e { moment = now }); answer = Foreign })
    answers.Foreign (shown a) (shown (given a now)) o o
    (λ e st. unfit (record e { moment = now }) (given_stands a now e st))
    (λ e st. (given_stands a now e st, sym (append-nil o), refl, tt)))

-- the circuit that hears a RUN
abbrev pub hearing_at : Inside → ℕ → Inside
hearing_at a now = record a { heard_run = true; moments = record (a.moments) { now = now; heard_at = now } }

hearing_stands : (a : Inside) (now : ℕ) (e : End) → Stands (shown a) e → Stands (shown (hearing_at a now)) (hearing now e)
hearing_stands a now e st = record {
  master = st.master;
  peer = st.peer;
  wide = st.wide;
  exists = st.exists;
  running = st.running;
  heard_run = refl;
  owed = st.owed;
  ended = st.ended;
  rounds = st.rounds;
  room = st.room;
  window = st.window;
  timer = st.timer;
  keepalive = st.keepalive;
  moments = record { now = refl; due_at = st.moments.due_at; heard_at = refl; sent_at = st.moments.sent_at; since = st.moments.since; start_at = st.moments.start_at; empty_at = st.moments.empty_at };
  link = st.link;
  sessions = st.sessions;
  calls = st.calls;
}

pub run_fits : (own now : ℕ) (wide : Bool) (h : Head) (slots : List model.Slot) (r : OwnHeard) (a : Inside) (l : Kept) (o p : List OutFrame)
    → ((e : End) → Stands (shown a) e → is_named own h e ≡ true)
    → ((e : End) → Stands (shown (given a now)) e → fits_kind e h.master wide ≡ true)
    → SimulatesHearing (λ e. applied_step (apply h slots e)) r (shown (hearing_at a now)) l o p
    → SimulatesHearing (hears_run own now wide h slots) r (shown a) l o p
run_fits own now wide h slots r a l o p is fits did =
    hear_true (is_named own h) (hears_named now wide h slots) foreign r (shown a) l o p is
    (hear_true (λ e. fits_kind e h.master wide)
    (λ e. answered (run_end now h.ask (run_frame (numbers_at e h None) slots) e))
    (λ e. record { step = still (record e { moment = now }); answer = Foreign })
    r (shown a) l o p
    (λ e st. fits (record e { moment = now }) (given_stands a now e st))
    (hear_as (λ e. applied_step (apply h slots (hearing now e)))
    (λ e. answered (run_end now h.ask (run_frame (numbers_at e h None) slots) e))
    r (shown a) l o p
    (λ e st. did (hearing now e) (hearing_stands a now e st))
    (λ e st. run_is now h slots e)))
