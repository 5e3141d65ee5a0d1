-- What an end does at a RUN, over the fields of a circuit.
use Rattle.std.proofs.Common.{◌≡◌, ℕ, suc, ◌+◌, ◌*◌, ◌<◌, Bool, true, false, cond, nat_lt, List, [], ◌∷◌, length, map, drop, get_or, drop-cons, append-nil, Option, None, Some, Result, Ok, Err, OnErr, is_err, refl, sym, ap, subst, ◌∙◌, arith}
use Rattle.std.proofs.lemmas.Bool.{true≢false, false≢true}
use Rattle.std.proofs.Math.Seq.{drop-length}
use Rattle.lat_model.specs.Lists.{is_empty}
use Rattle.lat_model.specs.numbers.Link.{is_unsent, is_next, ack_in}
use Rattle.lat_model.specs.sessions.Slots as model
use Rattle.lat_model.specs.sessions.Sessions.{Sessions}
use Rattle.lat_model.specs.sessions.Hearing.{HeardAll, hear_all, hear_slot}
use Rattle.lat_model.specs.ends.End.{End, Step, finish}
use Rattle.lat_model.specs.ends.Run.{RunStep, ack_end, body_end, take_end, broken_end, taken_end, after_run, run_end}
use Rattle.lat_machines.specs.cores.Hearing.{answer_of, numbers_at, run_frame}
use Rattle.lat_machines.specs.values.Messages.{Head}
use Rattle.lat_machines.specs.values.Answers.{Broke}
use Rattle.lat_slots.specs.declared.slot.Slot.{Slot}
use Rattle.lat_stream.specs.Wire.{slot_heard}
use Rattle.lat_session.specs.Hears.{Hears}
use Rattle.lat_session.specs.Stands as sessions
use Rattle.lat_session.specs.Table.{Table}
use Rattle.lat_model.specs.numbers.Near.{near}
use Rattle.lat_model.specs.Reasons.{broken}
use Rattle.lat_machines.specs.values.Timing.{half_range}
use Rattle.lat_seq.specs.Acks.{by_numbers}
use Rattle.lat_seq.specs.Spans.{half}
use Rattle.lat_seq.specs.declared.sending.AckFact.{AckFact}
use Rattle.lat_seq.specs.declared.sending.AckFact.TheVariants.{New, Old, Unsent}
use Rattle.lat_seq.specs.declared.span.Span.{Span}
use Rattle.lat_seq.specs.declared.span.Span.TheVariants.{Byte, Word}
use Rattle.lat_circuit.specs.Links as link
use Rattle.lat_circuit.specs.Payloads.{is_wide}
use Rattle.lat_circuit.specs.declared.circuit.Circuit.TheInside.{Inside}
use Rattle.lat_circuit.specs.Shown.{shown}
use Rattle.lat_circuit.specs.Stands.{Stands}
use Rattle.lat_circuit.specs.Hears.{HeardStep}
use Rattle.lat_circuit.specs.Applies.{number_heard, ack_heard, Applied, apply_slots, apply_body, apply, applied_step}

-- a RUN of the circuit is heard in these parts

abbrev pub answered : RunStep → HeardStep
answered r = record { step = r.step; answer = answer_of r.answer }

cond_is : (b : Bool) (x y : RunStep) (p q : Applied) → answered x ≡ applied_step p → answered y ≡ applied_step q → answered (cond b x y) ≡ applied_step (cond b p q)
cond_is true x y p q l r = l
cond_is false x y p q l r = r

after_is : (b : Bool) (x y : RunStep) (p q : Applied) → answered (after_run x) ≡ applied_step p → answered (after_run y) ≡ applied_step q → answered (after_run (cond b x y)) ≡ applied_step (cond b p q)
after_is true x y p q l r = l
after_is false x y p q l r = r

broken_is : (s : Sessions) (e : End) → answered (after_run (broken_end s e)) ≡ applied_step (record { end = record e { half = record (e.half) { sessions = s } }; answer = None })
broken_is s e =
    let f : Step = finish broken (record e { half = record (e.half) { sessions = s } }) in
    ap (λ z. record { step = record { end = f.end; sent = z }; answer = Broke broken }) (append-nil f.sent)

slots_are : (slots : List model.Slot) (e : End) → answered (after_run (take_end slots e)) ≡ applied_step (apply_slots slots e)
slots_are slots e =
    let h : HeardAll = hear_all slots e.half.sessions in
    after_is h.good (taken_end slots h.after e) (broken_end h.after e) _ _ refl (broken_is h.after e)

body_is : (n : ℕ) (ask : Bool) (slots : List model.Slot) (e : End) → answered (after_run (body_end n ask (cond (is_empty slots) None (Some slots)) e)) ≡ applied_step (apply_body n ask slots e)
body_is n ask [] e = refl
body_is n ask (x ∷ xs) e = after_is (is_next e.half.link n) (take_end (x ∷ xs) e) _ _ _ (slots_are (x ∷ xs) e) refl

-- the end that hears a RUN
abbrev pub hearing : ℕ → End → End
hearing now e = record e { moment = now; heard_at = now; heard_run = true }

pub run_is : (now : ℕ) (h : Head) (slots : List model.Slot) (e : End) → answered (run_end now h.ask (run_frame (numbers_at e h None) slots) e) ≡ applied_step (apply h slots (hearing now e))
run_is now h slots e =
    let d : End = hearing now e in
    let a : ℕ = ack_heard h.ack d in
    cond_is (is_unsent d.half.link a) _ (after_run (body_end (number_heard h.seq d) h.ask (cond (is_empty slots) None (Some slots)) (ack_end a d)))
    (record { end = d; answer = None }) (apply_body (number_heard h.seq d) h.ask slots (ack_end a d)) refl (body_is (number_heard h.seq d) h.ask slots (ack_end a d))

cond_both : (P : End → Type 0) (b : Bool) (x y : End) → P x → P y → P (cond b x y)
cond_both P true x y p q = p
cond_both P false x y p q = q

pub number_same : (seq a : ℕ) (e : End) → number_heard seq (ack_end a e) ≡ number_heard seq e
number_same seq a e = cond_both (λ d. number_heard seq d ≡ number_heard seq e) (nat_lt e.half.link.known a) _ _ refl refl

-- the slots of a message

-- so far the slots were good, and the table stands for what they made
abbrev pub SoFar : (old : Table) → List Slot → ℕ → Table → Type 0
SoFar old slots i new =
    (e : Sessions) → sessions.Stands old e → (f : Sessions) × sessions.Stands new f × (hear_all (map slot_heard slots) e ≡ hear_all (map slot_heard (drop i slots)) f)

-- the next slot
next_is : (slots : List Slot) (i : ℕ) (x : Slot) → i < length slots → x ≡ get_or slots i x → drop i slots ≡ x ∷ drop (suc i) slots
next_is slots i x lt is = drop-cons slots i x lt ∙ ap (λ z. z ∷ drop (suc i) slots) (sym is)

good_slot : {A E : Type 0} (o : Option Sessions) (y : model.Slot) (rest : List model.Slot) (f : Sessions) (r : Result A E) (l : Table) → hear_slot f y ≡ o → Hears l r o → is_err r ≡ false
    → (g : Sessions) × sessions.Stands l g × (hear_all (y ∷ rest) f ≡ hear_all rest g)
good_slot None y rest f (Err b) l is hears ok = absurd (true≢false ok)
good_slot None y rest f (Ok u) l is hears ok = absurd (true≢false hears.answer)
good_slot (Some g) y rest f (Ok u) l is hears ok = (g, hears.state g refl, ap (λ (o : Option Sessions). elim o [ None ↦ record { after = f; good = false } | Some h ↦ hear_all rest h ]) is)
good_slot (Some g) y rest f (Err b) l is hears ok = absurd (false≢true hears.answer)

bad_slot : {A E : Type 0} (o : Option Sessions) (y : model.Slot) (rest : List model.Slot) (f : Sessions) (r : Result A E) (k l : Table) → hear_slot f y ≡ o → Hears l r o → OnErr r (l ≡ k) → is_err r ≡ true
    → (l ≡ k) × (hear_all (y ∷ rest) f ≡ record { after = f; good = false })
bad_slot None y rest f (Err b) k l is hears same bad = (same, ap (λ (o : Option Sessions). elim o [ None ↦ record { after = f; good = false } | Some h ↦ hear_all rest h ]) is)
bad_slot None y rest f (Ok u) k l is hears same bad = absurd (true≢false hears.answer)
bad_slot (Some g) y rest f (Ok u) k l is hears same bad = absurd (false≢true bad)
bad_slot (Some g) y rest f (Err b) k l is hears same bad = absurd (false≢true hears.answer)

pub so_far_more : {A E : Type 0} (old k l : Table) (slots : List Slot) (i : ℕ) (x : Slot) (r : Result A E) → i < length slots → x ≡ get_or slots i x → is_err r ≡ false
    → ((e : Sessions) → sessions.Stands k e → Hears l r (hear_slot e (slot_heard x)))
    → SoFar old slots i k → SoFar old slots (i + 1) l
so_far_more old k l slots i x r lt is ok hears so_far = λ e st.
    let s = so_far e st in
    let f = s.0 in
    let one : suc i ≡ i + 1 = omega arith in
    let y = good_slot (hear_slot f (slot_heard x)) (slot_heard x) (map slot_heard (drop (suc i) slots)) f r l refl (hears f s.1) ok in (
      y.0,
      y.1,
      s.2 ∙ ap (λ z. hear_all (map slot_heard z) f) (next_is slots i x lt is) ∙ y.2 ∙ ap (λ n. hear_all (map slot_heard (drop n slots)) y.0) one,
    )

-- what the slots made, and whether they were good
pub record HeardSlots (old new : Table) (slots : List Slot) (good : Bool) : Type 0 where
  pub state : (e : Sessions) → sessions.Stands old e → sessions.Stands new (hear_all (map slot_heard slots) e).after
  pub answer : (e : Sessions) → sessions.Stands old e → good ≡ (hear_all (map slot_heard slots) e).good

pub so_far_bad : {A E : Type 0} (old k l : Table) (slots : List Slot) (i : ℕ) (x : Slot) (r : Result A E) → i < length slots → x ≡ get_or slots i x → is_err r ≡ true
    → ((e : Sessions) → sessions.Stands k e → Hears l r (hear_slot e (slot_heard x)))
    → OnErr r (l ≡ k)
    → SoFar old slots i k → HeardSlots old l slots false
so_far_bad old k l slots i x r lt is bad hears same so_far =
    let at : (e : Sessions) → sessions.Stands old e → (f : Sessions) × sessions.Stands l f × (hear_all (map slot_heard slots) e ≡ record { after = f; good = false }) =
    (λ e st.
    let s = so_far e st in
    let f = s.0 in
    let y = bad_slot (hear_slot f (slot_heard x)) (slot_heard x) (map slot_heard (drop (suc i) slots)) f r k l refl (hears f s.1) same bad in
    (f, subst (λ z. sessions.Stands z f) (sym y.0) s.1, s.2 ∙ ap (λ z. hear_all (map slot_heard z) f) (next_is slots i x lt is) ∙ y.1)) in
    record {
      state = λ e st. let y = at e st in subst (λ (z : HeardAll). sessions.Stands l z.after) (sym y.2) y.1;
      answer = λ e st. let y = at e st in ap (λ (z : HeardAll). z.good) (sym y.2);
    }

drop_all : {X : Type 0} (xs : List X) (i : ℕ) → i ≡ length xs → drop i xs ≡ []
drop_all {X} xs i is = ap (λ n. drop n xs) is ∙ drop-length xs

pub so_far_all : (old new : Table) (slots : List Slot) (i : ℕ) → i ≡ length slots → SoFar old slots i new → HeardSlots old new slots true
so_far_all old new slots i all so_far =
    let at : (e : Sessions) → sessions.Stands old e → (f : Sessions) × sessions.Stands new f × (hear_all (map slot_heard slots) e ≡ record { after = f; good = true }) =
    (λ e st. let s = so_far e st in (s.0, s.1, s.2 ∙ ap (λ z. hear_all (map slot_heard z) s.0) (drop_all slots i all))) in
    record {
      state = λ e st. let y = at e st in subst (λ (z : HeardAll). sessions.Stands new z.after) (sym y.2) y.1;
      answer = λ e st. let y = at e st in ap (λ (z : HeardAll). z.good) (sym y.2);
    }

-- the acknowledgement, over the fields of a circuit

half_is : (s : Span) → half_range (is_wide s) ≡ half s
half_is Byte = refl
half_is Word = refl

pub half_at : (a : Inside) (e : End) → Stands (shown a) e → half a.link.sending.span ≡ half_range e.wide
half_at a e st = sym (half_is a.link.sending.span) ∙ ap half_range st.wide

-- a field of a RUN of the circuit's kind
pub field_at : (wide : Bool) (n h : ℕ) → half_range wide ≡ h → n < 65536 → (wide ≡ false → n < 256) → n < 2 * h
field_at true n h is most small = omega (arith, is, most)
field_at false n h is most small = omega (arith, is, small refl)

old_is : (b c : Bool) (d : ℕ) → Old ≡ cond b Unsent (cond c (New d) Old) → c ≡ false
old_is true c d is = absurd (old≢unsent is)
  where
    old≢unsent : Old ≡ Unsent → ⊥
    old≢unsent e = cc
old_is false true d is = absurd (old≢new is)
  where
    old≢new : Old ≡ New d → ⊥
    old≢new e = cc
old_is false false d is = refl

new_is : (b c : Bool) (d n : ℕ) → New n ≡ cond b Unsent (cond c (New d) Old) → c ≡ true
new_is true c d n is = absurd (new≢unsent is)
  where
    new≢unsent : New n ≡ Unsent → ⊥
    new≢unsent e = cc
new_is false true d n is = refl
new_is false false d n is = absurd (new≢old is)
  where
    new≢old : New n ≡ Old → ⊥
    new≢old e = cc

pub unsent_is : (b c : Bool) (d : ℕ) → Unsent ≡ cond b Unsent (cond c (New d) Old) → b ≡ true
unsent_is true c d is = refl
unsent_is false true d is = absurd (unsent≢new is)
  where
    unsent≢new : Unsent ≡ New d → ⊥
    unsent≢new e = cc
unsent_is false false d is = absurd (unsent≢old is)
  where
    unsent≢old : Unsent ≡ Old → ⊥
    unsent≢old e = cc

-- what the link told of an acknowledgement, and what it is now
pub record Acked (a : Inside) (l : link.Kept) (ack : ℕ) (r : AckFact) (e : End) : Type 0 where
  pub stands : Stands (shown a) e
  pub run : a.running ≡ true
  pub ids : l.ids ≡ a.link.ids
  pub span : l.sending.span ≡ a.link.sending.span
  pub window : l.sending.window ≡ a.link.sending.window
  pub answer : r ≡ by_numbers (length e.half.link.sent) e.half.link.known (near ack e.half.link.known (half a.link.sending.span))
  pub state : is_unsent e.half.link (near ack e.half.link.known (half a.link.sending.span)) ≡ false → link.Stands l (ack_in e.half.link (near ack e.half.link.known (half a.link.sending.span)))
  pub sent : is_unsent e.half.link (ack_heard ack e) ≡ false

answer_at : (a : Inside) (l : link.Kept) (ack : ℕ) (r : AckFact) (e : End) → Acked a l ack r e → r ≡ by_numbers (length e.half.link.sent) e.half.link.known (ack_heard ack e)
answer_at a l ack r e c = c.answer ∙ ap (λ h. by_numbers (length e.half.link.sent) e.half.link.known (near ack e.half.link.known h)) (half_at a e c.stands)

link_at : (a : Inside) (l : link.Kept) (ack : ℕ) (r : AckFact) (e : End) → Acked a l ack r e → link.Stands l (ack_in e.half.link (ack_heard ack e))
link_at a l ack r e c =
    let P : ℕ → Type 0 = λ h. is_unsent e.half.link (near ack e.half.link.known h) ≡ false → link.Stands l (ack_in e.half.link (near ack e.half.link.known h)) in
    subst P (half_at a e c.stands) c.state c.sent

pub acked_old : (a : Inside) (l : link.Kept) (ack : ℕ) (r : AckFact) (e : End) → Acked a l ack r e → r ≡ Old → Stands (shown (record a { link = l })) (ack_end (ack_heard ack e) e)
acked_old a l ack r e c is =
    let n : ℕ = ack_heard ack e in
    let here : link.Stands l (ack_in e.half.link n) = link_at a l ack r e c in
    let st = c.stands in
    let test : nat_lt e.half.link.known n ≡ false = old_is _ _ _ (sym is ∙ answer_at a l ack r e c) in
    subst (λ b. Stands (shown (record a { link = l })) (cond b
    (record e { half = record (e.half) { link = ack_in e.half.link n }; rounds = 0; since = e.moment })
    (record e { half = record (e.half) { link = ack_in e.half.link n } }))) (sym test) (record {
      master = ap (λ i. i.master) c.ids ∙ st.master;
      peer = ap (λ i. i.to) c.ids ∙ st.peer;
      wide = ap is_wide c.span ∙ st.wide;
      exists = st.exists;
      running = st.running;
      heard_run = st.heard_run;
      owed = st.owed;
      ended = st.ended;
      rounds = st.rounds;
      room = st.room;
      window = ap (λ w. cond a.running w 0) c.window ∙ st.window;
      timer = st.timer;
      keepalive = st.keepalive;
      moments = record { now = st.moments.now; due_at = st.moments.due_at; heard_at = st.moments.heard_at; sent_at = st.moments.sent_at; since = st.moments.since; start_at = st.moments.start_at; empty_at = st.moments.empty_at };
      link = here;
      sessions = st.sessions;
      calls = λ h. absurd (true≢false (sym c.run ∙ st.running ∙ h));
    })

pub acked_new : (a : Inside) (l : link.Kept) (ack n : ℕ) (r : AckFact) (e : End) → Acked a l ack r e → r ≡ New n
    → Stands (shown (record a { link = l; rounds = 0; moments = record (a.moments) { since = a.moments.now } })) (ack_end (ack_heard ack e) e)
acked_new a l ack d r e c is =
    let n : ℕ = ack_heard ack e in
    let here : link.Stands l (ack_in e.half.link n) = link_at a l ack r e c in
    let st = c.stands in
    let test : nat_lt e.half.link.known n ≡ true = new_is _ _ _ d (sym is ∙ answer_at a l ack r e c) in
    subst (λ b. Stands (shown (record a { link = l; rounds = 0; moments = record (a.moments) { since = a.moments.now } })) (cond b
    (record e { half = record (e.half) { link = ack_in e.half.link n }; rounds = 0; since = e.moment })
    (record e { half = record (e.half) { link = ack_in e.half.link n } }))) (sym test) (record {
      master = ap (λ i. i.master) c.ids ∙ st.master;
      peer = ap (λ i. i.to) c.ids ∙ st.peer;
      wide = ap is_wide c.span ∙ st.wide;
      exists = st.exists;
      running = st.running;
      heard_run = st.heard_run;
      owed = st.owed;
      ended = st.ended;
      rounds = refl;
      room = st.room;
      window = ap (λ w. cond a.running w 0) c.window ∙ st.window;
      timer = st.timer;
      keepalive = st.keepalive;
      moments = record { now = st.moments.now; due_at = st.moments.due_at; heard_at = st.moments.heard_at; sent_at = st.moments.sent_at; since = st.moments.now; start_at = st.moments.start_at; empty_at = st.moments.empty_at };
      link = here;
      sessions = st.sessions;
      calls = λ h. absurd (true≢false (sym c.run ∙ st.running ∙ h));
    })

pub acked_unsent : {X : Type 0} (a : Inside) (l : link.Kept) (ack : ℕ) (r : AckFact) (e : End) → Acked a l ack r e → r ≡ Unsent → X
acked_unsent a l ack r e c is = absurd (true≢false (sym (unsent_is _ _ _ (sym is ∙ answer_at a l ack r e c)) ∙ c.sent))
