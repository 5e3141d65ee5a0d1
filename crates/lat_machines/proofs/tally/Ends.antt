-- The numbers of what one end sends, as they are tallied, and what it bears.
use Rattle.std.proofs.Common.{◌≡◌, ◌≢◌, ℕ, suc, ◌+◌, ◌-◌, ◌*◌, ◌<◌, arith, refl, sym, ap, ◌∙◌, subst, Bool, true, false, not, cond, ◌&&◌, ◌||◌, List, [], ◌∷◌, ◌++◌, length, take, drop, Option, Some, None, nat_eq, nat_lt, append_assoc, append-nil, take-append-drop, length-take-le}
use Rattle.std.proofs.lemmas.Bool.{and_parts, not-true, leb-false}
use Rattle.std.proofs.lemmas.List.{length-drop, length-append}
use Rattle.lat_model.specs.sessions.Slots.{Slot}
use Rattle.lat_model.specs.sessions.Hearing.{HeardAll, hear_all}
use Rattle.lat_model.specs.sessions.Packing.{TaggedSlot, Packing, pack}
use Rattle.lat_model.specs.Lists.{is_empty, Each, IsPrefixOf}
use Rattle.lat_model.specs.numbers.NetOk.{Stands}
use Rattle.lat_model.proofs.numbers.Net.{each_append}
use Rattle.lat_model.specs.numbers.Link.{Link, Frame, frames_from, window_open, is_unsent, is_next, ack_in}
use Rattle.lat_model.specs.ends.End.{Mark, Fresh, Again, Bare, Sent, Run, CallStart, ReplyStart, Stopped, End, Step, still, then_do, lives, finish, send_bare, all_known, send_message, acknowledge, form_packed, occasion, marked, send_again, send_start, wire_of}
use Rattle.lat_model.specs.ends.Run.{RunAnswer, RunTaken, RunRepeated, RunAckOnly, RunBroke, RunStep, ack_end, taken_end, broken_end, take_end, body_end, after_run, run_end}
use Rattle.lat_model.specs.ends.Timers.{passed, silent, unused, a_round, rounds_step, may_form, alive_step, due_step, living, time_step}
use Rattle.lat_machines.specs.values.Runs.{slots_in}
use Rattle.lat_machines.specs.world.Bears.{BearsBy}
use Rattle.lat_machines.specs.world.Tally.{number_of}

abbrev pub formed : End → ℕ
formed e = length e.half.link.sent

abbrev pub taken : End → ℕ
taken e = length e.half.link.came

abbrev pub shown : End → ℕ
shown e = e.half.link.shown

abbrev pub messages : End → List (List Slot)
messages e = e.half.link.sent

abbrev pub new_by : Mark → ℕ
new_by Fresh = 1
new_by (Again back) = 0
new_by Bare = 0

abbrev pub new_in : List Sent → ℕ
new_in [] = 0
new_in (Run m ask f ∷ ss) = new_by m + new_in ss
new_in (CallStart ∷ ss) = new_in ss
new_in (ReplyStart ∷ ss) = new_in ss
new_in (Stopped r ∷ ss) = new_in ss

abbrev pub SentTallied : ℕ → ℕ → List Sent → Type 0
SentTallied n a [] = Unit {0}
SentTallied n a (Run m ask f ∷ ss) = (f.number ≡ number_of m n) × (f.acknowledgement ≡ a) × SentTallied (n + new_by m) a ss
SentTallied n a (CallStart ∷ ss) = SentTallied n a ss
SentTallied n a (ReplyStart ∷ ss) = SentTallied n a ss
SentTallied n a (Stopped r ∷ ss) = SentTallied n a ss

pub plus_zero : (n : ℕ) → n ≡ n + 0
plus_zero n = omega arith

zero_plus : (n : ℕ) → n ≡ 0 + n
zero_plus n = omega arith

new_more : (xs ys : List Sent) → new_in (xs ++ ys) ≡ new_in xs + new_in ys
new_more [] ys = zero_plus (new_in ys)
new_more (Run m ask f ∷ xs) ys = let h : new_in (xs ++ ys) ≡ new_in xs + new_in ys = new_more xs ys in omega (arith, h)
new_more (CallStart ∷ xs) ys = new_more xs ys
new_more (ReplyStart ∷ xs) ys = new_more xs ys
new_more (Stopped r ∷ xs) ys = new_more xs ys

sent_more : (n a : ℕ) (xs ys : List Sent) → SentTallied n a xs → SentTallied (n + new_in xs) a ys → SentTallied n a (xs ++ ys)
sent_more n a [] ys p q = subst (λ z. SentTallied z a ys) (sym (plus_zero n)) q
sent_more n a (Run m ask f ∷ xs) ys p q = (p.0, p.1, sent_more (n + new_by m) a xs ys p.2 (let e : n + (new_by m + new_in xs) ≡ (n + new_by m) + new_in xs = omega arith in subst (λ z. SentTallied z a ys) e q))
sent_more n a (CallStart ∷ xs) ys p q = sent_more n a xs ys p q
sent_more n a (ReplyStart ∷ xs) ys p q = sent_more n a xs ys p q
sent_more n a (Stopped r ∷ xs) ys p q = sent_more n a xs ys p q

-- a RUN is among them
abbrev pub runs_in : List Sent → Bool
runs_in [] = false
runs_in (Run m ask f ∷ ss) = true
runs_in (CallStart ∷ ss) = runs_in ss
runs_in (ReplyStart ∷ ss) = runs_in ss
runs_in (Stopped r ∷ ss) = runs_in ss

runs_more : (xs ys : List Sent) → runs_in (xs ++ ys) ≡ (runs_in xs || runs_in ys)
runs_more [] ys = refl
runs_more (Run m ask f ∷ xs) ys = refl
runs_more (CallStart ∷ xs) ys = runs_more xs ys
runs_more (ReplyStart ∷ xs) ys = runs_more xs ys
runs_more (Stopped r ∷ xs) ys = runs_more xs ys

-- what was shown, over two steps of which the second takes nothing
pub shows_then : (x y : Bool) (t v k n m : ℕ) → v ≡ t → n ≡ cond x t k → m ≡ cond y v n → m ≡ cond (x || y) v k
shows_then true true t v k n m h p q = q
shows_then true false t v k n m h p q = q ∙ (p ∙ sym h)
shows_then false true t v k n m h p q = q
shows_then false false t v k n m h p q = q ∙ p

-- each RUN bears what its mark says
abbrev pub SentBears : List (List Slot) → List Sent → Type 0
SentBears sent [] = Unit {0}
SentBears sent (Run m ask f ∷ ss) = BearsBy sent m f.number (slots_in f) × SentBears sent ss
SentBears sent (CallStart ∷ ss) = SentBears sent ss
SentBears sent (ReplyStart ∷ ss) = SentBears sent ss
SentBears sent (Stopped r ∷ ss) = SentBears sent ss

abbrev pub Grown : List (List Slot) → List (List Slot) → Type 0
Grown xs ys = IsPrefixOf xs ys

pub grown_none : (xs : List (List Slot)) → Grown xs xs
grown_none xs = ([], append-nil xs)

pub grown_then : (xs ys zs : List (List Slot)) → Grown xs ys → Grown ys zs → Grown xs zs
grown_then xs ys zs p q = (p.0 ++ q.0, sym (append_assoc xs p.0 q.0) ∙ (ap (λ z. z ++ q.0) p.1 ∙ q.1))

stands_on : (xs ys : List (List Slot)) (n : ℕ) (m : List Slot) → Grown xs ys → Stands (List Slot) xs n m → Stands (List Slot) ys n m
stands_on xs ys n m g s = record { front = s.front; back = s.back ++ g.0; parts = sym g.1 ∙ (ap (λ z. z ++ g.0) s.parts ∙ append_assoc s.front (m ∷ s.back) g.0); number = s.number }

pub bears_on : (xs ys : List (List Slot)) → Grown xs ys → (m : Mark) (n : ℕ) (slots : List Slot) → BearsBy xs m n slots → BearsBy ys m n slots
bears_on xs ys g Fresh n slots h = (h.0, stands_on xs ys n slots g h.1)
bears_on xs ys g (Again back) n slots h = (h.0, stands_on xs ys n slots g h.1)
bears_on xs ys g Bare n slots h = h

sent_bears_on : (xs ys : List (List Slot)) → Grown xs ys → (ss : List Sent) → SentBears xs ss → SentBears ys ss
sent_bears_on xs ys g [] h = tt
sent_bears_on xs ys g (Run m ask f ∷ ss) h = (bears_on xs ys g m f.number (slots_in f) h.0, sent_bears_on xs ys g ss h.1)
sent_bears_on xs ys g (CallStart ∷ ss) h = sent_bears_on xs ys g ss h
sent_bears_on xs ys g (ReplyStart ∷ ss) h = sent_bears_on xs ys g ss h
sent_bears_on xs ys g (Stopped r ∷ ss) h = sent_bears_on xs ys g ss h

bears_more : (sent : List (List Slot)) (xs ys : List Sent) → SentBears sent xs → SentBears sent ys → SentBears sent (xs ++ ys)
bears_more sent [] ys p q = q
bears_more sent (Run m ask f ∷ xs) ys p q = (p.0, bears_more sent xs ys p.1 q)
bears_more sent (CallStart ∷ xs) ys p q = bears_more sent xs ys p q
bears_more sent (ReplyStart ∷ xs) ys p q = bears_more sent xs ys p q
bears_more sent (Stopped r ∷ xs) ys p q = bears_more sent xs ys p q

-- no message is without slots
abbrev pub Full : List (List Slot) → Type 0
Full sent = Each (λ (m : List Slot). m ≢ []) sent

-- a step that takes no message
pub record Counts (e : End) (s : Step) : Type 0 where
  pub sent : SentTallied (formed e) (taken e) s.sent
  pub forms : formed s.end ≡ formed e + new_in s.sent
  pub takes : taken s.end ≡ taken e
  pub shows : shown s.end ≡ cond (runs_in s.sent) (taken s.end) (shown e)
  pub bears : Full (messages e) → SentBears (messages s.end) s.sent
  pub grows : Grown (messages e) (messages s.end)
  pub full : Full (messages e) → Full (messages s.end)

-- a step that sends no RUN, and leaves the numbers
abbrev pub NoRun : List Sent → Type 0
NoRun [] = Unit {0}
NoRun (Run m ask f ∷ ss) = ⊥
NoRun (CallStart ∷ ss) = NoRun ss
NoRun (ReplyStart ∷ ss) = NoRun ss
NoRun (Stopped r ∷ ss) = NoRun ss

none_tallied : (n a : ℕ) (ss : List Sent) → NoRun ss → SentTallied n a ss
none_tallied n a [] h = tt
none_tallied n a (Run m ask f ∷ ss) h = absurd h
none_tallied n a (CallStart ∷ ss) h = none_tallied n a ss h
none_tallied n a (ReplyStart ∷ ss) h = none_tallied n a ss h
none_tallied n a (Stopped r ∷ ss) h = none_tallied n a ss h

none_new : (ss : List Sent) → NoRun ss → new_in ss ≡ 0
none_new [] h = refl
none_new (Run m ask f ∷ ss) h = absurd h
none_new (CallStart ∷ ss) h = none_new ss h
none_new (ReplyStart ∷ ss) h = none_new ss h
none_new (Stopped r ∷ ss) h = none_new ss h

none_runs : (ss : List Sent) → NoRun ss → runs_in ss ≡ false
none_runs [] h = refl
none_runs (Run m ask f ∷ ss) h = absurd h
none_runs (CallStart ∷ ss) h = none_runs ss h
none_runs (ReplyStart ∷ ss) h = none_runs ss h
none_runs (Stopped r ∷ ss) h = none_runs ss h

none_bears : (sent : List (List Slot)) (ss : List Sent) → NoRun ss → SentBears sent ss
none_bears sent [] h = tt
none_bears sent (Run m ask f ∷ ss) h = absurd h
none_bears sent (CallStart ∷ ss) h = none_bears sent ss h
none_bears sent (ReplyStart ∷ ss) h = none_bears sent ss h
none_bears sent (Stopped r ∷ ss) h = none_bears sent ss h

pub plainly : (e : End) (s : Step) → NoRun s.sent → s.end.half.link ≡ e.half.link → Counts e s
plainly e s h q = record {
  sent = none_tallied (formed e) (taken e) s.sent h;
  forms = ap (λ (l : Link (List Slot)). length l.sent) q ∙ (plus_zero (formed e) ∙ ap (λ z. formed e + z) (sym (none_new s.sent h)));
  takes = ap (λ (l : Link (List Slot)). length l.came) q;
  shows = ap (λ (l : Link (List Slot)). l.shown) q ∙ ap (λ z. cond z (taken s.end) (shown e)) (sym (none_runs s.sent h));
  bears = λ f. none_bears (messages s.end) s.sent h;
  grows = subst (λ (l : Link (List Slot)). Grown (messages e) l.sent) (sym q) (grown_none (messages e));
  full = λ f. subst (λ (l : Link (List Slot)). Full l.sent) (sym q) f;
}

-- nothing is sent
pub quiet : (e : End) (s : Step) → s.sent ≡ [] → s.end.half.link ≡ e.half.link → Counts e s
quiet e s q l = plainly e s (subst NoRun (sym q) tt) l

pub counts_cond : (e : End) (n : Bool) (s t : Step) → Counts e s → Counts e t → Counts e (cond n s t)
counts_cond e true s t p q = p
counts_cond e false s t p q = q

pub counts_then : (e : End) (s : Step) (f : End → Step) → Counts e s → Counts s.end (f s.end) → Counts e (then_do s f)
counts_then e s f p q = record {
  sent = sent_more (formed e) (taken e) s.sent (f s.end).sent p.sent (subst (λ z. SentTallied z (taken e) (f s.end).sent) p.forms (subst (λ z. SentTallied (formed s.end) z (f s.end).sent) p.takes q.sent));
  forms = let a : formed s.end ≡ formed e + new_in s.sent = p.forms in let b : formed (f s.end).end ≡ formed s.end + new_in (f s.end).sent = q.forms in let c : new_in (s.sent ++ (f s.end).sent) ≡ new_in s.sent + new_in (f s.end).sent = new_more s.sent (f s.end).sent in omega (arith, a, b, c);
  takes = q.takes ∙ p.takes;
  shows = shows_then (runs_in s.sent) (runs_in (f s.end).sent) (taken s.end) (taken (f s.end).end) (shown e) (shown s.end) (shown (f s.end).end) q.takes p.shows q.shows ∙ ap (λ z. cond z (taken (f s.end).end) (shown e)) (sym (runs_more s.sent (f s.end).sent));
  bears = λ h. bears_more (messages (f s.end).end) s.sent (f s.end).sent (sent_bears_on (messages s.end) (messages (f s.end).end) q.grows s.sent (p.bears h)) (q.bears (p.full h));
  grows = grown_then (messages e) (messages s.end) (messages (f s.end).end) p.grows q.grows;
  full = λ h. q.full (p.full h);
}

counts_still : (e : End) → Counts e (still e)
counts_still e = quiet e (still e) refl refl

pub counts_finish : (r : ℕ) (e : End) → Counts e (finish r e)
counts_finish r e = plainly e (finish r e) (sends (nat_eq e.peer 0)) refl
  where
    sends : (n : Bool) → NoRun (cond n [] (Stopped r ∷ []))
    sends true = tt
    sends false = tt

counts_bare : (ask : Bool) (e : End) → Counts e (send_bare ask e)
counts_bare ask e = record {
  sent = (refl, refl, tt);
  forms = plus_zero (formed e);
  takes = refl;
  shows = refl;
  bears = λ h. (refl, tt);
  grows = grown_none (messages e);
  full = λ h. h;
}

counts_acknowledge : (e : End) → Counts e (acknowledge e)
counts_acknowledge e = counts_cond e e.owed (send_bare false e) (still e) (counts_bare false e) (counts_still e)

wire_full : (os : List TaggedSlot) → is_empty os ≡ false → wire_of os ≢ []
wire_full [] h q = let z : ⊥ = cc in z
wire_full (o ∷ os) h q = let z : ⊥ = cc in z

counts_occasion : (e : End) → Counts e (occasion e)
counts_occasion e = counts_cond e (window_open e.window e.half.link) (form_packed p e) (acknowledge e) (packed (is_empty p.slots) refl) (counts_acknowledge e)
  where
    p : Packing
    p = pack e.room e.half.sessions

    packed : (n : Bool) → is_empty p.slots ≡ n → Counts e (cond n (acknowledge e) (send_message p e))
    packed true q = counts_acknowledge e
    packed false q =
        let some : wire_of p.slots ≢ [] = wire_full p.slots q in
        record {
          sent = (refl, refl, tt);
          forms = length-append (messages e) (wire_of p.slots ∷ []);
          takes = refl;
          shows = refl;
          bears = λ h. ((some, record { front = messages e; back = []; parts = refl; number = refl }), tt);
          grows = (wire_of p.slots ∷ [], refl);
          full = λ h. each_append (λ (m : List Slot). m ≢ []) (messages e) (wire_of p.slots ∷ []) h (some, tt);
        }

length_from : (k a : ℕ) (ms : List (List Slot)) → length (frames_from k a ms) ≡ length ms
length_from k a [] = refl
length_from k a (m ∷ ms) = ap suc (length_from (suc k) a ms)

-- a round: the frames of the messages behind the k-th, of n in all
round_tallied : (k a n : ℕ) (ms : List (List Slot)) → n ≡ k + length ms → SentTallied n a (marked (frames_from k a ms))
round_tallied k a n [] q = tt
round_tallied k a n (m ∷ ms) q =
    let l : length (frames_from (suc k) a ms) ≡ length ms = length_from (suc k) a ms in
    (let d : suc k ≡ n - length (frames_from (suc k) a ms) = omega (arith, q, l) in d, refl, subst (λ z. SentTallied z a (marked (frames_from (suc k) a ms))) (plus_zero n) (round_tallied (suc k) a n ms (omega (arith, q))))

round_new : (fs : List (Frame (List Slot))) → new_in (marked fs) ≡ 0
round_new [] = refl
round_new (f ∷ fs) = sym (zero_plus (new_in (marked fs))) ∙ round_new fs

-- each frame of a round bears its message
round_bears : (sent : List (List Slot)) (k a : ℕ) (front ms : List (List Slot)) → sent ≡ front ++ ms → length front ≡ k → Full ms → SentBears sent (marked (frames_from k a ms))
round_bears sent k a front [] q n h = tt
round_bears sent k a front (m ∷ ms) q n h = (
  (h.0, record { front = front; back = ms; parts = q; number = ap suc (sym n) }),
  round_bears sent (suc k) a (front ++ m ∷ []) ms (q ∙ sym (append_assoc front (m ∷ []) ms)) (length-append front (m ∷ []) ∙ (let r : length front ≡ k = n in omega (arith, r))) h.1,
)

full_back : (xs ys : List (List Slot)) → Full (xs ++ ys) → Full ys
full_back [] ys h = h
full_back (x ∷ xs) ys h = full_back xs ys h.1

counts_again : (e : End) → all_known e ≡ false → Counts e (send_again e)
counts_again e u = record {
  sent = go (drop l.known l.sent) refl;
  forms = plus_zero (formed e) ∙ ap (λ z. formed e + z) (sym (round_new (frames_from l.known (taken e) (drop l.known l.sent))));
  takes = refl;
  shows = shows (drop l.known l.sent) refl;
  bears = λ h. bears h (drop l.known l.sent) refl;
  grows = grown_none l.sent;
  full = λ h. h;
}
  where
    l : Link (List Slot)
    l = e.half.link

    go : (ms : List (List Slot)) → drop l.known l.sent ≡ ms → SentTallied (formed e) (taken e) (marked (frames_from l.known (taken e) ms))
    go [] q = tt
    go (m ∷ ms) q =
        let a : length (drop l.known l.sent) ≡ length l.sent - l.known = length-drop l.known l.sent in
        let b : length (drop l.known l.sent) ≡ suc (length ms) = ap length q in
        round_tallied l.known (taken e) (formed e) (m ∷ ms) (omega (arith, a, b))

    less : l.known < length l.sent
    less = leb-false (length l.sent) l.known u

    dropped : length (drop l.known l.sent) ≡ length l.sent - l.known
    dropped = length-drop l.known l.sent

    shows : (ms : List (List Slot)) → drop l.known l.sent ≡ ms → taken e ≡ cond (runs_in (marked (frames_from l.known (taken e) ms))) (taken e) (shown e)
    shows [] q = let n : length (drop l.known l.sent) ≡ 0 = ap length q in absurd (omega (arith, n, dropped, less))
    shows (m ∷ ms) q = refl

    bears : Full l.sent → (ms : List (List Slot)) → drop l.known l.sent ≡ ms → SentBears l.sent (marked (frames_from l.known (taken e) ms))
    bears h ms q =
        let parts : l.sent ≡ take l.known l.sent ++ ms = sym (take-append-drop l.known l.sent) ∙ ap (λ z. take l.known l.sent ++ z) q in
        round_bears l.sent l.known (taken e) (take l.known l.sent) ms parts (length-take-le l.known l.sent (omega (arith, less))) (full_back (take l.known l.sent) ms (subst Full parts h))

counts_start : (e : End) → Counts e (send_start e)
counts_start e = plainly e (send_start e) tt refl

counts_by : (e : End) (n : Bool) (s t : Step) → (n ≡ true → Counts e s) → Counts e t → Counts e (cond n s t)
counts_by e true s t p q = p refl
counts_by e false s t p q = q

counts_rounds : (e : End) → Counts e (rounds_step e)
counts_rounds e =
    counts_cond e e.running (cond (not (all_known e) && passed e.since 1000 e) (a_round send_again e) (still e)) (cond (passed e.start_at 1000 e) (a_round send_start e) (still e))
    (counts_by e (not (all_known e) && passed e.since 1000 e) (a_round send_again e) (still e) (λ i. counts_cond e (nat_lt e.rounds 8) (send_again e) (finish 6 e) (counts_again e (not-true (all_known e) (and_parts (not (all_known e)) (passed e.since 1000 e) i).0)) (counts_finish 6 e)) (counts_still e))
    (counts_cond e (passed e.start_at 1000 e) (a_round send_start e) (still e) (counts_cond e (nat_lt e.rounds 8) (send_start e) (finish 6 e) (counts_start e) (counts_finish 6 e)) (counts_still e))

counts_living : (f : End → Step) (e : End) → Counts e (f e) → Counts e (living f e)
counts_living f e p = counts_cond e (lives e) (f e) (still e) p (counts_still e)

-- the moments of an end don't count
counts_as : (e d : End) (s : Step) → d.half.link ≡ e.half.link → Counts d s → Counts e s
counts_as e d s q p = record {
  sent = subst (λ (l : Link (List Slot)). SentTallied (length l.sent) (length l.came) s.sent) q p.sent;
  forms = subst (λ (l : Link (List Slot)). formed s.end ≡ length l.sent + new_in s.sent) q p.forms;
  takes = subst (λ (l : Link (List Slot)). taken s.end ≡ length l.came) q p.takes;
  shows = subst (λ (l : Link (List Slot)). shown s.end ≡ cond (runs_in s.sent) (taken s.end) l.shown) q p.shows;
  bears = subst (λ (l : Link (List Slot)). Full l.sent → SentBears (messages s.end) s.sent) q p.bears;
  grows = subst (λ (l : Link (List Slot)). Grown l.sent (messages s.end)) q p.grows;
  full = subst (λ (l : Link (List Slot)). Full l.sent → Full (messages s.end)) q p.full;
}

counts_due : (e : End) → Counts e (due_step e)
counts_due e =
    let d : End = record e { due_at = e.moment } in
    let s : Step = cond (may_form e) (occasion d) (still d) in
    let k : Counts e s = counts_cond e (may_form e) (occasion d) (still d) (counts_as e d (occasion d) refl (counts_occasion d)) (quiet e (still d) refl refl) in
    counts_cond e (passed e.due_at (10 * e.timer) e) (then_do s alive_step) (still e)
    (counts_then e s alive_step k (counts_cond s.end (s.end.master && s.end.running && passed s.end.sent_at (1000 * s.end.keepalive) s.end) (send_bare true s.end) (still s.end) (counts_bare true s.end) (counts_still s.end)))
    (counts_still e)

pub counts_time : (now : ℕ) (e : End) → Counts e (time_step now e)
counts_time now e =
    let d : End = record e { moment = now } in
    counts_as e d (time_step now e) refl
    (counts_cond d (silent d) (finish 6 d) (cond (unused d) (finish 3 d) (then_do (rounds_step d) (living due_step))) (counts_finish 6 d)
    (counts_cond d (unused d) (finish 3 d) (then_do (rounds_step d) (living due_step)) (counts_finish 3 d)
    (counts_then d (rounds_step d) (living due_step) (counts_rounds d) (counts_living due_step (rounds_step d).end (counts_due (rounds_step d).end)))))

-- a RUN that is heard

abbrev pub taken_by_run : RunAnswer → ℕ
taken_by_run (RunTaken n) = 1
taken_by_run RunRepeated = 0
taken_by_run RunAckOnly = 0
taken_by_run RunBroke = 0

pub record RunCounts (e : End) (r : RunStep) : Type 0 where
  pub sent : SentTallied (formed e) (taken r.step.end) r.step.sent
  pub forms : formed r.step.end ≡ formed e + new_in r.step.sent
  pub takes : taken r.step.end ≡ taken e + taken_by_run r.answer
  pub shows : shown r.step.end ≡ cond (runs_in r.step.sent) (taken r.step.end) (shown e)
  pub bears : Full (messages e) → SentBears (messages r.step.end) r.step.sent
  pub grows : Grown (messages e) (messages r.step.end)
  pub full : Full (messages e) → Full (messages r.step.end)

run_cond : (e : End) (n : Bool) (r q : RunStep) → RunCounts e r → RunCounts e q → RunCounts e (cond n r q)
run_cond e true r q x y = x
run_cond e false r q x y = y

-- a step that takes none, with an answer that says so
run_none : (e : End) (s : Step) (a : RunAnswer) → taken_by_run a ≡ 0 → Counts e s → RunCounts e (record { step = s; answer = a })
run_none e s a q p = record {
  sent = subst (λ z. SentTallied (formed e) z s.sent) (sym p.takes) p.sent;
  forms = p.forms;
  takes = p.takes ∙ (plus_zero (taken e) ∙ ap (λ z. taken e + z) (sym q));
  shows = p.shows;
  bears = p.bears;
  grows = p.grows;
  full = p.full;
}

run_after : (e : End) (r : RunStep) → RunCounts e r → RunCounts e (after_run r)
run_after e r p =
    let d : End = r.step.end in
    let f : End → Step = living (λ x. cond x.master (still x) (occasion x)) in
    let k : Counts d (f d) = counts_living (λ x. cond x.master (still x) (occasion x)) d (counts_cond d d.master (still d) (occasion d) (counts_still d) (counts_occasion d)) in
    record {
      sent = subst (λ z. SentTallied (formed e) z (r.step.sent ++ (f d).sent)) (sym k.takes) (sent_more (formed e) (taken d) r.step.sent (f d).sent p.sent (subst (λ z. SentTallied z (taken d) (f d).sent) p.forms k.sent));
      forms = let a : formed d ≡ formed e + new_in r.step.sent = p.forms in let b : formed (f d).end ≡ formed d + new_in (f d).sent = k.forms in let c : new_in (r.step.sent ++ (f d).sent) ≡ new_in r.step.sent + new_in (f d).sent = new_more r.step.sent (f d).sent in omega (arith, a, b, c);
      takes = k.takes ∙ p.takes;
      shows = shows_then (runs_in r.step.sent) (runs_in (f d).sent) (taken d) (taken (f d).end) (shown e) (shown d) (shown (f d).end) k.takes p.shows k.shows ∙ ap (λ z. cond z (taken (f d).end) (shown e)) (sym (runs_more r.step.sent (f d).sent));
      bears = λ h. bears_more (messages (f d).end) r.step.sent (f d).sent (sent_bears_on (messages d) (messages (f d).end) k.grows r.step.sent (p.bears h)) (k.bears (p.full h));
      grows = grown_then (messages e) (messages d) (messages (f d).end) p.grows k.grows;
      full = λ h. k.full (p.full h);
    }

run_body : (n : ℕ) (ask : Bool) (o : Option (List Slot)) (e : End) → RunCounts e (body_end n ask o e)
run_body n ask None e = run_none e (still (record e { owed = e.owed || ask })) RunAckOnly refl (quiet e (still (record e { owed = e.owed || ask })) refl refl)
run_body n ask (Some []) e = run_none e (still (record e { owed = e.owed || ask })) RunAckOnly refl (quiet e (still (record e { owed = e.owed || ask })) refl refl)
run_body n ask (Some (x ∷ xs)) e =
    let h : HeardAll = hear_all (x ∷ xs) e.half.sessions in
    let d : End = record e { half = record (e.half) { sessions = h.after } } in
    run_cond e (is_next e.half.link n) (take_end (x ∷ xs) e) (record { step = still (record e { owed = true }); answer = RunRepeated })
    (run_cond e h.good (taken_end (x ∷ xs) h.after e) (broken_end h.after e)
    (record { sent = tt; forms = plus_zero (formed e); takes = length-append e.half.link.came ((x ∷ xs) ∷ []); shows = refl; bears = λ f. tt; grows = grown_none (messages e); full = λ f. f })
    (run_none e (finish 2 d) RunBroke refl (counts_as e d (finish 2 d) refl (counts_finish 2 d))))
    (run_none e (still (record e { owed = true })) RunRepeated refl (quiet e (still (record e { owed = true })) refl refl))

run_as : (e d : End) (r : RunStep) → messages d ≡ messages e → taken d ≡ taken e → shown d ≡ shown e → RunCounts d r → RunCounts e r
run_as e d r m t w p = record {
  sent = subst (λ (z : List (List Slot)). SentTallied (length z) (taken r.step.end) r.step.sent) m p.sent;
  forms = p.forms ∙ ap (λ (z : List (List Slot)). length z + new_in r.step.sent) m;
  takes = p.takes ∙ ap (λ z. z + taken_by_run r.answer) t;
  shows = p.shows ∙ ap (λ z. cond (runs_in r.step.sent) (taken r.step.end) z) w;
  bears = subst (λ (z : List (List Slot)). Full z → SentBears (messages r.step.end) r.step.sent) m p.bears;
  grows = subst (λ (z : List (List Slot)). Grown z (messages r.step.end)) m p.grows;
  full = subst (λ (z : List (List Slot)). Full z → Full (messages r.step.end)) m p.full;
}

-- an acknowledgement changes only what is known
ack_same : {A : Type 0} (g : End → A) (a : ℕ) (e : End) → ((k r s : ℕ) → g (record e { half = record (e.half) { link = record (e.half.link) { known = k } }; rounds = r; since = s }) ≡ g e) → g (ack_end a e) ≡ g e
ack_same {A} g a e h = go (nat_lt e.half.link.known a)
  where
    k : ℕ
    k = cond (nat_lt e.half.link.known a) a e.half.link.known

    yes : End
    yes = record e { half = record (e.half) { link = ack_in e.half.link a }; rounds = 0; since = e.moment }

    no : End
    no = record e { half = record (e.half) { link = ack_in e.half.link a } }

    go : (n : Bool) → g (cond n yes no) ≡ g e
    go true = h k 0 e.moment
    go false = h k e.rounds e.since

pub counts_run : (now : ℕ) (ask : Bool) (f : Frame (List Slot)) (e : End) → RunCounts e (run_end now ask f e)
counts_run now ask f e =
    let d : End = record e { moment = now; heard_at = now; heard_run = true } in
    let c : End = ack_end f.acknowledgement d in
    run_cond e (is_unsent d.half.link f.acknowledgement) (record { step = finish 2 d; answer = RunBroke }) (after_run (body_end f.number ask f.body c))
    (run_none e (finish 2 d) RunBroke refl (counts_as e d (finish 2 d) refl (counts_finish 2 d)))
    (run_after e (body_end f.number ask f.body c)
    (run_as e c (body_end f.number ask f.body c) (ack_same messages f.acknowledgement d (λ k r s. refl)) (ack_same taken f.acknowledgement d (λ k r s. refl)) (ack_same shown f.acknowledgement d (λ k r s. refl)) (run_body f.number ask f.body c)))
