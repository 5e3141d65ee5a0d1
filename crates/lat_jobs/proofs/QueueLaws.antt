-- The laws of the jobs of a port, and of numbers.
use Rattle.std.proofs.Common.{◌≡◌, ℕ, ◌+◌, ◌<◌, ◌≤◌, List, [], ◌∷◌, ◌++◌, refl, arith, sym, subst, ◌∙◌}
use Rattle.std.specs.Prelude.{Bool, true, false, ◌&&◌, ◌||◌, ◌==◌, if◌then◌else◌, Option, Some, None, zero, suc, take, remove, slice_get}
use Rattle.std.proofs.lemmas.Bool.{and_parts, cond-false, or_parts, false≢true, true≢false}
use Rattle.std.specs.List.{list_all}
use Rattle.lat_mind.specs.Good.{Each}
use Rattle.lat_jobs.specs.declared.fact.Fact.{Fact}
use Rattle.lat_jobs.specs.declared.fact.Fact.TheVariants as facts
use Rattle.lat_jobs.specs.declared.fact.Move.{Move}
use Rattle.lat_jobs.specs.declared.fact.Move.TheVariants as moves
use Rattle.lat_jobs.specs.declared.look.Look.{Look}
use Rattle.lat_jobs.specs.declared.phase.Ask.{Ask}
use Rattle.lat_jobs.specs.declared.phase.Phase.{Phase}
use Rattle.lat_jobs.specs.declared.phase.Phase.TheVariants as phases
use Rattle.lat_jobs.specs.declared.mind.JobMind.{JobMind}
use Rattle.lat_jobs.specs.Looks.{tells}
use Rattle.lat_jobs.specs.Minds.{is_past, mind_next}
use Rattle.lat_jobs.specs.Numbers.{Rising, drawn_in, numbers_after, with_number}
use Rattle.lat_jobs.specs.Phases.{has_place, phase_after}
use Rattle.lat_jobs.specs.Queues.{all_placed, may_ask, next_of, queue_next}
use Rattle.lat_jobs.specs.QueueRuns.{Act, ActsOf, AskedInOrder, CanHappen, Comes, Leaves, Seat, Tells, fresh_seat, is_ask, is_over, minds_of, seat_told, seats_after, seats_of, seats_told}
use Rattle.lat_jobs.specs.Reasons.{Why}
use Rattle.lat_jobs.specs.Runs.{Answers}
use Rattle.lat_jobs.proofs.Reasons.{reason}
use Rattle.lat_jobs.proofs.RunLaws.{other}
use Rattle.lat_jobs.proofs.Runs.{each_map}

-- a job that asks has its turn
turned : (wait : ℕ) (p : Phase) (see : Look) (turn : Bool) → Why wait p see turn moves.Ask → turn ≡ true
turned wait (phases.Pausing p) see turn why = why.1
turned wait (phases.Asking a) see turn why = absurd why
turned wait (phases.Printing g) see turn why = absurd why
turned wait phases.Over see turn why = absurd why

asks_of : (o : Option JobMind) (see : Look) (turn : Bool) → next_of o see turn ≡ moves.Ask → turn ≡ true
asks_of (Some m) see turn e = turned m.wait m.phase see turn (reason m.wait m.phase see turn moves.Ask e)
asks_of None see turn e = absurd (other moves.Ask refl e)

pub asks_in_turn : (jobs : List JobMind) (at : ℕ) (see : Look) → queue_next jobs at see ≡ moves.Ask → all_placed (take at jobs) ≡ true
asks_in_turn jobs at see e = asks_of (slice_get jobs at) see (may_ask jobs at) e

repeats : (m : JobMind) (a : Ask) (see : Look) (turn : Bool) → m.phase ≡ phases.Asking a → tells see.status a.number ≡ false → mind_next m see turn ≡ moves.Repeat → turn ≡ true
repeats m a see turn at unheard e =
    let P : Phase → Type 0 = λ p. Why m.wait p see turn moves.Repeat in
    let why = subst P at (reason m.wait m.phase see turn moves.Repeat e) in
    (and_parts turn (is_past a.asked 5000 see.moment) (sym (cond-false _ _ _ unheard) ∙ why.2)).0

pub repeats_in_turn : (jobs : List JobMind) (at : ℕ) (see : Look) (m : JobMind) (a : Ask) → slice_get jobs at ≡ Some m → m.phase ≡ phases.Asking a → tells see.status a.number ≡ false → queue_next jobs at see ≡ moves.Repeat → all_placed (take at jobs) ≡ true
repeats_in_turn jobs at see m a is asking unheard e =
    let P : Option JobMind → Type 0 = λ o. next_of o see (may_ask jobs at) ≡ moves.Repeat in
    repeats m a see (may_ask jobs at) asking unheard (subst P is e)

-- a job that has never asked pauses, or is over
abbrev Sane : Seat → Type 0
Sane s = s.asked ≡ false → has_place s.mind.phase ≡ true → is_over s.mind.phase ≡ true

abbrev Early : Phase → Type 0
Early (phases.Pausing p) = Unit {0}
Early (phases.Asking a) = ⊥
Early (phases.Printing g) = ⊥
Early phases.Over = Unit {0}

abbrev Kept : Seat → Type 0
Kept s = s.asked ≡ false → Early s.mind.phase

-- what holds of the jobs of a port
abbrev Ordered : List Seat → Type 0
Ordered ss = Each Kept ss × AskedInOrder ss

early_turn : (p : Phase) (see : Look) (f : Fact) → is_ask f ≡ false → Early p → Early (phase_after p see f)
early_turn (phases.Pausing p) see (facts.Asked n) a e = absurd (true≢false a)
early_turn (phases.Pausing p) see facts.Reset a e = tt
early_turn (phases.Pausing p) see facts.Unasked a e = tt
early_turn (phases.Pausing p) see facts.Repeated a e = tt
early_turn (phases.Pausing p) see facts.Cancelled a e = tt
early_turn (phases.Pausing p) see facts.Lost a e = tt
early_turn (phases.Pausing p) see facts.Joined a e = tt
early_turn (phases.Pausing p) see facts.Quiet a e = tt
early_turn (phases.Pausing p) see (facts.Read n) a e = tt
early_turn (phases.Pausing p) see facts.Ended a e = tt
early_turn (phases.Pausing p) see facts.Failed a e = tt
early_turn (phases.Pausing p) see (facts.Put n) a e = tt
early_turn (phases.Pausing p) see (facts.Took n) a e = tt
early_turn (phases.Pausing p) see (facts.Written n) a e = tt
early_turn (phases.Pausing p) see facts.Closed a e = tt
early_turn (phases.Pausing p) see facts.Rested a e = tt
early_turn (phases.Pausing p) see facts.HungUp a e = tt
early_turn (phases.Pausing p) see facts.Lacking a e = tt
early_turn (phases.Asking a) see f b e = absurd e
early_turn (phases.Printing g) see f a e = absurd e
early_turn phases.Over see f a e = tt

-- over stays over
over_turn : (p : Phase) (see : Look) (f : Fact) → is_over (phase_after p see f) ≡ false → is_over p ≡ false
over_turn (phases.Pausing p) see f e = refl
over_turn (phases.Asking a) see f e = refl
over_turn (phases.Printing g) see f e = refl
over_turn phases.Over see f e = e

early_placed : (p : Phase) → Early p → has_place p ≡ true → is_over p ≡ true
early_placed (phases.Pausing p) e h = absurd (false≢true h)
early_placed (phases.Asking a) e h = absurd e
early_placed (phases.Printing g) e h = absurd e
early_placed phases.Over e h = refl

kept_turn : (s : Seat) (see : Look) (f : Fact) → Kept s → Kept (seat_told s see f)
kept_turn s see f k = λ e. let both = or_parts s.asked (is_ask f) e in early_turn s.mind.phase see f both.1 (k both.0)

kept_told : (ss : List Seat) (at : ℕ) (see : Look) (f : Fact) → Each Kept ss → Each Kept (seats_told ss at see f)
kept_told [] at see f k = tt
kept_told (s ∷ ss) zero see f k = (kept_turn s see f k.0, k.1)
kept_told (s ∷ ss) (suc at) see f k = (k.0, kept_told ss at see f k.1)

-- where nobody asks, who hasn't asked hasn't still
unasked_told : (ss : List Seat) (at : ℕ) (see : Look) (f : Fact) → is_ask f ≡ false → Each (λ r. r.asked ≡ false) ss → Each (λ r. r.asked ≡ false) (seats_told ss at see f)
unasked_told [] at see f a e = tt
unasked_told (s ∷ ss) zero see f a e = (unasked s.asked (is_ask f) e.0 a, e.1)
  where
    unasked : (b c : Bool) → b ≡ false → c ≡ false → (b || c) ≡ false
    unasked true c b d = absurd (true≢false b)
    unasked false c b d = d
unasked_told (s ∷ ss) (suc at) see f a e = (e.0, unasked_told ss at see f a e.1)

-- all before have a place, where somebody asks
abbrev InTurn : List Seat → ℕ → Fact → Type 0
InTurn ss at f = is_ask f ≡ true → list_all (λ m. has_place m.phase) (take at (minds_of ss)) ≡ true

-- somebody asks, or nobody
told_behind : (b : Bool) (s : Seat) (ss : List Seat) (at : ℕ) (see : Look) (f : Fact) → is_ask f ≡ b → Kept s → (b ≡ true → has_place s.mind.phase ≡ true) →
    (s.asked ≡ false → is_over s.mind.phase ≡ false → Each (λ r. r.asked ≡ false) ss) → s.asked ≡ false → is_over s.mind.phase ≡ false → Each (λ r. r.asked ≡ false) (seats_told ss at see f)
told_behind true s ss at see f is k placed order e o = absurd (true≢false (sym (early_placed s.mind.phase (k e) (placed refl)) ∙ o))
told_behind false s ss at see f is k placed order e o = unasked_told ss at see f is (order e o)

order_told : (ss : List Seat) (at : ℕ) (see : Look) (f : Fact) → Each Kept ss → AskedInOrder ss → InTurn ss at f → AskedInOrder (seats_told ss at see f)
order_told [] at see f k o t = tt
order_told (s ∷ ss) zero see f k o t = (λ e v. o.0 ((or_parts s.asked (is_ask f) e).0) (over_turn s.mind.phase see f v), o.1)
order_told (s ∷ ss) (suc at) see f k o t =
    (told_behind (is_ask f) s ss at see f refl k.0 (λ a. first (has_place s.mind.phase) _ (t a)) o.0, order_told ss at see f k.1 o.1 (λ a. rest (has_place s.mind.phase) _ (t a)))
  where
    first : (b c : Bool) → (b && c) ≡ true → b ≡ true
    first b c e = (and_parts b c e).0

    rest : (b c : Bool) → (b && c) ≡ true → c ≡ true
    rest b c e = (and_parts b c e).1

-- who comes is the last, and hasn't asked
each_last : {A : Type 0} (P : A → Type 0) (xs : List A) (x : A) → Each P xs → P x → Each P (xs ++ x ∷ [])
each_last P [] x e p = (p, tt)
each_last P (y ∷ ys) x e p = (e.0, each_last P ys x e.1 p)

order_last : (ss : List Seat) → AskedInOrder ss → AskedInOrder (ss ++ fresh_seat ∷ [])
order_last [] o = (λ e v. tt, tt)
order_last (s ∷ ss) o = (λ e v. each_last (λ r. r.asked ≡ false) ss fresh_seat (o.0 e v) refl, order_last ss o.1)

-- who leaves changes nothing of the others
each_left : {A : Type 0} (P : A → Type 0) (xs : List A) (at : ℕ) → Each P xs → Each P (remove xs at)
each_left P [] at e = each_nothing P at
  where
    each_nothing : {A : Type 0} (P : A → Type 0) (at : ℕ) → Each P (remove [] at)
    each_nothing P zero = tt
    each_nothing P (suc at) = tt
each_left P (x ∷ xs) zero e = e.1
each_left P (x ∷ xs) (suc at) e = (e.0, each_left P xs at e.1)

order_left : (ss : List Seat) (at : ℕ) → AskedInOrder ss → AskedInOrder (remove ss at)
order_left [] zero o = tt
order_left [] (suc at) o = tt
order_left (s ∷ ss) zero o = o.1
order_left (s ∷ ss) (suc at) o = (λ e v. each_left (λ r. r.asked ≡ false) ss at (o.0 e v), order_left ss at o.1)

-- a fact of an ask is of the move
asked_move : (mv : Move) (f : Fact) → Answers mv f → is_ask f ≡ true → mv ≡ moves.Ask
asked_move mv (facts.Asked n) a e = a
asked_move mv facts.Unasked a e = a
asked_move mv facts.Repeated a e = absurd (false≢true e)
asked_move mv facts.Cancelled a e = absurd (false≢true e)
asked_move mv facts.Lost a e = absurd (false≢true e)
asked_move mv facts.Joined a e = absurd (false≢true e)
asked_move mv facts.Quiet a e = absurd (false≢true e)
asked_move mv (facts.Read n) a e = absurd (false≢true e)
asked_move mv facts.Ended a e = absurd (false≢true e)
asked_move mv facts.Failed a e = absurd (false≢true e)
asked_move mv (facts.Put n) a e = absurd (false≢true e)
asked_move mv (facts.Took n) a e = absurd (false≢true e)
asked_move mv (facts.Written n) a e = absurd (false≢true e)
asked_move mv facts.Closed a e = absurd (false≢true e)
asked_move mv facts.Rested a e = absurd (false≢true e)
asked_move mv facts.HungUp a e = absurd (false≢true e)
asked_move mv facts.Reset a e = absurd (false≢true e)
asked_move mv facts.Lacking a e = absurd (false≢true e)

ordered_after : (ss : List Seat) (x : Act) → Ordered ss → CanHappen ss x → Ordered (seats_after ss x)
ordered_after ss Comes o can = (each_last Kept ss fresh_seat o.0 (λ e. tt), order_last ss o.1)
ordered_after ss (Tells at see f) o can =
    (kept_told ss at see f o.0, order_told ss at see f o.0 o.1 (λ a. asks_in_turn (minds_of ss) at see (asked_move (queue_next (minds_of ss) at see) f can a)))
ordered_after ss (Leaves at) o can = (each_left Kept ss at o.0, order_left ss at o.1)

ordered_run : (ss : List Seat) (xs : List Act) → Ordered ss → ActsOf ss xs → Ordered (seats_of ss xs)
ordered_run ss [] o run = o
ordered_run ss (x ∷ xs) o run = ordered_run (seats_after ss x) xs (ordered_after ss x o run.0) run.1

pub jobs_ask_in_order : (xs : List Act) → ActsOf [] xs → AskedInOrder (seats_of [] xs)
jobs_ask_in_order xs run = (ordered_run [] xs (tt, tt) run).1

-- numbers
all_above : (n m : ℕ) (ns : List ℕ) → n ≤ m → Each (λ k. m < k) ns → Each (λ k. n < k) ns
all_above n m ns le e = each_map (λ k. m < k) (λ k. n < k) (λ k lt. omega (arith, le, lt)) ns e

abbrev Fresh : ℕ → List ℕ → Type 0
Fresh last ns = Each (λ n. last < n) ns × Rising ns

drawn_rising : (b : Bool) (last : ℕ) (ns : List ℕ) → (last == 65535) ≡ b → Fresh (if b then last else last + 1) ns → Fresh last (with_number (if b then None else Some (last + 1)) ns)
drawn_rising true last ns e rest = rest
drawn_rising false last ns e rest = ((omega arith, all_above last (last + 1) ns (omega arith) rest.0), (rest.0, rest.1))

pub numbers_are_new : (count last : ℕ) → Each (λ n. last < n) (drawn_in count last) × Rising (drawn_in count last)
numbers_are_new zero last = (tt, tt)
numbers_are_new (suc count) last = drawn_rising (last == 65535) last (drawn_in count (numbers_after last)) refl (numbers_are_new count (numbers_after last))
