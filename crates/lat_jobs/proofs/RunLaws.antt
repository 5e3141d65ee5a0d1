-- The laws of runs, and of when a job asks and ends.
use Rattle.std.proofs.Common.{◌≡◌, ℕ, ◌+◌, ◌<◌, ◌≤◌, List, [], ◌∷◌, ◌++◌, length, refl, arith, inl, inr, sym, ap, subst, ◌∙◌, length-take}
use Rattle.std.specs.Prelude.{Bool, true, false, not, ◌&&◌, nat_lt, ◌⊎◌, Option, Some, None, zero, suc}
use Rattle.std.proofs.lemmas.Bool.{and_from, and_left, and_parts, and_right, cond-false, cond-true, not-false, not_from_true, or_from, or_parts, false≢true, true≢false}
use Rattle.std.proofs.lemmas.Bool.Decides.{nat_tests}
use Rattle.lat_mind.specs.Looks.{holds_on, is_free, is_live}
use Rattle.lat_jobs.specs.declared.fact.Fact.{Fact}
use Rattle.lat_jobs.specs.declared.fact.Fact.TheVariants as facts
use Rattle.lat_jobs.specs.declared.fact.Move.{Move}
use Rattle.lat_jobs.specs.declared.fact.Move.TheVariants as moves
use Rattle.lat_jobs.specs.declared.look.Look.{Look}
use Rattle.lat_jobs.specs.declared.phase.Pause.{Pause}
use Rattle.lat_jobs.specs.declared.phase.Ask.{Ask}
use Rattle.lat_jobs.specs.declared.phase.Print.{Print}
use Rattle.lat_jobs.specs.declared.phase.Phase.{Phase}
use Rattle.lat_jobs.specs.declared.phase.Phase.TheVariants as phases
use Rattle.lat_jobs.specs.declared.mind.JobMind.{JobMind}
use Rattle.lat_base.specs.declared.state.SessionEnd.{SessionEnd}
use Rattle.lat_base.specs.declared.state.SessionEnd.TheVariants as ends
use Rattle.lat_jobs.specs.Looks.{is_for, is_stopped}
use Rattle.lat_jobs.specs.Minds.{comes, is_due, is_past, is_whole, mind_next, next_at}
use Rattle.lat_jobs.specs.Phases.{breaks, here}
use Rattle.lat_jobs.specs.Reasons.{Why, has_failed, was_stopped}
use Rattle.lat_jobs.specs.Runs.{Answers, RunOf, Tale, Turn, fresh_tale, number_in, offer_at, tale_of}
use Rattle.lat_jobs.specs.Good.{Good, GoodPhase, wait_of}
use Rattle.lat_jobs.specs.Laws.{AskIsDue, AskIsRight, IsDone, IsStopped, LawOfRuns, RepeatIsDue, WriteIsRight, session_in}
use Rattle.lat_jobs.proofs.Reasons.{all_put, reason, whole_parts}
use Rattle.lat_jobs.proofs.Runs.{finish, good_from_fresh, here_parts, numbered}

ask_right : (t : Tale) (p : Phase) (see : Look) (turn : Bool) → GoodPhase t p → t.mind.wait ≡ wait_of t.tries → Why t.mind.wait p see turn moves.Ask → AskIsRight t see turn
ask_right t (phases.Pausing p) see turn good w why =
    let time : p.since + t.mind.wait ≤ see.moment = past p.since t.mind.wait see.moment why.2 in
    let since = good.since in
    record { turns = why.1; put = good.untouched.put; waited = omega (arith, time, since, w) }
  where
    past : (from span now : ℕ) → is_past from span now ≡ true → from + span ≤ now
    past from span now e = grind (arith, nat_tests)
ask_right t (phases.Asking a) see turn good w why = absurd why
ask_right t (phases.Printing g) see turn good w why = absurd why
ask_right t phases.Over see turn good w why = absurd why

join_right : (t : Tale) (p : Phase) (see : Look) (turn : Bool) → GoodPhase t p → Why t.mind.wait p see turn moves.Join → (see.request ≡ Some (number_in p)) × (t.put ≡ []) × (t.read ≡ [])
join_right t (phases.Pausing p) see turn good why = absurd why
join_right t (phases.Asking a) see turn good why = (numbered see.request a.number ((and_parts (is_for see.request a.number) (holds_on see.line) why.1).0), good.untouched.put, good.untouched.read)
join_right t (phases.Printing g) see turn good why = absurd why
join_right t phases.Over see turn good why = absurd why

abbrev Works : Tale → Phase → Look → Type 0
Works t p see = (see.request ≡ Some (number_in p)) × (see.line.newest ≡ session_in p) × (is_live see.line.state ≡ true)

works : (t : Tale) (g : Print) (see : Look) → (here g see && is_live see.line.state) ≡ true → Works t (phases.Printing g) see
works t g see r =
    let both = and_parts (here g see) (is_live see.line.state) r in
    let shown = here_parts g see both.0 in
    (shown.0, shown.1, both.1)

put_right : (t : Tale) (p : Phase) (see : Look) (turn : Bool) → GoodPhase t p → Why t.mind.wait p see turn moves.Put → (t.read ≡ t.put ++ offer_at t p) × (0 < length (offer_at t p)) × Works t p see
put_right t (phases.Pausing p) see turn good why = absurd why
put_right t (phases.Asking a) see turn good why = absurd why
put_right t (phases.Printing g) see turn good why = (good.bytes, omega (arith, length-take g.left t.hand, good.hand, why.3), works t g see why.2)
put_right t phases.Over see turn good why = absurd why

read_right : (t : Tale) (p : Phase) (see : Look) (turn : Bool) → GoodPhase t p → Why t.mind.wait p see turn moves.Read → (t.read ≡ t.put) × Works t p see
read_right t (phases.Pausing p) see turn good why = absurd why
read_right t (phases.Asking a) see turn good why = absurd why
read_right t (phases.Printing g) see turn good why = (finish t.read t.put t.hand g.left good.bytes why.4, works t g see why.3)
read_right t phases.Over see turn good why = absurd why

write_right : (t : Tale) (p : Phase) (see : Look) (turn : Bool) (g : Print) → GoodPhase t p → next_at t.mind.wait p see turn ≡ moves.Write → p ≡ phases.Printing g → WriteIsRight t g
write_right t p see turn g good is at =
    let P : Phase → Type 0 = λ q. GoodPhase t q in
    let Q : Phase → Type 0 = λ q. next_at t.mind.wait q see turn ≡ moves.Write in
    let now : GoodPhase t (phases.Printing g) = subst P at good in
    let why = reason t.mind.wait (phases.Printing g) see turn moves.Write (subst Q at is) in
    record { items = now.items; some = omega (arith, length-take g.owed t.desk, now.desk, why.1) }

close_right : (t : Tale) (p : Phase) (see : Look) (turn : Bool) (g : Print) → GoodPhase t p → next_at t.mind.wait p see turn ≡ moves.Close → p ≡ phases.Printing g → is_live see.line.state ≡ true → has_failed g see ≡ false → t.read ≡ t.put
close_right t p see turn g good is at l f =
    let P : Phase → Type 0 = λ q. GoodPhase t q in
    let Q : Phase → Type 0 = λ q. next_at t.mind.wait q see turn ≡ moves.Close in
    let now : GoodPhase t (phases.Printing g) = subst P at good in
    let why = reason t.mind.wait (phases.Printing g) see turn moves.Close (subst Q at is) in
    finish t.read t.put t.hand g.left now.bytes (all_put (has_failed g see) g.left (is_live see.line.state) why.2 f l)

written : (t : Tale) (g : Print) (see : Look) → GoodPhase t (phases.Printing g) → (g.owed ≡ 0) ⊎ (see.stopping ≡ true) → g.deaf ≡ false → (t.taken ≡ t.written) ⊎ (see.stopping ≡ true)
written t g see good (inl none) d = inl (finish t.taken t.written t.desk g.owed (good.items d) none)
written t g see good (inr s) d = inr s

hang_bytes : (t : Tale) (p : Phase) (see : Look) (turn : Bool) → GoodPhase t p → Why t.mind.wait p see turn moves.HangUp → (t.ended ≡ true) × (t.read ≡ t.put)
hang_bytes t (phases.Pausing p) see turn good why = absurd why
hang_bytes t (phases.Asking a) see turn good why = absurd why
hang_bytes t (phases.Printing g) see turn good why =
    let parts = whole_parts g why.1 in
    (good.ended parts.0, finish t.read t.put t.hand g.left good.bytes parts.1)
hang_bytes t phases.Over see turn good why = absurd why

stopped_end : (end : Option SessionEnd) → is_stopped end ≡ true → end ≡ Some ends.Closed
stopped_end (Some ends.Closed) s = refl
stopped_end (Some (ends.Rejected reason)) s = absurd (false≢true s)
stopped_end (Some (ends.Circuit reason)) s = absurd (false≢true s)
stopped_end None s = absurd (false≢true s)

-- where a session is shown, and isn't anything but free, it is free
free_here : (shown free : Bool) → (shown && not free) ≡ false → shown ≡ true → free ≡ true
free_here true free f h = not-false _ f
free_here false free f h = absurd (false≢true h)

stopped : (g : Print) (see : Look) → (here g see && not (is_free see.line.state)) ≡ false → was_stopped g see ≡ true → IsStopped g see
stopped g see f s =
    let both = and_parts (here g see) (is_stopped see.line.end) s in
    record { own = both.0; free = free_here (here g see) (is_free see.line.state) f both.0; stops = stopped_end see.line.end both.1 }

hang_over : (t : Tale) (p : Phase) (see : Look) (turn : Bool) (g : Print) → next_at t.mind.wait p see turn ≡ moves.HangUp → p ≡ phases.Printing g →
    (g.shut ≡ true) × (has_failed g see ≡ false) × IsStopped g see
hang_over t p see turn g is at =
    let Q : Phase → Type 0 = λ q. next_at t.mind.wait q see turn ≡ moves.HangUp in
    let why = reason t.mind.wait (phases.Printing g) see turn moves.HangUp (subst Q at is) in
    (why.0, or_from g.failed (breaks g see) (whole_parts g why.1).2 why.2, stopped g see why.4 why.5)

hang_items : (t : Tale) (p : Phase) (see : Look) (turn : Bool) (g : Print) → GoodPhase t p → next_at t.mind.wait p see turn ≡ moves.HangUp → p ≡ phases.Printing g → g.deaf ≡ false → (t.taken ≡ t.written) ⊎ (see.stopping ≡ true)
hang_items t p see turn g good is at d =
    let P : Phase → Type 0 = λ q. GoodPhase t q in
    let Q : Phase → Type 0 = λ q. next_at t.mind.wait q see turn ≡ moves.HangUp in
    written t g see (subst P at good) (reason t.mind.wait (phases.Printing g) see turn moves.HangUp (subst Q at is)).3 d

law_of : (t : Tale) → Good t → LawOfRuns t
law_of t good =
    let p = t.mind.phase in
    let why : (see : Look) (turn : Bool) (mv : Move) → mind_next t.mind see turn ≡ mv → Why t.mind.wait p see turn mv = λ see turn mv is. reason t.mind.wait p see turn mv is in
    record {
      asks = λ see turn is. ask_right t p see turn good.phase good.wait (why see turn moves.Ask is);
      joins = λ see turn is. let r = join_right t p see turn good.phase (why see turn moves.Join is) in record { number = r.0; put = r.1; read = r.2 };
      puts = λ see turn is. let r = put_right t p see turn good.phase (why see turn moves.Put is) in record { bytes = r.0; some = r.1; works = record { number = r.2.0; session = r.2.1; live = r.2.2 } };
      reads = λ see turn is. let r = read_right t p see turn good.phase (why see turn moves.Read is) in record { bytes = r.0; works = record { number = r.1.0; session = r.1.1; live = r.1.2 } };
      writes = λ see turn g is at. write_right t p see turn g good.phase is at;
      closes = λ see turn g is at l f. close_right t p see turn g good.phase is at l f;
      hangs = λ see turn is. let r = hang_bytes t p see turn good.phase (why see turn moves.HangUp is) in record { ended = r.0; bytes = r.1; over = λ g at. hang_over t p see turn g is at; items = λ g at d. hang_items t p see turn g good.phase is at d };
      one = good.one;
      cancelled = good.apart;
      waits = good.wait;
    }

pub runs_are_right : (drawn : ℕ) (xs : List Turn) → RunOf (fresh_tale drawn) xs → LawOfRuns (tale_of (fresh_tale drawn) xs)
runs_are_right drawn xs run = law_of (tale_of (fresh_tale drawn) xs) (good_from_fresh drawn xs run)

-- no fact is of a stop
abbrev stops : Move → Bool
stops moves.Stop = true
stops _ = false

pub other : (mv : Move) → stops mv ≡ false → moves.Stop ≡ mv → ⊥
other mv s e = absurd (true≢false (ap stops e ∙ s))

unanswered : (f : Fact) → Answers moves.Stop f → ⊥
unanswered (facts.Asked n) e = other moves.Ask refl e
unanswered facts.Unasked e = other moves.Ask refl e
unanswered facts.Repeated e = other moves.Repeat refl e
unanswered facts.Cancelled e = other moves.Cancel refl e
unanswered facts.Lost e = other moves.Lose refl e
unanswered facts.Joined e = other moves.Join refl e
unanswered facts.Quiet (inl e) = other moves.Watch refl e
unanswered facts.Quiet (inr e) = other moves.Read refl e
unanswered (facts.Read n) e = other moves.Read refl e
unanswered facts.Ended e = other moves.Read refl e
unanswered facts.Failed (inl e) = other moves.Watch refl e
unanswered facts.Failed (inr (inl e)) = other moves.Read refl e
unanswered facts.Failed (inr (inr e)) = other moves.Write refl e
unanswered (facts.Put n) e = other moves.Put refl e
unanswered (facts.Took n) e = other moves.Take refl e
unanswered (facts.Written n) e = other moves.Write refl e
unanswered facts.Closed e = other moves.Close refl e
unanswered facts.Rested e = other moves.Rest refl e
unanswered facts.HungUp e = other moves.HangUp refl e
unanswered facts.Reset e = other moves.Reset refl e
unanswered facts.Lacking e = absurd (false≢true e)

pub over_is_still : (t : Tale) (xs : List Turn) → t.mind.phase ≡ phases.Over → RunOf t xs → xs ≡ []
over_is_still t [] over run = refl
over_is_still t (x ∷ xs) over run =
    let P : Phase → Type 0 = λ p. Answers (next_at t.mind.wait p x.look x.turn) x.fact in
    absurd (unanswered x.fact (subst P over run.0.answers))

pub waits_are_bounded : (n : ℕ) → wait_of n ≤ 300000
waits_are_bounded zero = omega arith
waits_are_bounded (suc n) = omega arith

due : (from span now : ℕ) → from + span ≤ now → is_past from span now ≡ true
due from span now le = grind (arith, nat_tests)

pub asks_in_time : (m : JobMind) (p : Pause) (see : Look) (turn : Bool) → AskIsDue m p see turn → mind_next m see turn ≡ moves.Ask
asks_in_time m p see turn d =
    let P : Phase → Type 0 = λ q. next_at m.wait q see turn ≡ moves.Ask in
    subst P (sym d.pauses)
    (cond-false _ _ _ d.stays ∙ cond-true _ _ _ (and_from turn (is_past p.since m.wait see.moment) d.turns (due p.since m.wait see.moment d.time)))

pub repeats_in_time : (m : JobMind) (a : Ask) (see : Look) (turn : Bool) → RepeatIsDue m a see turn → mind_next m see turn ≡ moves.Repeat
repeats_in_time m a see turn d =
    let P : Phase → Type 0 = λ q. next_at m.wait q see turn ≡ moves.Repeat in
    let time : is_due a see turn ≡ true = cond-false _ _ _ d.unheard ∙ and_from turn (is_past a.asked 5000 see.moment) d.turns (due a.asked 5000 see.moment d.time) in
    let uncome : comes a see ≡ false = and_left (is_for see.request a.number) (holds_on see.line) (or_parts (is_for see.request a.number) _ d.alone).0 in
    subst P (sym d.asks)
    (cond-false _ _ _ d.stays ∙ (cond-false _ _ _ uncome ∙ (cond-false _ _ _ d.alone ∙ (cond-false _ _ _ d.recent ∙ cond-true _ _ _ time))))

unowing : (owed : ℕ) (b : Bool) → owed ≡ 0 → (nat_lt 0 owed && b) ≡ false
unowing owed b z = let none : nat_lt 0 owed ≡ false = grind (arith, nat_tests) in and_left (nat_lt 0 owed) b none

pub done_are_hung_up : (m : JobMind) (g : Print) (see : Look) (turn : Bool) → IsDone m g see → mind_next m see turn ≡ moves.HangUp
done_are_hung_up m g see turn d =
    let P : Phase → Type 0 = λ q. next_at m.wait q see turn ≡ moves.HangUp in
    subst P (sym d.prints)
    (cond-true _ _ _ d.shut
    ∙ (cond-false _ _ _ (or_from (not (is_whole g)) (breaks g see) (not_from_true _ d.whole) d.sound)
    ∙ (cond-false _ _ _ (unowing g.owed (not g.wrote) d.owed)
    ∙ (cond-false _ _ _ (and_right (here g see) (not (is_free see.line.state)) (not_from_true _ d.over.free))
    ∙ (cond-false _ _ _ (not_from_true _ (and_from (here g see) (is_stopped see.line.end) d.over.own (ap is_stopped d.over.stops)))
    ∙ cond-false _ _ _ (unowing g.owed (not see.stopping) d.owed))))))
