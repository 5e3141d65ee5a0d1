-- Each move has its reason.
use Rattle.std.proofs.Common.{◌≡◌, ℕ, ◌<◌, refl, arith, inl, inr, subst, sym}
use Rattle.std.specs.Prelude.{Bool, true, false, not, ◌&&◌, ◌||◌, nat_lt, ◌==◌, ◌⊎◌}
use Rattle.std.proofs.lemmas.Bool.{cond_both, and_parts, and_from, and_right, or_parts, not-true, not-false, ltb-true, eqb-true, false≢true, true≢false}
use Rattle.std.proofs.lemmas.Bool.Decides.{nat_tests}
use Rattle.lat_base.specs.declared.state.SessionState.{SessionState}
use Rattle.lat_base.specs.declared.state.SessionState.TheVariants as states
use Rattle.lat_mind.specs.Looks.{holds_on, is_answered, is_free, is_live, needs}
use Rattle.lat_jobs.specs.declared.fact.Move.{Move}
use Rattle.lat_jobs.specs.declared.look.Look.{Look}
use Rattle.lat_jobs.specs.declared.phase.Pause.{Pause}
use Rattle.lat_jobs.specs.declared.phase.Ask.{Ask}
use Rattle.lat_jobs.specs.declared.phase.Print.{Print}
use Rattle.lat_jobs.specs.declared.phase.Phase.{Phase}
use Rattle.lat_jobs.specs.declared.phase.Phase.TheVariants as phases
use Rattle.lat_jobs.specs.Looks.{is_stopped}
use Rattle.lat_jobs.specs.Minds.{comes, is_due, is_lost, is_open, is_owing, is_past, is_silent, is_whole, next_asking, next_at, next_cut, next_ending, next_live, next_pausing, next_printing, next_serving, next_shut}
use Rattle.lat_jobs.specs.Phases.{breaks, here}
use Rattle.lat_jobs.specs.Reasons.{Why, WhyAsking, WhyPausing, WhyPrinting, has_failed, is_running}

pub why_pausing : (wait : ℕ) (p : Pause) (see : Look) (turn : Bool) → WhyPausing wait p see turn (next_pausing wait p see turn)
why_pausing wait p see turn =
    let P : Move → Type 0 = WhyPausing wait p see turn in
    cond_both (p.gone || see.stopping) _ _ P (λ g. g)
    (λ g. cond_both (turn && is_past p.since wait see.moment) _ _ P
    (λ a. let both = and_parts turn (is_past p.since wait see.moment) a in (g, both.0, both.1)) (λ a. g))

pub why_asking : (a : Ask) (see : Look) (turn : Bool) → WhyAsking a see turn (next_asking a see turn)
why_asking a see turn =
    let P : Move → Type 0 = WhyAsking a see turn in
    cond_both (a.gone || see.stopping) _ _ P (λ g. inl g)
    (λ g. cond_both (comes a see) _ _ P (λ c. (g, c))
    (λ c. cond_both (is_lost a see) _ _ P (λ l. (g, c, l))
    (λ l. cond_both (is_silent a see) _ _ P (λ s. inr s)
    (λ s. cond_both (is_due a see turn) _ _ P (λ d. (g, l, d)) (λ d. (g, l, s))))))

nonzero : (n : ℕ) → (n == 0) ≡ false → 0 < n
nonzero n z = grind (arith, nat_tests)

no_more : (n : ℕ) → nat_lt 0 n ≡ false → n ≡ 0
no_more n r = grind (arith, nat_tests)

unanswered : (state : SessionState) → is_answered state ≡ false → is_live state ≡ false
unanswered states.Free a = refl
unanswered states.Calling a = refl
unanswered states.Asked a = refl
unanswered states.Live a = absurd (true≢false a)
unanswered states.Closing a = refl
unanswered states.Left a = refl

live_needs : (state : SessionState) (waiting : ℕ) → needs state waiting ≡ false → is_live state ≡ false
live_needs states.Free waiting n = refl
live_needs states.Calling waiting n = refl
live_needs states.Asked waiting n = refl
live_needs states.Live waiting n = absurd (true≢false n)
live_needs states.Closing waiting n = refl
live_needs states.Left waiting n = refl

none_left : (left : ℕ) (live : Bool) → (nat_lt 0 left && live) ≡ false → (left ≡ 0) ⊎ (live ≡ false)
none_left left false b = inr refl
none_left left true b = inl (grind (arith, nat_tests))

-- a session that isn't open doesn't run
unopen : (shown : Bool) (state : SessionState) (waiting : ℕ) → (shown && needs state waiting) ≡ false → (shown && is_live state) ≡ false
unopen false state waiting o = refl
unopen true state waiting o = live_needs state waiting o

-- of all that is told apart, a whole job has nothing that failed
whole_sound : (g : Print) → is_whole g ≡ true → g.failed ≡ false
whole_sound g w =
    let rest = (and_parts (g.left == 0) (not g.failed && not g.broken) ((and_parts g.ended (g.left == 0 && (not g.failed && not g.broken)) w).1)).1 in
    not-true _ ((and_parts (not g.failed) (not g.broken) rest).0)

why_cut : (g : Print) (see : Look) → g.shut ≡ false → is_running g see ≡ false → has_failed g see ≡ false → WhyPrinting g see (next_cut g)
why_cut g see s r f =
    let P : Move → Type 0 = WhyPrinting g see in
    cond_both g.touched _ _ P (λ t. inr (inr (t, (s, r)))) (λ t. (t, f, (s, r)))

unowed : (owed : ℕ) (stopping : Bool) → (nat_lt 0 owed && not stopping) ≡ false → (owed ≡ 0) ⊎ (stopping ≡ true)
unowed owed true e = inr refl
unowed owed false e = inl (grind (arith, nat_tests))

why_shut : (g : Print) (see : Look) → g.shut ≡ true → WhyPrinting g see (next_shut g see)
why_shut g see s =
    let P : Move → Type 0 = WhyPrinting g see in
    cond_both (not (is_whole g) || breaks g see) _ _ P (λ b. inl b)
    (λ b. let sound = or_parts (not (is_whole g)) (breaks g see) b in
    let whole : is_whole g ≡ true = not-false _ sound.0 in
    let kept : g.failed ≡ false = whole_sound g whole in
    cond_both (is_owing g) _ _ P (λ o. (kept, ltb-true 0 g.owed ((and_parts (nat_lt 0 g.owed) (not g.wrote) o).0)))
    (λ o. cond_both (here g see && not (is_free see.line.state)) _ _ P (λ h. (and_parts (here g see) (not (is_free see.line.state)) h).0)
    (λ h. cond_both (not (here g see && is_stopped see.line.end)) _ _ P (λ c. inr (inl (s, not-true _ c)))
    (λ c. cond_both (nat_lt 0 g.owed && not see.stopping) _ _ P (λ w. (kept, ltb-true 0 g.owed ((and_parts (nat_lt 0 g.owed) (not see.stopping) w).0)))
    (λ w. (s, whole, sound.1, unowed g.owed see.stopping w, h, not-false _ c))))))

why_ending : (g : Print) (see : Look) → g.shut ≡ false → here g see ≡ true → has_failed g see ≡ false → WhyPrinting g see (next_ending g see)
why_ending g see s h f =
    let P : Move → Type 0 = WhyPrinting g see in
    cond_both (nat_lt 0 g.left && is_live see.line.state) _ _ P
    (λ b. let both = and_parts (nat_lt 0 g.left) (is_live see.line.state) b in
    cond_both (nat_lt 0 see.line.room) _ _ P
    (λ r. (s, f, and_from (here g see) (is_live see.line.state) h both.1, ltb-true 0 g.left both.0, ltb-true 0 see.line.room r)) (λ r. h))
    (λ b. (s, h, inr (none_left g.left (is_live see.line.state) b)))

why_live : (g : Print) (see : Look) → g.shut ≡ false → see.stopping ≡ false → here g see ≡ true → has_failed g see ≡ false → is_live see.line.state ≡ true → WhyPrinting g see (next_live g see)
why_live g see s e h f l =
    let P : Move → Type 0 = WhyPrinting g see in
    let runs : is_running g see ≡ true = and_from (here g see) (is_live see.line.state) h l in
    cond_both (g.left == 0) _ _ P
    (λ z. let none : g.left ≡ 0 = eqb-true g.left 0 z in
    cond_both g.ended _ _ P (λ d. (s, h, inr (inl none))) (λ d. (s, e, f, runs, none, d)))
    (λ z. cond_both (nat_lt 0 see.line.room) _ _ P (λ r. (s, f, runs, nonzero g.left z, ltb-true 0 see.line.room r))
    (λ r. cond_both (nat_lt 0 g.owed) _ _ P (λ o. ((or_parts g.failed (breaks g see) f).0, ltb-true 0 g.owed o)) (λ o. h)))

why_serving : (g : Print) (see : Look) → g.shut ≡ false → see.stopping ≡ false → here g see ≡ true → has_failed g see ≡ false → WhyPrinting g see (next_serving g see)
why_serving g see s e h f =
    let P : Move → Type 0 = WhyPrinting g see in
    cond_both (not (is_answered see.line.state)) _ _ P (λ a. (s, e, not-true _ a))
    (λ a. cond_both (is_live see.line.state && g.wrote) _ _ P (λ c. why_live g see s e h f (and_parts (is_live see.line.state) g.wrote c).0)
    (λ c. cond_both (nat_lt 0 see.line.waiting && (g.owed == 0 && not g.deaf)) _ _ P
    (λ t. let rest = and_parts (g.owed == 0) (not g.deaf) ((and_parts (nat_lt 0 see.line.waiting) (g.owed == 0 && not g.deaf) t).1) in
    (s, e, f, h, eqb-true g.owed 0 rest.0, not-true _ rest.1))
    (λ t. cond_both (is_live see.line.state) _ _ P (λ l. why_live g see s e h f l)
    (λ l. cond_both (nat_lt 0 g.owed) _ _ P (λ o. ((or_parts g.failed (breaks g see) f).0, ltb-true 0 g.owed o))
    (λ o. why_cut g see s (and_right (here g see) (is_live see.line.state) l) f)))))

-- one of them failed, so the job isn't whole
unwhole : (whole failed broken : Bool) → (failed ≡ true → whole ≡ false) → (failed || broken) ≡ true → (not whole || broken) ≡ true
unwhole false failed broken w f = refl
unwhole true true broken w f = absurd (true≢false (w refl))
unwhole true false broken w f = f

pub failed_unwhole : (g : Print) → g.failed ≡ true → is_whole g ≡ false
failed_unwhole g f =
    let B : Bool → Type 0 = λ b. (g.ended && (g.left == 0 && (not b && not g.broken))) ≡ false in
    let none : (g.ended && (g.left == 0 && (not true && not g.broken))) ≡ false = and_right g.ended (g.left == 0 && false) (and_right (g.left == 0) false refl) in
    subst B (sym f) none

pub why_printing : (g : Print) (see : Look) → WhyPrinting g see (next_printing g see)
why_printing g see =
    let P : Move → Type 0 = WhyPrinting g see in
    cond_both g.shut _ _ P (λ s. why_shut g see s)
    (λ s. cond_both (g.failed || breaks g see) _ _ P
    (λ f. cond_both (is_open g see) _ _ P (λ o. (s, (and_parts (here g see) (holds_on see.line) o).0, inl f))
    (λ o. inl (unwhole (is_whole g) g.failed (breaks g see) (failed_unwhole g) f)))
    (λ f. cond_both (is_owing g) _ _ P (λ w. ((or_parts g.failed (breaks g see) f).0, ltb-true 0 g.owed ((and_parts (nat_lt 0 g.owed) (not g.wrote) w).0)))
    (λ w. cond_both (not (is_open g see)) _ _ P (λ o. why_cut g see s (unopen (here g see) see.line.state see.line.waiting (not-true _ o)) f)
    (λ o. let h : here g see ≡ true = (and_parts (here g see) (holds_on see.line) (not-false _ o)).0 in
    cond_both see.stopping _ _ P (λ e. why_ending g see s h f) (λ e. why_serving g see s e h f)))))

pub why_at : (wait : ℕ) (p : Phase) (see : Look) (turn : Bool) → Why wait p see turn (next_at wait p see turn)
why_at wait (phases.Pausing p) see turn = why_pausing wait p see turn
why_at wait (phases.Asking a) see turn = why_asking a see turn
why_at wait (phases.Printing g) see turn = why_printing g see
why_at wait phases.Over see turn = tt

-- the reason of a move that was made
pub reason : (wait : ℕ) (p : Phase) (see : Look) (turn : Bool) (mv : Move) → next_at wait p see turn ≡ mv → Why wait p see turn mv
reason wait p see turn mv e = let P : Move → Type 0 = λ v. Why wait p see turn v in subst P e (why_at wait p see turn)

-- what a whole job is: its client has sent all, all is put, and its connection didn't fail
pub whole_parts : (g : Print) → is_whole g ≡ true → (g.ended ≡ true) × (g.left ≡ 0) × (g.failed ≡ false)
whole_parts g w =
    let parts = and_parts g.ended (g.left == 0 && (not g.failed && not g.broken)) w in
    (parts.0, eqb-true g.left 0 (and_parts (g.left == 0) (not g.failed && not g.broken) parts.1).0, whole_sound g w)

-- of a live session all is put, where nothing failed
pub all_put : (failed : Bool) (left : ℕ) (live : Bool) → (failed ≡ true) ⊎ ((left ≡ 0) ⊎ (live ≡ false)) → failed ≡ false → live ≡ true → left ≡ 0
all_put true left live why f l = absurd (true≢false f)
all_put false left live (inl e) f l = absurd (false≢true e)
all_put false left live (inr (inl e)) f l = e
all_put false left true (inr (inr e)) f l = absurd (true≢false e)
all_put false left false (inr (inr e)) f l = absurd (false≢true l)
