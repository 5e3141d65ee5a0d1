-- The laws of runs, and of tries.
use Rattle.std.proofs.Common.{◌≡◌, ◌≢◌, ℕ, ◌+◌, ◌<◌, ◌≤◌, List, [], ◌∷◌, ◌++◌, length, refl, arith, inl, inr, sym, ap, subst, ◌∙◌, length-take}
use Rattle.std.specs.Prelude.{Bool, true, false, not, ◌&&◌, ◌||◌, nat_le, nat_lt, ◌==◌, ◌⊎◌, is_none, is_some, if◌then◌else◌, Option, Some, None}
use Rattle.std.proofs.lemmas.Bool.{and_from, and_left, and_parts, and_right, cond-false, cond-true, or_from, or_left, or_right, eq-eqb, lt-ltb, false_from_ne_true, false≢true, true≢false, not_from_true, not_from_false, eqb-true, ne_eqb, le-ltb, ltb-true}
use Rattle.std.proofs.lemmas.Bool.Decides.{nat_tests}
use Rattle.lat_mind.specs.declared.fact.Move.{Move}
use Rattle.lat_mind.specs.declared.fact.Move.TheVariants as moves
use Rattle.lat_mind.specs.declared.look.Look.{Look}
use Rattle.lat_mind.specs.declared.look.Owner.{Owner}
use Rattle.lat_mind.specs.declared.look.Owner.TheVariants as owners
use Rattle.lat_base.specs.declared.state.SessionState.{SessionState}
use Rattle.lat_base.specs.declared.state.SessionState.TheVariants as states
use Rattle.lat_base.specs.declared.state.SessionEnd.TheVariants as ends
use Rattle.lat_mind.specs.declared.phase.Waiter.{Waiter}
use Rattle.lat_mind.specs.declared.phase.Guest.{Guest}
use Rattle.lat_mind.specs.declared.phase.Phase.{Phase}
use Rattle.lat_mind.specs.declared.phase.Phase.TheVariants as phases
use Rattle.lat_mind.specs.declared.kind.Kind.{Kind}
use Rattle.lat_mind.specs.declared.kind.Kind.TheVariants as kinds
use Rattle.lat_mind.specs.declared.mind.LineMind.{LineMind}
use Rattle.lat_mind.specs.Kinds.{is_calling, is_offering}
use Rattle.lat_mind.specs.Looks.{at_port, avoidable, holds_on, is_answered, is_free, is_job, is_live, is_own, is_shunned, is_unanswered, needs, shows_live, was_closed}
use Rattle.lat_mind.specs.Minds.{fresh_for, has_stood, is_last, is_late, is_overdue, may_try, mind_next, next_alone, next_at, next_joined, next_live, next_lost, next_shut, next_waiting, spent, sweeps, to_dial}
use Rattle.lat_mind.specs.Reasons.{Why, WhyAlone}
use Rattle.lat_mind.specs.Runs.{RunOf, Tale, Turn, due_at, fresh_tale, offer_at, tale_next, tale_of}
use Rattle.lat_mind.specs.Good.{Each, Good, GoodPhase}
use Rattle.lat_mind.specs.Laws.{AnswerIsLate, AttachIsDue, IsBehind, IsLost, IsPast, LawOfRuns, TryIsDue, WaitIsOver, session_in}
use Rattle.lat_mind.proofs.Reasons.{all_put, why_alone}
use Rattle.lat_mind.proofs.Runs.{finish, good_from_fresh, reason}

put_right : (t : Tale) (p : Phase) (see : Look) → GoodPhase t p → Why t.mind p see moves.Put → (t.read ≡ t.put ++ offer_at t p) × (0 < length (offer_at t p)) × (see.line.newest ≡ session_in p) × (is_live see.line.state ≡ true)
put_right t phases.Alone see good why = absurd why
put_right t (phases.Waiting w) see good why = absurd why
put_right t (phases.Joined g) see good why = (good.bytes, omega (arith, length-take g.left t.hand, good.hand, why.2), why.0, why.1)
put_right t phases.Finished see good why = absurd why

read_right : (t : Tale) (p : Phase) (see : Look) → GoodPhase t p → Why t.mind p see moves.Read → (t.read ≡ t.put) × (see.line.newest ≡ session_in p) × (is_live see.line.state ≡ true)
read_right t phases.Alone see good why = absurd why
read_right t (phases.Waiting w) see good why = absurd why
read_right t (phases.Joined g) see good why = (finish t.read t.put t.hand g.left good.bytes why.3, why.1, why.2)
read_right t phases.Finished see good why = absurd why

write_right : (t : Tale) (p : Phase) (see : Look) → GoodPhase t p → Why t.mind p see moves.Write → (t.taken ≡ t.written ++ due_at t p) × (0 < length (due_at t p))
write_right t phases.Alone see good why = absurd why
write_right t (phases.Waiting w) see good why = absurd why
write_right t (phases.Joined g) see good why = (good.items, omega (arith, length-take g.owed t.desk, good.desk, why.1))
write_right t phases.Finished see good why = absurd why

take_right : (t : Tale) (p : Phase) (see : Look) → GoodPhase t p → Why t.mind p see moves.Take → (t.taken ≡ t.written) × (see.line.newest ≡ session_in p)
take_right t phases.Alone see good why = absurd why
take_right t (phases.Waiting w) see good why = absurd why
take_right t (phases.Joined g) see good why = (finish t.taken t.written t.desk g.owed good.items why.3, why.1)
take_right t phases.Finished see good why = absurd why

-- a live session is closed where all that was read is put
close_right : (t : Tale) (p : Phase) (see : Look) → GoodPhase t p → next_at t.mind p see ≡ moves.Close → (g : Guest) → p ≡ phases.Joined g → is_live see.line.state ≡ true → t.read ≡ t.put
close_right t p see good is g at l =
    let P : Phase → Type 0 = λ q. GoodPhase t q in
    let Q : Phase → Type 0 = λ q. next_at t.mind q see ≡ moves.Close in
    let here : GoodPhase t (phases.Joined g) = subst P at good in
    let why = reason t.mind (phases.Joined g) see moves.Close (subst Q at is) in
    finish t.read t.put t.hand g.left here.bytes (all_put g.left (is_live see.line.state) why.2 l)

hung_items : (t : Tale) (g : Guest) → GoodPhase t (phases.Joined g) → (g.owed ≡ 0) ⊎ (g.failed ≡ true) → (t.taken ≡ t.written) ⊎ (g.failed ≡ true)
hung_items t g good (inl none) = inl (finish t.taken t.written t.desk g.owed good.items none)
hung_items t g good (inr f) = inr f

hang_right : (t : Tale) (p : Phase) (see : Look) → GoodPhase t p → next_at t.mind p see ≡ moves.HangUp → (g : Guest) → p ≡ phases.Joined g → (t.taken ≡ t.written) ⊎ (g.failed ≡ true)
hang_right t p see good is g at =
    let P : Phase → Type 0 = λ q. GoodPhase t q in
    let Q : Phase → Type 0 = λ q. next_at t.mind q see ≡ moves.HangUp in
    hung_items t g (subst P at good) ((reason t.mind (phases.Joined g) see moves.HangUp (subst Q at is)).0)

hang_unready : (m : LineMind) (p : Phase) (see : Look) → Why m p see moves.HangUp → m.ready ≡ false
hang_unready m phases.Alone see why = absurd why
hang_unready m (phases.Waiting w) see why = why.1
hang_unready m (phases.Joined g) see why = why.2
hang_unready m phases.Finished see why = absurd why

law_of : (t : Tale) → Good t → LawOfRuns t
law_of t good =
    let p = t.mind.phase in
    record {
      puts = λ see is. let r = put_right t p see good.phase (reason t.mind p see moves.Put is) in record { bytes = r.0; some = r.1; works = record { session = r.2; live = r.3 } };
      reads = λ see is. let r = read_right t p see good.phase (reason t.mind p see moves.Read is) in record { bytes = r.0; works = record { session = r.1; live = r.2 } };
      writes = λ see is. let r = write_right t p see good.phase (reason t.mind p see moves.Write is) in record { items = r.0; some = r.1 };
      takes = λ see is. let r = take_right t p see good.phase (reason t.mind p see moves.Take is) in record { items = r.0; session = r.1 };
      closes = λ see is g at l. close_right t p see good.phase is g at l;
      hangs = λ see is. record { items = λ g at. hang_right t p see good.phase is g at; unready = sym good.ready ∙ hang_unready t.mind p see (reason t.mind p see moves.HangUp is) };
      ready = λ r. good.device (good.ready ∙ r);
      callers = good.one;
    }

pub runs_are_right : (kind : Kind) (xs : List Turn) → RunOf (fresh_tale kind) xs → LawOfRuns (tale_of (fresh_tale kind) xs)
runs_are_right kind xs run = law_of (tale_of (fresh_tale kind) xs) (good_from_fresh kind xs run)

-- without a caller

-- a session that needs nothing isn't swept, and is for nobody
unswept : (m : LineMind) (see : Look) → holds_on see.line ≡ false → sweeps m see ≡ false
unswept m see h =
    let why : Bool = see.stopping || (not (fresh_for m see) || is_late m see) in
    and_right (not (see.line.newest == m.shut)) (holds_on see.line && (not (is_job see.owner) && why)) (and_left (holds_on see.line) (not (is_job see.owner) && why) h)

unfresh : (m : LineMind) (see : Look) → holds_on see.line ≡ false → fresh_for m see ≡ false
unfresh m see h =
    let due : Bool = holds_on see.line && is_own see.owner in
    and_right (not (is_calling m.kind)) (nat_lt m.seen see.line.newest && (not (see.line.newest == m.shut) && due))
    (and_right (nat_lt m.seen see.line.newest) (not (see.line.newest == m.shut) && due)
    (and_right (not (see.line.newest == m.shut)) due (and_left (holds_on see.line) (is_own see.owner) h)))

unless : {P : Type 0} (b : Bool) → b ≡ true → b ≡ false → P
unless b t f = absurd (true≢false (sym t ∙ f))

abbrev IsStill : Move → Type 0
IsStill mv = (mv ≡ moves.Accept) ⊎ ((mv ≡ moves.Attach) ⊎ ((mv ≡ moves.Rest) ⊎ (mv ≡ moves.Finish)))

still_by : (m : LineMind) (see : Look) (mv : Move) → holds_on see.line ≡ false → WhyAlone m see mv → IsStill mv
still_by m see moves.Accept h why = inl refl
still_by m see moves.Attach h why = inr (inl refl)
still_by m see moves.Rest h why = inr (inr (inl refl))
still_by m see moves.Finish h why = inr (inr (inr refl))
still_by m see moves.Close h why = unless (sweeps m see) why (unswept m see h)
still_by m see moves.Dial h why = unless (fresh_for m see) why.1 (unfresh m see h)
still_by m see moves.Ready h why = absurd why
still_by m see moves.Unready h why = absurd why
still_by m see moves.Join h why = absurd why
still_by m see moves.Connect h why = absurd why
still_by m see moves.Avoid h why = absurd why
still_by m see moves.Lose h why = absurd why
still_by m see moves.Attend h why = absurd why
still_by m see moves.Take h why = absurd why
still_by m see moves.Put h why = absurd why
still_by m see moves.Read h why = absurd why
still_by m see moves.Write h why = absurd why
still_by m see moves.Watch h why = absurd why
still_by m see moves.HangUp h why = absurd why

pub alone_is_still : (m : LineMind) (see : Look) → m.phase ≡ phases.Alone → holds_on see.line ≡ false → IsStill (mind_next m see)
alone_is_still m see is h =
    let P : Phase → Type 0 = λ p. IsStill (next_at m p see) in
    subst P (sym is) (still_by m see (next_at m phases.Alone see) h (why_alone m see))

-- tries
free_needs : (s : SessionState) (waiting : ℕ) → is_free s ≡ true → needs s waiting ≡ false
free_needs states.Free waiting e = refl
free_needs states.Calling waiting e = absurd (false≢true e)
free_needs states.Asked waiting e = absurd (false≢true e)
free_needs states.Live waiting e = absurd (false≢true e)
free_needs states.Closing waiting e = absurd (false≢true e)
free_needs states.Left waiting e = absurd (false≢true e)

calling_offers : (k : Kind) → is_calling k ≡ true → is_offering k ≡ false
calling_offers kinds.Calling e = refl
calling_offers kinds.Answering e = refl
calling_offers kinds.Offering e = absurd (false≢true e)

tries : (m : LineMind) (w : Waiter) (see : Look) → is_calling m.kind ≡ true → w.gone ≡ false →
    see.stopping ≡ false → is_free see.line.state ≡ true → may_try w.tried 1000 see.moment ≡ true → next_waiting m w see ≡ moves.Connect
tries m w see c g s f t =
    let held : holds_on see.line ≡ false = free_needs see.line.state see.line.waiting f in
    cond-false _ _ _ (or_from see.stopping (w.gone && not (is_offering m.kind && fresh_for m see)) s (and_left w.gone (not (is_offering m.kind && fresh_for m see)) g))
    ∙ (cond-false _ _ _ (unfresh m see held)
    ∙ (cond-false _ _ _ (unswept m see held)
    ∙ (cond-false _ _ _ (calling_offers m.kind c)
    ∙ cond-true _ _ _ (and_from (is_calling m.kind) (is_free see.line.state && may_try w.tried 1000 see.moment) c (and_from (is_free see.line.state) (may_try w.tried 1000 see.moment) f t)))))

tries_in : (t : Tale) (p : Phase) (w : Waiter) (see : Look) → p ≡ phases.Waiting w → GoodPhase t p → is_calling t.mind.kind ≡ true → w.gone ≡ false →
    see.stopping ≡ false → is_free see.line.state ≡ true → may_try t.tried 1000 see.moment ≡ true → next_at t.mind p see ≡ moves.Connect
tries_in t p w see is good c g s f y =
    let P : Phase → Type 0 = λ q. next_at t.mind q see ≡ moves.Connect in
    let Q : Phase → Type 0 = λ q. GoodPhase t q in
    let here : GoodPhase t (phases.Waiting w) = subst Q is good in
    subst P (sym is) (tries t.mind w see c g s f (ap (λ o. may_try o 1000 see.moment) here.1 ∙ y))

pub tries_again : (kind : Kind) (xs : List Turn) (w : Waiter) (see : Look) → RunOf (fresh_tale kind) xs → TryIsDue (tale_of (fresh_tale kind) xs) w see → mind_next (tale_of (fresh_tale kind) xs).mind see ≡ moves.Connect
tries_again kind xs w see run due =
    let t = tale_of (fresh_tale kind) xs in
    tries_in t t.mind.phase w see due.waits (good_from_fresh kind xs run).phase due.calls due.stays due.going due.free due.time

-- the next caller
takes_next : (m : LineMind) (see : Look) → is_offering m.kind ≡ false → see.stopping ≡ false → is_free see.line.state ≡ true → next_alone m see ≡ moves.Accept
takes_next m see o s f =
    let held : holds_on see.line ≡ false = free_needs see.line.state see.line.waiting f in
    cond-false _ _ _ (unswept m see held)
    ∙ (cond-false _ _ _ s
    ∙ (cond-false _ _ _ o
    ∙ (cond-false _ _ _ (and_left (fresh_for m see) (to_dial m see) (unfresh m see held))
    ∙ cond-true _ _ _ (or_right (fresh_for m see) (is_free see.line.state) f))))

pub callers_are_taken : (m : LineMind) (see : Look) → m.phase ≡ phases.Alone → is_offering m.kind ≡ false → see.stopping ≡ false → is_free see.line.state ≡ true → mind_next m see ≡ moves.Accept
callers_are_taken m see is o s f =
    let P : Phase → Type 0 = λ q. next_at m q see ≡ moves.Accept in
    subst P (sym is) (takes_next m see o s f)

-- the device
attaches : (m : LineMind) (see : Look) → is_offering m.kind ≡ true → see.wanted ≡ true → see.stopping ≡ false → is_free see.line.state ≡ true → may_try m.away 5000 see.moment ≡ true → next_alone m see ≡ moves.Attach
attaches m see o w s f t =
    let held : holds_on see.line ≡ false = free_needs see.line.state see.line.waiting f in
    cond-false _ _ _ (unswept m see held)
    ∙ (cond-false _ _ _ s
    ∙ (cond-true _ _ _ o
    ∙ cond-true _ _ _ (and_from (see.wanted || fresh_for m see) (may_try m.away 5000 see.moment) (or_left see.wanted (fresh_for m see) w) t)))

pub attaches_again : (kind : Kind) (xs : List Turn) (see : Look) → RunOf (fresh_tale kind) xs → AttachIsDue (tale_of (fresh_tale kind) xs) see → mind_next (tale_of (fresh_tale kind) xs).mind see ≡ moves.Attach
attaches_again kind xs see run due =
    let t = tale_of (fresh_tale kind) xs in
    let P : Phase → Type 0 = λ q. next_at t.mind q see ≡ moves.Attach in
    let good = good_from_fresh kind xs run in
    subst P (sym due.alone) (attaches t.mind see due.offers due.wanted due.going due.free (ap (λ o. may_try o 5000 see.moment) good.away ∙ due.time))

-- sessions that wait
runs_on : (t : Tale) (xs ys : List Turn) → tale_of t (xs ++ ys) ≡ tale_of (tale_of t xs) ys
runs_on t [] ys = refl
runs_on t (x ∷ xs) ys = runs_on (tale_next t x) xs ys

-- a session that wasn't shown isn't noted
unnoted : (k : ℕ) (t : Tale) (xs : List Turn) → t.mind.noted ≢ k → Each (λ x. x.look.line.newest ≢ k) xs → (tale_of t xs).mind.noted ≢ k
unnoted k t [] apart other = apart
unnoted k t (x ∷ xs) apart other = unnoted k (tale_next t x) xs other.0 other.1

since_kept : (noted since newest moment : ℕ) → noted ≡ newest → (if noted == newest then since else moment) ≡ since
since_kept noted since newest moment e = cond-true _ _ _ (eq-eqb noted newest e)

since_now : (noted since newest moment : ℕ) → (noted ≡ newest → ⊥) → (if noted == newest then since else moment) ≡ moment
since_now noted since newest moment apart = cond-false _ _ _ (ne_eqb noted newest apart)

-- one that is shown stays noted since the first look
noted : (k : ℕ) (t : Tale) (xs : List Turn) → t.mind.noted ≡ k → Each (λ x. x.look.line.newest ≡ k) xs → ((tale_of t xs).mind.noted ≡ k) × ((tale_of t xs).mind.since ≡ t.mind.since)
noted k t [] is same = (is, refl)
noted k t (x ∷ xs) is same =
    let rest = noted k (tale_next t x) xs same.0 same.1 in
    (rest.0, rest.1 ∙ since_kept t.mind.noted t.mind.since x.look.line.newest x.look.moment (is ∙ sym same.0))

late_closes : (m : LineMind) (see : Look) → fresh_for m see ≡ true → at_port see.owner ≡ true → is_late m see ≡ true → next_alone m see ≡ moves.Close
late_closes m see f p l =
    let due : Bool = holds_on see.line && is_own see.owner in
    let unshut : Bool = not (see.line.newest == m.shut) in
    let rest = and_parts unshut due ((and_parts (nat_lt m.seen see.line.newest) (unshut && due) ((and_parts (not (is_calling m.kind)) (nat_lt m.seen see.line.newest && (unshut && due)) f).1)).1) in
    let held = (and_parts (holds_on see.line) (is_own see.owner) rest.1).0 in
    let why : Bool = see.stopping || (not (fresh_for m see) || is_late m see) in
    let late : why ≡ true = or_right see.stopping (not (fresh_for m see) || is_late m see) (or_right (not (fresh_for m see)) (is_late m see) l) in
    cond-true _ _ _ (and_from unshut (holds_on see.line && (not (is_job see.owner) && why)) rest.0 (and_from (holds_on see.line) (not (is_job see.owner) && why) held (and_from (not (is_job see.owner)) why (port_no_job see.owner p) late)))
  where
    port_no_job : (o : Owner) → at_port o ≡ true → not (is_job o) ≡ true
    port_no_job owners.Port e = refl
    port_no_job owners.Device e = refl
    port_no_job owners.Job e = absurd (false≢true e)
    port_no_job owners.Nobody e = refl

above : (m : LineMind) (see : Look) → fresh_for m see ≡ true → 0 < see.line.newest
above m see f =
    let rest : Bool = not (see.line.newest == m.shut) && (holds_on see.line && is_own see.owner) in
    let seen : m.seen < see.line.newest = ltb-true m.seen see.line.newest ((and_parts (nat_lt m.seen see.line.newest) rest ((and_parts (not (is_calling m.kind)) (nat_lt m.seen see.line.newest && rest) f).1)).0) in
    omega (arith, seen)

closes_late : (t : Tale) (see : Look) (moment : ℕ) → t.mind.phase ≡ phases.Alone → fresh_for t.mind see ≡ true → at_port see.owner ≡ true → t.mind.noted ≡ see.line.newest → t.mind.since ≡ moment → moment + 30000 ≤ see.moment → mind_next t.mind see ≡ moves.Close
closes_late t see moment alone f p n s long =
    let P : Phase → Type 0 = λ q. next_at t.mind q see ≡ moves.Close in
    let time : nat_le (t.mind.since + 30000) see.moment ≡ true = grind (arith, nat_tests) in
    subst P (sym alone) (late_closes t.mind see f p (and_from (at_port see.owner) (see.line.newest == t.mind.noted && nat_le (t.mind.since + 30000) see.moment) p (and_from (see.line.newest == t.mind.noted) (nat_le (t.mind.since + 30000) see.moment) (eq-eqb see.line.newest t.mind.noted (sym n)) time)))

pub waits_end : (kind : Kind) (xs : List Turn) (x : Turn) (ys : List Turn) (see : Look) → WaitIsOver xs x ys (tale_of (fresh_tale kind) (xs ++ x ∷ ys)) see → mind_next (tale_of (fresh_tale kind) (xs ++ x ∷ ys)).mind see ≡ moves.Close
waits_end kind xs x ys see over =
    let k = see.line.newest in
    let t = tale_of (fresh_tale kind) xs in
    let u = tale_next t x in
    let v = tale_of (fresh_tale kind) (xs ++ x ∷ ys) in
    let whole : v ≡ tale_of u ys = runs_on (fresh_tale kind) xs (x ∷ ys) in
    let some : 0 < k = above v.mind see over.fresh in
    let apart : t.mind.noted ≢ k = unnoted k (fresh_tale kind) xs (λ e. absurd (omega (arith, some, e))) over.before in
    let first : u.mind.since ≡ x.look.moment = since_now t.mind.noted t.mind.since x.look.line.newest x.look.moment (λ e. apart (e ∙ over.first)) in
    let last = noted k u ys over.first over.since in
    closes_late v see x.look.moment over.alone over.fresh over.port (ap (λ (w : Tale). w.mind.noted) whole ∙ last.0) (ap (λ (w : Tale). w.mind.since) whole ∙ last.1 ∙ first) over.long

-- a session that was never live and is over
free_answered : (s : SessionState) → is_free s ≡ true → is_answered s ≡ false
free_answered states.Free e = refl
free_answered states.Calling e = absurd (false≢true e)
free_answered states.Asked e = absurd (false≢true e)
free_answered states.Live e = absurd (false≢true e)
free_answered states.Closing e = absurd (false≢true e)
free_answered states.Left e = absurd (false≢true e)

free_unanswered : (s : SessionState) → is_free s ≡ true → is_unanswered s ≡ false
free_unanswered states.Free e = refl
free_unanswered states.Calling e = absurd (false≢true e)
free_unanswered states.Asked e = absurd (false≢true e)
free_unanswered states.Live e = absurd (false≢true e)
free_unanswered states.Closing e = absurd (false≢true e)
free_unanswered states.Left e = absurd (false≢true e)

abbrev IsLoss : Move → Type 0
IsLoss mv = (mv ≡ moves.Avoid) ⊎ (mv ≡ moves.Lose)

or_else : (b : Bool) (x y : Move) → (x ≡ moves.Avoid) → (y ≡ moves.Lose) → IsLoss (if b then x else y)
or_else true x y a l = inl a
or_else false x y a l = inr l

-- the caller may get another session
goes_on : (m : LineMind) (g : Guest) (see : Look) → IsLost m g see → is_last m.kind g ≡ false
goes_on m g see lost = or_from g.live _ lost.unlived (or_from g.ended (not (is_calling m.kind)) lost.stays.0 (not_from_true _ lost.calls))

-- one that has ended was never seen live
unlived : (m : LineMind) (g : Guest) (see : Look) → IsLost m g see → is_free see.line.state ≡ true → was_closed see.line.end ≡ false → (g.live || shows_live see.line g.session) ≡ false
unlived m g see lost f r =
    or_from g.live (shows_live see.line g.session) lost.unlived
    (and_right (see.line.newest == g.session) (is_answered see.line.state || was_closed see.line.end)
    (or_from (is_answered see.line.state) (was_closed see.line.end) (free_answered see.line.state f) r))

-- the session of a caller who is lost is spent, and nothing is owed
past_spent : (m : LineMind) (g : Guest) (see : Look) → IsPast m g see → spent m g see ≡ true
past_spent m g see (inl past) =
    or_right (not (see.line.newest == g.session)) (m.shut == g.session || not (holds_on see.line))
    (or_right (m.shut == g.session) (not (holds_on see.line)) (not_from_false _ (free_needs see.line.state see.line.waiting past.0)))
past_spent m g see (inr shut) =
    or_right (not (see.line.newest == g.session)) (m.shut == g.session || not (holds_on see.line))
    (or_left (m.shut == g.session) (not (holds_on see.line)) (eq-eqb m.shut g.session shut))

joined_over : (m : LineMind) (g : Guest) (see : Look) → IsLost m g see → next_joined m g see ≡ (if m.shut == g.session then next_shut m g see else next_lost m g see)
joined_over m g see lost =
    let mine : (not (see.line.newest == g.session)) ≡ false = not_from_true _ (eq-eqb see.line.newest g.session lost.newest) in
    cond-false _ _ _ lost.unready
    ∙ (cond-false _ _ _ lost.stays.1
    ∙ (cond-false _ _ _ (and_left (nat_lt 0 g.owed) (is_none g.wrote) (le-ltb 0 g.owed (omega (arith, lost.owed))))
    ∙ (cond-false _ _ _ (not_from_true _ (past_spent m g see lost.past))
    ∙ (cond-true _ _ _ (eq-eqb g.owed 0 lost.owed)
    ∙ cond-false _ _ _ (or_from see.stopping (not (see.line.newest == g.session)) lost.going mine)))))

apart_false : (m : LineMind) (g : Guest) → m.shut ≢ g.session → (m.shut == g.session) ≡ false
apart_false m g apart = false_from_ne_true _ (λ q. apart (eqb-true m.shut g.session q))

past_loses : (m : LineMind) (g : Guest) (see : Look) → IsLost m g see → IsPast m g see → IsLoss (if m.shut == g.session then next_shut m g see else next_lost m g see)
past_loses m g see lost (inl past) =
    let live : Bool = g.live || shows_live see.line g.session in
    let again : (live || (g.ended || not (is_calling m.kind))) ≡ false =
    or_from live _ (unlived m g see lost past.0 past.1) (or_from g.ended (not (is_calling m.kind)) lost.stays.0 (not_from_true _ lost.calls)) in
    let way : (if m.shut == g.session then next_shut m g see else next_lost m g see) ≡ next_lost m g see = cond-false _ _ _ (apart_false m g past.2) in
    subst IsLoss (sym way) (or_else (is_calling m.kind && (not g.avoided && avoidable see.line.end live)) moves.Avoid _ refl (cond-false _ _ _ again))
past_loses m g see lost (inr shut) =
    let way : (if m.shut == g.session then next_shut m g see else next_lost m g see) ≡ (if not g.avoided && is_shunned see.line then moves.Avoid else moves.Lose) =
    cond-true _ _ _ (eq-eqb m.shut g.session shut) ∙ cond-false _ _ _ (goes_on m g see lost) in
    subst IsLoss (sym way) (or_else (not g.avoided && is_shunned see.line) moves.Avoid moves.Lose refl refl)

pub loses_first : (m : LineMind) (g : Guest) (see : Look) → IsLost m g see → (mind_next m see ≡ moves.Avoid) ⊎ (mind_next m see ≡ moves.Lose)
loses_first m g see lost =
    let P : Phase → Type 0 = λ p. IsLoss (next_at m p see) in
    subst P (sym lost.joined) (subst IsLoss (sym (joined_over m g see lost)) (past_loses m g see lost lost.past))

-- a peer that was started again
past_waits : (m : LineMind) (g : Guest) (see : Look) → IsLost m g see → is_free see.line.state ≡ true → see.line.end ≡ Some (ends.Circuit 5) → IsPast m g see →
    (if m.shut == g.session then next_shut m g see else next_lost m g see) ≡ moves.Lose
past_waits m g see lost f e (inl past) =
    let live : Bool = g.live || shows_live see.line g.session in
    let again : (live || (g.ended || not (is_calling m.kind))) ≡ false =
    or_from live _ (unlived m g see lost past.0 past.1) (or_from g.ended (not (is_calling m.kind)) lost.stays.0 (not_from_true _ lost.calls)) in
    let kept : avoidable see.line.end live ≡ false = ap (λ o. avoidable o live) e in
    cond-false _ _ _ (apart_false m g past.2)
    ∙ (cond-false _ _ _ (and_right (is_calling m.kind) (not g.avoided && avoidable see.line.end live) (and_right (not g.avoided) (avoidable see.line.end live) kept))
    ∙ cond-false _ _ _ again)
past_waits m g see lost f e (inr shut) =
    let kept : avoidable see.line.end false ≡ false = ap (λ o. avoidable o false) e in
    let here : is_shunned see.line ≡ false = or_from (is_unanswered see.line.state) (avoidable see.line.end false) (free_unanswered see.line.state f) kept in
    cond-true _ _ _ (eq-eqb m.shut g.session shut)
    ∙ (cond-false _ _ _ (goes_on m g see lost)
    ∙ cond-false _ _ _ (and_right (not g.avoided) (is_shunned see.line) here))

pub waits_for_the_restarted : (m : LineMind) (g : Guest) (see : Look) → IsLost m g see → is_free see.line.state ≡ true → see.line.end ≡ Some (ends.Circuit 5) → mind_next m see ≡ moves.Lose
waits_for_the_restarted m g see lost f e =
    let P : Phase → Type 0 = λ p. next_at m p see ≡ moves.Lose in
    subst P (sym lost.joined) (joined_over m g see lost ∙ past_waits m g see lost f e lost.past)

-- a session that isn't answered
unanswered_held : (s : SessionState) (waiting : ℕ) → is_unanswered s ≡ true → needs s waiting ≡ true
unanswered_held states.Calling waiting e = refl
unanswered_held states.Asked waiting e = refl
unanswered_held states.Free waiting e = absurd (false≢true e)
unanswered_held states.Live waiting e = absurd (false≢true e)
unanswered_held states.Closing waiting e = absurd (false≢true e)
unanswered_held states.Left waiting e = absurd (false≢true e)

unanswered_now : (s : SessionState) → is_unanswered s ≡ true → is_answered s ≡ false
unanswered_now states.Calling e = refl
unanswered_now states.Asked e = refl
unanswered_now states.Free e = absurd (false≢true e)
unanswered_now states.Live e = absurd (false≢true e)
unanswered_now states.Closing e = absurd (false≢true e)
unanswered_now states.Left e = absurd (false≢true e)

-- a mind that was shown no session yet has noted none
unshown : (k : ℕ) (kind : Kind) (xs : List Turn) → Each (λ x. x.look.line.newest ≢ k) xs → (tale_of (fresh_tale kind) xs).mind.noted ≡ k → (tale_of (fresh_tale kind) xs).mind.since ≡ 0
unshown k kind [] other e = refl
unshown k kind (x ∷ xs) other e = absurd (unnoted k (tale_next (fresh_tale kind) x) xs other.0 other.1 e)

since_by : (b : Bool) (since moment : ℕ) → (b ≡ true → since ≡ 0) → (if b then since else moment) ≤ moment
since_by true since moment none = omega (arith, none refl)
since_by false since moment none = omega arith

closes_overdue : (m : LineMind) (g : Guest) (see : Look) → m.ready ≡ false → g.failed ≡ false → g.owed ≡ 0 → see.stopping ≡ false → see.line.newest ≡ g.session → m.shut ≢ g.session →
    is_unanswered see.line.state ≡ true → is_overdue m g see ≡ true → next_joined m g see ≡ moves.Close
closes_overdue m g see r f o s n apart u late =
    let mine : (not (see.line.newest == g.session)) ≡ false = not_from_true _ (eq-eqb see.line.newest g.session n) in
    let held : (not (holds_on see.line)) ≡ false = not_from_true _ (unanswered_held see.line.state see.line.waiting u) in
    let here : spent m g see ≡ false = or_from (not (see.line.newest == g.session)) (m.shut == g.session || not (holds_on see.line)) mine (or_from (m.shut == g.session) (not (holds_on see.line)) (apart_false m g apart) held) in
    cond-false _ _ _ r
    ∙ (cond-false _ _ _ f
    ∙ (cond-false _ _ _ (and_left (nat_lt 0 g.owed) (is_none g.wrote) (le-ltb 0 g.owed (omega (arith, o))))
    ∙ (cond-true _ _ _ (not_from_false _ here)
    ∙ (cond-false _ _ _ s
    ∙ (cond-true _ _ _ (not_from_false _ (unanswered_now see.line.state u))
    ∙ cond-true _ _ _ (or_right g.ended (is_overdue m g see) late))))))

stood : (m : LineMind) (see : Look) (moment : ℕ) → m.noted ≡ see.line.newest → m.since ≤ moment → moment + 5000 ≤ see.moment → has_stood m see 5000 ≡ true
stood m see moment n s long =
    let time : nat_le (m.since + 5000) see.moment ≡ true = grind (arith, nat_tests) in
    and_from (see.line.newest == m.noted) (nat_le (m.since + 5000) see.moment) (eq-eqb see.line.newest m.noted (sym n)) time

unready : (t : Tale) → Good t → is_calling t.mind.kind ≡ true → t.mind.ready ≡ false
unready t good c = false_from_ne_true _ (λ r. unless (is_offering t.mind.kind) ((good.device r).1) (calling_offers t.mind.kind c))

late_ends : (t : Tale) (g : Guest) (see : Look) (moment : ℕ) → Good t → t.mind.phase ≡ phases.Joined g → is_calling t.mind.kind ≡ true → g.live ≡ false → g.failed ≡ false →
    see.stopping ≡ false → see.line.newest ≡ g.session → is_unanswered see.line.state ≡ true → t.mind.shut ≢ g.session →
    t.mind.noted ≡ see.line.newest → t.mind.since ≤ moment → moment + 5000 ≤ see.moment → mind_next t.mind see ≡ moves.Close
late_ends t g see moment good at c l f s n u apart noted since long =
    let P : Phase → Type 0 = λ p. next_at t.mind p see ≡ moves.Close in
    let Q : Phase → Type 0 = λ p. GoodPhase t p in
    let here : GoodPhase t (phases.Joined g) = subst Q at good.phase in
    let long_now = stood t.mind see moment noted since long in
    let late : is_overdue t.mind g see ≡ true =
    and_from (is_calling t.mind.kind) (not g.live && has_stood t.mind see 5000) c (and_from (not g.live) (has_stood t.mind see 5000) (not_from_false _ l) long_now) in
    subst P (sym at) (closes_overdue t.mind g see (unready t good c) f (here.owed l) s n apart u late)

pub asks_end : (kind : Kind) (xs : List Turn) (x : Turn) (ys : List Turn) (g : Guest) (see : Look) → RunOf (fresh_tale kind) (xs ++ x ∷ ys) →
    AnswerIsLate xs x ys (tale_of (fresh_tale kind) (xs ++ x ∷ ys)) g see → mind_next (tale_of (fresh_tale kind) (xs ++ x ∷ ys)).mind see ≡ moves.Close
asks_end kind xs x ys g see run late =
    let k = see.line.newest in
    let t = tale_of (fresh_tale kind) xs in
    let u = tale_next t x in
    let v = tale_of (fresh_tale kind) (xs ++ x ∷ ys) in
    let whole : v ≡ tale_of u ys = runs_on (fresh_tale kind) xs (x ∷ ys) in
    let first : u.mind.since ≤ x.look.moment = since_by (t.mind.noted == x.look.line.newest) t.mind.since x.look.moment
    (λ e. unshown k kind xs late.before (eqb-true t.mind.noted x.look.line.newest e ∙ late.first)) in
    let last = noted k u ys late.first late.since in
    let since : v.mind.since ≡ u.mind.since = ap (λ (w : Tale). w.mind.since) whole ∙ last.1 in
    late_ends v g see x.look.moment (good_from_fresh kind (xs ++ x ∷ ys) run) late.joined late.calls late.unlived late.stays.1 late.going late.newest late.unanswered late.shut
    (ap (λ (w : Tale). w.mind.noted) whole ∙ last.0) (omega (arith, first, since)) late.long

-- the caller's turn behind a write
live_held : (s : SessionState) (waiting : ℕ) → is_live s ≡ true → needs s waiting ≡ true
live_held states.Live waiting e = refl
live_held states.Free waiting e = absurd (false≢true e)
live_held states.Calling waiting e = refl
live_held states.Asked waiting e = refl
live_held states.Closing waiting e = absurd (false≢true e)
live_held states.Left waiting e = absurd (false≢true e)

live_answered : (s : SessionState) → is_live s ≡ true → is_answered s ≡ true
live_answered states.Live e = refl
live_answered states.Free e = absurd (false≢true e)
live_answered states.Calling e = absurd (false≢true e)
live_answered states.Asked e = absurd (false≢true e)
live_answered states.Closing e = refl
live_answered states.Left e = refl

some_none : (o : Option ℕ) → is_some o ≡ true → is_none o ≡ false
some_none (Some n) e = refl
some_none None e = absurd (false≢true e)

turn_of : (m : LineMind) (g : Guest) (see : Look) → IsBehind m g see → next_joined m g see ≡ next_live m g see
turn_of m g see b =
    let mine : (not (see.line.newest == g.session)) ≡ false = not_from_true _ (eq-eqb see.line.newest g.session b.newest) in
    let apart : (m.shut == g.session) ≡ false = false_from_ne_true _ (λ q. b.shut (eqb-true m.shut g.session q)) in
    let held : (not (holds_on see.line)) ≡ false = not_from_true _ (live_held see.line.state see.line.waiting b.live) in
    let fresh : spent m g see ≡ false = or_from (not (see.line.newest == g.session)) (m.shut == g.session || not (holds_on see.line)) mine (or_from (m.shut == g.session) (not (holds_on see.line)) apart held) in
    cond-false _ _ _ b.unready
    ∙ (cond-false _ _ _ b.sound
    ∙ (cond-false _ _ _ (and_right (nat_lt 0 g.owed) (is_none g.wrote) (some_none g.wrote b.wrote))
    ∙ (cond-true _ _ _ (not_from_false _ fresh)
    ∙ (cond-false _ _ _ b.going
    ∙ (cond-false _ _ _ (not_from_true _ (live_answered see.line.state b.live))
    ∙ cond-true _ _ _ (and_from (is_live see.line.state) (is_some g.wrote) b.live b.wrote))))))

heard : (m : LineMind) (g : Guest) (see : Look) → IsBehind m g see →
    ((g.left ≡ 0) → (g.ended ≡ false) → next_joined m g see ≡ moves.Read) × ((0 < g.left) → (0 < see.line.room) → next_joined m g see ≡ moves.Put)
heard m g see b = (
  λ z e. turn_of m g see b ∙ (cond-true _ _ _ (eq-eqb g.left 0 z) ∙ cond-false _ _ _ e),
  λ l r. turn_of m g see b ∙ (cond-false _ _ _ (ne_eqb g.left 0 (λ z. absurd (omega (arith, z, l)))) ∙ cond-true _ _ _ (lt-ltb 0 see.line.room r)),
)

pub callers_are_heard : (m : LineMind) (g : Guest) (see : Look) → IsBehind m g see →
    ((g.left ≡ 0) → (g.ended ≡ false) → mind_next m see ≡ moves.Read) × ((0 < g.left) → (0 < see.line.room) → mind_next m see ≡ moves.Put)
callers_are_heard m g see b =
    let P : Phase → Type 0 = λ p. ((g.left ≡ 0) → (g.ended ≡ false) → next_at m p see ≡ moves.Read) × ((0 < g.left) → (0 < see.line.room) → next_at m p see ≡ moves.Put) in
    subst P (sym b.joined) (heard m g see b)
