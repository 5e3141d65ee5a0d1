-- Those who were hung up stay those of the worker's life.
use Rattle.std.proofs.Common.{◌≡◌, ℕ, List, [], ◌∷◌, ◌++◌, append-nil, append_assoc, refl, sym, ap, subst, ◌∙◌, inl}
use Rattle.std.specs.Prelude.{Option, Some, None, Result, Ok, Err}
use Rattle.lat_mind.specs.declared.fact.Fact.{Fact}
use Rattle.lat_mind.specs.declared.fact.Fact.TheVariants as facts
use Rattle.lat_mind.specs.declared.fact.Move.TheVariants as moves
use Rattle.lat_mind.specs.declared.kind.Kind.{Kind}
use Rattle.lat_mind.specs.declared.look.Look.{Look}
use Rattle.lat_mind.specs.declared.phase.Phase.{Phase}
use Rattle.lat_mind.specs.declared.phase.Phase.TheVariants as phases
use Rattle.lat_mind.specs.Good.{Each, GoodPhase}
use Rattle.lat_mind.specs.Laws.{LawOfRuns}
use Rattle.lat_mind.specs.Minds.{mind_next}
use Rattle.lat_mind.specs.Reasons.{Why}
use Rattle.lat_mind.specs.Runs.{CanBe, RunOf, Tale, Turn, fresh_tale, tale_next, tale_of}
use Rattle.lat_mind.proofs.RunLaws.{runs_are_right}
use Rattle.lat_mind.proofs.Runs.{good_from_fresh, reason}
use Rattle.lat_outside.specs.declared.callers.CallerGot.{CallerGot}
use Rattle.lat_outside.specs.declared.callers.CallerGot.TheVariants as gots
use Rattle.lat_outside.specs.declared.callers.Knock.{Knock}
use Rattle.lat_outside.specs.declared.callers.Knock.TheVariants as knocks
use Rattle.lat_outside.specs.declared.callers.Presence.{Presence}
use Rattle.lat_outside.specs.declared.callers.Presence.TheVariants as presences
use Rattle.lat_outside.specs.declared.outside.Failed.{Failed}
use Rattle.lat_outside.specs.Visits.{VisitView, VisitsView, accepted, hung_at}
use Rattle.lat_outside.specs.Visits as visits
use Rattle.lat_turns.specs.Acts.{attached, dialled, dialled_if, got_of, knocked, watched, wrote_fact}
use Rattle.lat_turns.specs.Lives.{DeskView, IsLife, with_turn}
use Rattle.lat_turns.specs.Served.{AllGotAll, AreVisitsOf, GotAll, IsVisitOf, Served, served_as, served_at, served_by, served_in, served_of}
use Rattle.lat_turns.specs.Tied.{HasLine, TiedAt}
use Rattle.lat_turns.proofs.Moves.{IsOfEvent}
use Rattle.lat_turns.proofs.Turned.{run_more, tale_more}

served_more : (xs : List Turn) (t : Tale) (x : Turn) → served_in t (xs ++ x ∷ []) ≡ served_in t xs ++ served_at (tale_of t xs) x.fact
served_more [] t x = append-nil (served_at t x.fact)
served_more (y ∷ ys) t x =
    let here = served_at t y.fact in
    let rest = served_in (tale_next t y) ys in
    let last = served_at (tale_of (tale_next t y) ys) x.fact in
    ap (λ l. here ++ l) (served_more ys (tale_next t y) x) ∙ sym (append_assoc here rest last)

-- a turn more
pub served_next : (d : DeskView) (x : Turn) → IsLife d → served_of (with_turn d x) ≡ served_of d ++ served_at d.tale x.fact
served_next d x life =
    served_more d.turns (fresh_tale d.kind) x ∙ ap (λ t. served_of d ++ served_at t x.fact) (sym life.tale)

-- nobody is hung up by this turn
pub over_stays : (d : DeskView) (x : Turn) (vs vs' : VisitsView) → IsLife d → served_at d.tale x.fact ≡ [] → vs'.over ≡ vs.over
    → AreVisitsOf (served_of d) vs.over → AreVisitsOf (served_of (with_turn d x)) vs'.over
over_stays d x vs vs' life none same over =
    let all : served_of (with_turn d x) ≡ served_of d =
    served_next d x life ∙ ap (λ l. served_of d ++ l) none ∙ append-nil (served_of d) in
    subst (λ ss. AreVisitsOf ss vs'.over) (sym all) (subst (AreVisitsOf (served_of d)) (sym same) over)

one_more : (ss : List Served) (vs : List VisitView) (s : Served) (v : VisitView) → AreVisitsOf ss vs → IsVisitOf s v
    → AreVisitsOf (ss ++ s ∷ []) (vs ++ v ∷ [])
one_more [] [] s v all one = (one, tt)
one_more [] (w ∷ ws) s v all one = absurd all
one_more (r ∷ rs) [] s v all one = absurd all
one_more (r ∷ rs) (w ∷ ws) s v all one = (all.0, one_more rs ws s v all.1 one)

line_hung : (s : Served) (vs : VisitsView) (ss : List Served) → HasLine s.read s.written s.gone vs → AreVisitsOf ss vs.over
    → AreVisitsOf (ss ++ s ∷ []) (visits.hung_up vs).over
line_hung s vs ss h over =
    let P : Option VisitView → Type 0 = λ o. AreVisitsOf (ss ++ s ∷ []) (hung_at o vs).over in
    subst P (sym h.present) (one_more ss vs.over s h.who over (record { given = h.given; written = h.written; leaves = h.leaves }))

hung : (t : Tale) (p : Phase) (see : Look) (vs : VisitsView) (ss : List Served) → Why t.mind p see moves.HangUp → TiedAt t p vs
    → AreVisitsOf ss vs.over → AreVisitsOf (ss ++ served_as t p ∷ []) (visits.hung_up vs).over
hung t phases.Alone see vs ss why h over = absurd why
hung t phases.Finished see vs ss why h over = absurd why
hung t (phases.Waiting w) see vs ss why h over = line_hung (served_as t (phases.Waiting w)) vs ss h.0 over
hung t (phases.Joined g) see vs ss why h over = line_hung (served_as t (phases.Joined g)) vs ss h.0 over

-- the caller is hung up by this turn
pub over_hung : (d : DeskView) (x : Turn) (vs : VisitsView) → IsLife d → x.fact ≡ facts.HungUp → Why d.tale.mind d.tale.mind.phase x.look moves.HangUp
    → TiedAt d.tale d.tale.mind.phase vs → AreVisitsOf (served_of d) vs.over → AreVisitsOf (served_of (with_turn d x)) (visits.hung_up vs).over
over_hung d x vs life is why h over =
    let all = served_next d x life ∙ ap (λ f. served_of d ++ served_at d.tale f) is in
    subst (λ ss. AreVisitsOf ss (visits.hung_up vs).over) (sym all) (hung d.tale d.tale.mind.phase x.look vs (served_of d) why h over)

pub events_serve : (t : Tale) (f : Fact) → IsOfEvent f → served_at t f ≡ []
events_serve t facts.HungUp ev = absurd ev
events_serve t f ev = refl

pub knock_serves : (t : Tale) (r : Result Knock Failed) (vs : VisitsView) → (served_at t (knocked r) ≡ []) × ((accepted vs r).over ≡ vs.over)
knock_serves t (Ok knocks.Came) vs = (refl, refl)
knock_serves t (Ok knocks.Quiet) vs = (refl, refl)
knock_serves t (Err e) vs = (refl, refl)

pub dial_serves : (t : Tale) (r : Option (Result Unit Failed)) → (served_at t (dialled r) ≡ []) × (served_at t (attached r) ≡ [])
dial_serves t (Some (Ok u)) = (refl, refl)
dial_serves t (Some (Err e)) = (refl, refl)
dial_serves t None = (refl, refl)

pub dial_over : (vs vs' : VisitsView) (port : Option ℕ) (r : Option (Result Unit Failed)) → dialled_if vs port r vs' → vs'.over ≡ vs.over
dial_over vs vs' (Some port) (Some (Ok u)) did = ap (λ w. w.over) did
dial_over vs vs' (Some port) (Some (Err e)) did = ap (λ w. w.over) did
dial_over vs vs' None None did = ap (λ w. w.over) did
dial_over vs vs' (Some port) None did = absurd did
dial_over vs vs' None (Some r) did = absurd did

pub read_serves : (t : Tale) (r : Result CallerGot Failed) → served_at t (got_of r) ≡ []
read_serves t (Ok (gots.Bytes n)) = refl
read_serves t (Ok gots.Quiet) = refl
read_serves t (Ok gots.Ended) = refl
read_serves t (Err e) = refl

pub write_serves : (t : Tale) (r : Result ℕ Failed) → served_at t (wrote_fact r) ≡ []
write_serves t (Ok n) = refl
write_serves t (Err e) = refl

pub watch_serves : (t : Tale) (r : Result Presence Failed) → served_at t (watched r) ≡ []
watch_serves t (Ok presences.Stays) = refl
watch_serves t (Ok presences.Leaves) = refl
watch_serves t (Err e) = refl

-- who is hung up got all, or failed
got_all : (t : Tale) (p : Phase) (see : Look) → p ≡ t.mind.phase → LawOfRuns t → GoodPhase t p → Why t.mind p see moves.HangUp
    → mind_next t.mind see ≡ moves.HangUp → GotAll (served_as t p)
got_all t phases.Alone see is law good why go = absurd why
got_all t phases.Finished see is law good why go = absurd why
got_all t (phases.Waiting w) see is law good why go = inl (good.0.taken ∙ sym good.0.written)
got_all t (phases.Joined g) see is law good why go = (law.hangs see go).items g (sym is)

each_got : (t : Tale) (f : Fact) → (f ≡ facts.HungUp → GotAll (served_by t)) → Each GotAll (served_at t f)
each_got t facts.HungUp got = (got refl, tt)
each_got t f got = tt

each_more : {A : Type 0} (P : A → Type 0) (xs ys : List A) → Each P xs → Each P ys → Each P (xs ++ ys)
each_more P [] ys all more = more
each_more P (x ∷ xs) ys all more = (all.0, each_more P xs ys all.1 more)

turn_got : (kind : Kind) (xs : List Turn) (x : Turn) (f : Fact) → RunOf (fresh_tale kind) xs
    → CanBe (tale_of (fresh_tale kind) xs) (tale_of (fresh_tale kind) xs).mind.phase x f → f ≡ facts.HungUp → GotAll (served_by (tale_of (fresh_tale kind) xs))
turn_got kind xs x f run can is =
    let t = tale_of (fresh_tale kind) xs in
    let P : Fact → Type 0 = λ g. CanBe t t.mind.phase x g in
    let go : mind_next t.mind x.look ≡ moves.HangUp = (subst P is can).answers in
    got_all t t.mind.phase x.look refl (runs_are_right kind xs run) (good_from_fresh kind xs run).phase (reason t.mind t.mind.phase x.look moves.HangUp go) go

-- everyone who is hung up in the turns behind these
all_got : (kind : Kind) (xs ys : List Turn) → RunOf (fresh_tale kind) xs → RunOf (tale_of (fresh_tale kind) xs) ys
    → Each GotAll (served_in (tale_of (fresh_tale kind) xs) ys)
all_got kind xs [] run more = tt
all_got kind xs (y ∷ ys) run more =
    let t = tale_of (fresh_tale kind) xs in
    let P : Tale → Type 0 = λ u. RunOf u ys in
    let Q : Tale → Type 0 = λ u. Each GotAll (served_in u ys) in
    let next = tale_more xs (fresh_tale kind) y in
    let rest = all_got kind (xs ++ y ∷ []) ys (run_more xs (fresh_tale kind) y run more.0) (subst P (sym next) more.1) in
    each_more GotAll (served_at t y.fact) (served_in (tale_next t y) ys)
    (each_got t y.fact (turn_got kind xs y y.fact run more.0))
    (subst Q next rest)

pub got_by_life : (d : DeskView) → IsLife d → AllGotAll d
got_by_life d life = all_got d.kind [] d.turns tt life.run
