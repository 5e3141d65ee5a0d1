-- How long it takes to hang up, and to end.
use Rattle.std.proofs.Common.{◌≡◌, ◌≢◌, ℕ, zero, suc, ◌+◌, ◌-◌, ◌≤◌, List, [], ◌∷◌, length, refl, arith, inl, inr, sym, ap, subst, ◌∙◌}
use Rattle.std.specs.Prelude.{Bool, true, false, not, ◌&&◌, ◌||◌, ◌==◌, ◌⊎◌, if◌then◌else◌, None}
use Rattle.std.proofs.lemmas.Bool.{and_parts, or_parts, eq-eqb, not-true, ne_eqb, true≢false, false≢true}
use Rattle.lat_mind.specs.declared.fact.Fact.{Fact}
use Rattle.lat_mind.specs.declared.fact.Fact.TheVariants as facts
use Rattle.lat_mind.specs.declared.fact.Move.TheVariants as moves
use Rattle.lat_mind.specs.declared.look.Look.{Look}
use Rattle.lat_mind.specs.declared.phase.Waiter.{Waiter}
use Rattle.lat_mind.specs.declared.phase.Guest.{Guest}
use Rattle.lat_mind.specs.declared.phase.Phase.{Phase}
use Rattle.lat_mind.specs.declared.phase.Phase.TheVariants as phases
use Rattle.lat_mind.specs.declared.kind.Kind.{Kind}
use Rattle.lat_mind.specs.declared.mind.LineMind.{LineMind}
use Rattle.lat_mind.specs.Kinds.{is_calling}
use Rattle.lat_mind.specs.Facts.{is_ended}
use Rattle.lat_mind.specs.Looks.{holds_on, is_job, shows_live}
use Rattle.lat_mind.specs.Minds.{fresh_for, is_last, is_late, next_at, ready_after, shut_after, spent, sweeps}
use Rattle.lat_mind.specs.Phases.{held_after, phase_after, waits}
use Rattle.lat_mind.specs.Runs.{Answers, CanBe, RunOf, Tale, Turn, tale_next}
use Rattle.lat_mind.specs.Good.{Each}
use Rattle.lat_mind.specs.Bounds.{HasGuest, IsEnding, IsOver, end_toll, guest_toll, idle, idles, once, toll, work}
use Rattle.lat_mind.proofs.Runs.{clash, reason}

-- numbers
more_turns : (n before after one rest : ℕ) → after + 1 ≤ before + one → n ≤ after + rest → suc n ≤ before + (one + rest)
more_turns n before after one rest a b = omega (arith, a, b)

abbrev T : Bool → Bool → ℕ → ℕ
T failed avoided owed = if failed then 0 else 1 + (owed + once (not avoided))

same_T : (failed avoided : Bool) (r owed : ℕ) → r + T (failed || false) (avoided || false) owed + 1 ≤ r + T failed avoided owed + 1
same_T true true r owed = omega arith
same_T true false r owed = omega arith
same_T false true r owed = omega arith
same_T false false r owed = omega arith

written_T : (failed avoided : Bool) (r owed n : ℕ) → failed ≡ false → n ≤ owed → r + T (failed || false) (avoided || false) (owed - n) + 1 ≤ r + T failed avoided owed + (if n == 0 then 1 else 0)
written_T true avoided r owed n f le = absurd (true≢false f)
written_T false true r owed zero f le = omega arith
written_T false false r owed zero f le = omega arith
written_T false true r owed (suc n) f le = omega (arith, le)
written_T false false r owed (suc n) f le = omega (arith, le)

failed_T : (failed avoided : Bool) (r owed : ℕ) → failed ≡ false → r + T (failed || true) (avoided || false) owed + 1 ≤ r + T failed avoided owed + 0
failed_T true avoided r owed f = absurd (true≢false f)
failed_T false true r owed f = omega arith
failed_T false false r owed f = omega arith

avoided_T : (failed avoided : Bool) (r owed : ℕ) → failed ≡ false → avoided ≡ false → r + T (failed || false) (avoided || true) owed + 1 ≤ r + T failed avoided owed + 0
avoided_T true avoided r owed f a = absurd (true≢false f)
avoided_T false true r owed f a = absurd (true≢false a)
avoided_T false false r owed f a = omega arith

unready_T : (ready failed avoided : Bool) (owed : ℕ) → ready ≡ true → 0 + T (failed || false) (avoided || false) owed + 1 ≤ once ready + T failed avoided owed + 0
unready_T false failed avoided owed r = absurd (false≢true r)
unready_T true true true owed r = omega arith
unready_T true true false owed r = omega arith
unready_T true false true owed r = omega arith
unready_T true false false owed r = omega arith

spent_from : (a b c : Bool) → (a || c) ≡ true → (a || (b || c)) ≡ true
spent_from true b c e = refl
spent_from false true c e = refl
spent_from false false c e = e

-- a look at which the session is over shows the mind that it is spent
spent_now : (k : ℕ) (m : LineMind) (g : Guest) (see : Look) → g.session ≡ k → IsOver k see → spent m g see ≡ true
spent_now k m g see s over =
    let P : ℕ → Type 0 = λ n. (not (see.line.newest == n) || not (holds_on see.line)) ≡ true in
    let here : (not (see.line.newest == g.session) || not (holds_on see.line)) ≡ true = subst P (sym s) over.1 in
    spent_from (not (see.line.newest == g.session)) (m.shut == g.session) (not (holds_on see.line)) here

ungot : {P : Type 0} (m : LineMind) (g : Guest) (see : Look) → (next_at m (phases.Joined g) see ≡ moves.Accept) ⊎ (next_at m (phases.Joined g) see ≡ moves.Attach) → P
ungot m g see (inl e) = absurd (reason m (phases.Joined g) see moves.Accept e)
ungot m g see (inr e) = absurd (reason m (phases.Joined g) see moves.Attach e)

-- the guest stays
last_stays : (live shows over ends none : Bool) → (live || (over || none)) ≡ true → ((live || shows) || ((over || ends) || none)) ≡ true
last_stays true shows over ends none h = refl
last_stays false true over ends none h = refl
last_stays false false true ends none h = refl
last_stays false false false true none h = refl
last_stays false false false false none h = h

stays : (k : ℕ) (kind : Kind) (g : Guest) (see : Look) (f : Fact) → HasGuest k kind (phases.Joined g) → HasGuest k kind (phases.Joined (held_after g see f))
stays k kind g see f has = (has.0, last_stays g.live (shows_live see.line g.session) g.ended (is_ended f) (not (is_calling kind)) has.1)

-- of a session that is spent nothing is read, watched, put, taken or waited for, and it isn't closed
unread : {P : Type 0} (m : LineMind) (g : Guest) (see : Look) → spent m g see ≡ true → next_at m (phases.Joined g) see ≡ moves.Read → P
unread m g see u e = clash (spent m g see) u ((reason m (phases.Joined g) see moves.Read e).4)

unwatched : {P : Type 0} (m : LineMind) (g : Guest) (see : Look) → spent m g see ≡ true → next_at m (phases.Joined g) see ≡ moves.Watch → P
unwatched m g see u e = clash (spent m g see) u ((reason m (phases.Joined g) see moves.Watch e).2)

unquiet : {P : Type 0} (m : LineMind) (g : Guest) (see : Look) → spent m g see ≡ true → (next_at m (phases.Joined g) see ≡ moves.Accept) ⊎ ((next_at m (phases.Joined g) see ≡ moves.Read) ⊎ (next_at m (phases.Joined g) see ≡ moves.Watch)) → P
unquiet m g see u (inl e) = absurd (reason m (phases.Joined g) see moves.Accept e)
unquiet m g see u (inr (inl e)) = unread m g see u e
unquiet m g see u (inr (inr e)) = unwatched m g see u e

unended : {P : Type 0} (m : LineMind) (g : Guest) (see : Look) → spent m g see ≡ true → (next_at m (phases.Joined g) see ≡ moves.Read) ⊎ (next_at m (phases.Joined g) see ≡ moves.Watch) → P
unended m g see u (inl e) = unread m g see u e
unended m g see u (inr e) = unwatched m g see u e

-- a call that fails is a write
failing : (m : LineMind) (g : Guest) (see : Look) → spent m g see ≡ true → (next_at m (phases.Joined g) see ≡ moves.Read) ⊎ ((next_at m (phases.Joined g) see ≡ moves.Watch) ⊎ (next_at m (phases.Joined g) see ≡ moves.Write)) → g.failed ≡ false
failing m g see u (inl e) = unread m g see u e
failing m g see u (inr (inl e)) = unwatched m g see u e
failing m g see u (inr (inr e)) = (reason m (phases.Joined g) see moves.Write e).0

hang_turn : (k : ℕ) (t : Tale) (g : Guest) (x : Turn) (f : Fact) → HasGuest k t.mind.kind (phases.Joined g) → CanBe t (phases.Joined g) x f → IsOver k x.look → spent t.mind g x.look ≡ true → f ≢ facts.HungUp →
    HasGuest k t.mind.kind (phase_after (phases.Joined g) x.look f) × (toll (ready_after t.mind.ready f) (phase_after (phases.Joined g) x.look f) + 1 ≤ once t.mind.ready + guest_toll g + idle f)
hang_turn k t g x (facts.Written n) has can over u not_so =
    let why = reason t.mind (phases.Joined g) x.look moves.Write can.answers in
    (stays k t.mind.kind g x.look (facts.Written n) has, written_T g.failed g.avoided (once t.mind.ready) g.owed n why.0 can.counts)
hang_turn k t g x facts.Avoided has can over u not_so =
    let why = reason t.mind (phases.Joined g) x.look moves.Avoid can.answers in
    (stays k t.mind.kind g x.look facts.Avoided has, avoided_T g.failed g.avoided (once t.mind.ready) g.owed why.4 why.3)
hang_turn k t g x facts.Unreadied has can over u not_so = (stays k t.mind.kind g x.look facts.Unreadied has, unready_T t.mind.ready g.failed g.avoided g.owed (reason t.mind (phases.Joined g) x.look moves.Unready can.answers))
hang_turn k t g x facts.Lacking has can over u not_so = (stays k t.mind.kind g x.look facts.Lacking has, same_T g.failed g.avoided (once t.mind.ready) g.owed)
hang_turn k t g x facts.Failed has can over u not_so = (stays k t.mind.kind g x.look facts.Failed has, failed_T g.failed g.avoided (once t.mind.ready) g.owed (failing t.mind g x.look u can.answers))
hang_turn k t g x facts.HungUp has can over u not_so = absurd (not_so refl)
hang_turn k t g x facts.Finished has can over u not_so = clash x.look.stopping ((reason t.mind (phases.Joined g) x.look moves.Finish can.answers).0) over.0
hang_turn k t g x facts.Came has can over u not_so = ungot t.mind g x.look can.answers
hang_turn k t g x facts.Quiet has can over u not_so = unquiet t.mind g x.look u can.answers
hang_turn k t g x facts.Dialled has can over u not_so = absurd (reason t.mind (phases.Joined g) x.look moves.Dial can.answers)
hang_turn k t g x facts.Undialled has can over u not_so = absurd (reason t.mind (phases.Joined g) x.look moves.Dial can.answers)
hang_turn k t g x facts.Away has can over u not_so = absurd (reason t.mind (phases.Joined g) x.look moves.Attach can.answers)
hang_turn k t g x facts.Readied has can over u not_so = absurd (reason t.mind (phases.Joined g) x.look moves.Ready can.answers)
hang_turn k t g x facts.Joined has can over u not_so = absurd (reason t.mind (phases.Joined g) x.look moves.Join can.answers)
hang_turn k t g x (facts.Connected n) has can over u not_so = absurd (reason t.mind (phases.Joined g) x.look moves.Connect can.answers)
hang_turn k t g x facts.Unconnected has can over u not_so = absurd (reason t.mind (phases.Joined g) x.look moves.Connect can.answers)
hang_turn k t g x facts.Lost has can over u not_so = clash (is_last t.mind.kind g) has.1 ((reason t.mind (phases.Joined g) x.look moves.Lose can.answers).3)
hang_turn k t g x facts.Attended has can over u not_so = clash (spent t.mind g x.look) u ((reason t.mind (phases.Joined g) x.look moves.Attend can.answers).4)
hang_turn k t g x facts.Closed has can over u not_so = clash (spent t.mind g x.look) u ((reason t.mind (phases.Joined g) x.look moves.Close can.answers).1)
hang_turn k t g x (facts.Took n) has can over u not_so = clash (spent t.mind g x.look) u ((reason t.mind (phases.Joined g) x.look moves.Take can.answers).4)
hang_turn k t g x (facts.Put n) has can over u not_so = clash (spent t.mind g x.look) u ((reason t.mind (phases.Joined g) x.look moves.Put can.answers).4)
hang_turn k t g x (facts.Read n) has can over u not_so = unread t.mind g x.look u can.answers
hang_turn k t g x facts.Ended has can over u not_so = unended t.mind g x.look u can.answers
hang_turn k t g x facts.Rested has can over u not_so = (stays k t.mind.kind g x.look facts.Rested has, same_T g.failed g.avoided (once t.mind.ready) g.owed)

hang_phase : (k : ℕ) (t : Tale) (p : Phase) (x : Turn) (f : Fact) → HasGuest k t.mind.kind p → CanBe t p x f → IsOver k x.look → f ≢ facts.HungUp →
    HasGuest k t.mind.kind (phase_after p x.look f) × (toll (ready_after t.mind.ready f) (phase_after p x.look f) + 1 ≤ toll t.mind.ready p + idle f)
hang_phase k t phases.Alone x f has can over not_so = absurd has
hang_phase k t (phases.Waiting w) x f has can over not_so = absurd has
hang_phase k t (phases.Joined g) x f has can over not_so = hang_turn k t g x f has can over (spent_now k t.mind g x.look has.0 over) not_so
hang_phase k t phases.Finished x f has can over not_so = absurd has

pub hangs_up : (k : ℕ) (t : Tale) (xs : List Turn) → HasGuest k t.mind.kind t.mind.phase → RunOf t xs → Each (λ x. IsOver k x.look) xs →
    Each (λ x. x.fact ≢ facts.HungUp) xs → length xs ≤ toll t.mind.ready t.mind.phase + idles xs
hangs_up k t [] has run over not_so = omega arith
hangs_up k t (x ∷ xs) has run over not_so =
    let step = hang_phase k t t.mind.phase x x.fact has run.0 over.0 not_so.0 in
    let rest = hangs_up k (tale_next t x) xs step.0 run.1 over.1 not_so.1 in
    more_turns (length xs) (toll t.mind.ready t.mind.phase) (toll (ready_after t.mind.ready x.fact) (phase_after t.mind.phase x.look x.fact)) (idle x.fact) (idles xs) step.1 rest

-- the end of the daemon: numbers
closed_C : (shut newest k : ℕ) → newest ≡ k → (newest == shut) ≡ false → once (not (newest == k)) + 1 ≤ once (not (shut == k))
closed_C shut newest k n apart =
    let now : once (not (newest == k)) ≡ 0 = ap (λ b. once (not b)) (eq-eqb newest k n) in
    let before : once (not (shut == k)) ≡ 1 = ap (λ b. once (not b)) (ne_eqb shut k (λ e. clash (newest == shut) (eq-eqb newest shut (n ∙ sym e)) apart)) in
    omega (arith, now, before)

-- a newest session that is swept, or isn't spent, was not closed by this mind before
swept : (m : LineMind) (see : Look) → sweeps m see ≡ true → (see.line.newest == m.shut) ≡ false
swept m see e =
    let why : Bool = see.stopping || (not (fresh_for m see) || is_late m see) in
    not-true _ ((and_parts (not (see.line.newest == m.shut)) (holds_on see.line && (not (is_job see.owner) && why)) e).0)

unshut : (m : LineMind) (g : Guest) (see : Look) → see.line.newest ≡ g.session → spent m g see ≡ false → (see.line.newest == m.shut) ≡ false
unshut m g see n u =
    let apart : (m.shut == g.session) ≡ false = (or_parts (m.shut == g.session) (not (holds_on see.line)) ((or_parts (not (see.line.newest == g.session)) (m.shut == g.session || not (holds_on see.line)) u).1)).0 in
    ne_eqb see.line.newest m.shut (λ e. clash (m.shut == g.session) (eq-eqb m.shut g.session (sym e ∙ n)) apart)

abbrev W : Bool → Bool → ℕ → ℕ → ℕ
W failed attended left owed = if failed then left + once (not attended) else 1 + (left + (owed + once (not attended)))

same_W : (failed attended : Bool) (c r b left owed : ℕ) → c + (r + (2 + (b + W (failed || false) (attended || false) left owed))) + 1 ≤ c + (r + (2 + (b + W failed attended left owed))) + 1
same_W true true c r b left owed = omega arith
same_W true false c r b left owed = omega arith
same_W false true c r b left owed = omega arith
same_W false false c r b left owed = omega arith

unready_W : (ready failed attended : Bool) (c b left owed : ℕ) → ready ≡ true → c + (0 + (2 + (b + W (failed || false) (attended || false) left owed))) + 1 ≤ c + (once ready + (2 + (b + W failed attended left owed))) + 0
unready_W false failed attended c b left owed y = absurd (false≢true y)
unready_W true true true c b left owed y = omega arith
unready_W true true false c b left owed y = omega arith
unready_W true false true c b left owed y = omega arith
unready_W true false false c b left owed y = omega arith

closed_W : (failed attended : Bool) (c d r b left owed : ℕ) → c + 1 ≤ d → c + (r + (2 + (b + W (failed || false) (attended || false) left owed))) + 1 ≤ d + (r + (2 + (b + W failed attended left owed))) + 0
closed_W true true c d r b left owed le = omega (arith, le)
closed_W true false c d r b left owed le = omega (arith, le)
closed_W false true c d r b left owed le = omega (arith, le)
closed_W false false c d r b left owed le = omega (arith, le)

attended_W : (failed attended : Bool) (c r b left owed : ℕ) → attended ≡ false → c + (r + (2 + (b + W (failed || false) (attended || true) left owed))) + 1 ≤ c + (r + (2 + (b + W failed attended left owed))) + 0
attended_W failed true c r b left owed a = absurd (true≢false a)
attended_W true false c r b left owed a = omega arith
attended_W false false c r b left owed a = omega arith

wrote_W : (failed attended : Bool) (c r b left owed n : ℕ) → failed ≡ false → n ≤ owed → c + (r + (2 + (b + W (failed || false) (attended || false) left (owed - n)))) + 1 ≤ c + (r + (2 + (b + W failed attended left owed))) + (if n == 0 then 1 else 0)
wrote_W true attended c r b left owed n f le = absurd (true≢false f)
wrote_W false true c r b left owed zero f le = omega arith
wrote_W false false c r b left owed zero f le = omega arith
wrote_W false true c r b left owed (suc n) f le = omega (arith, le)
wrote_W false false c r b left owed (suc n) f le = omega (arith, le)

put_W : (failed attended : Bool) (c r b left owed n : ℕ) → n ≤ left → c + (r + (2 + (b + W (failed || false) (attended || false) (left - n) owed))) + 1 ≤ c + (r + (2 + (b + W failed attended left owed))) + (if n == 0 then 1 else 0)
put_W true true c r b left owed zero le = omega arith
put_W true false c r b left owed zero le = omega arith
put_W false true c r b left owed zero le = omega arith
put_W false false c r b left owed zero le = omega arith
put_W true true c r b left owed (suc n) le = omega (arith, le)
put_W true false c r b left owed (suc n) le = omega (arith, le)
put_W false true c r b left owed (suc n) le = omega (arith, le)
put_W false false c r b left owed (suc n) le = omega (arith, le)

failed_W : (failed attended : Bool) (c r b left owed : ℕ) → failed ≡ false → c + (r + (2 + (b + W (failed || true) (attended || false) left owed))) + 1 ≤ c + (r + (2 + (b + W failed attended left owed))) + 0
failed_W true attended c r b left owed f = absurd (true≢false f)
failed_W false true c r b left owed f = omega arith
failed_W false false c r b left owed f = omega arith

gone_W : (ready beside : Bool) (c w : ℕ) → ready ≡ false → c + end_toll ready (if beside then waits None else phases.Alone) + 1 ≤ c + (once ready + (2 + (once beside + w))) + 0
gone_W true beside c w y = absurd (true≢false y)
gone_W false true c w y = omega arith
gone_W false false c w y = omega arith

unready_V : (c : ℕ) (ready : Bool) → ready ≡ true → c + (0 + 2) + 1 ≤ c + (once ready + 2) + 0
unready_V c true y = omega arith
unready_V c false y = absurd (false≢true y)

leaves_V : (c r : ℕ) → c + 1 + 1 ≤ c + (r + 2) + 0
leaves_V c r = omega arith

same_C : (c d : ℕ) → c + d + 1 ≤ c + d + 1
same_C c d = omega arith

-- at the end nobody is waited for
awake : {P : Type 0} (m : LineMind) (p : Phase) (see : Look) → see.stopping ≡ true → (next_at m p see ≡ moves.Accept) → P
awake m phases.Alone see s e = clash see.stopping s ((reason m phases.Alone see moves.Accept e).0)
awake m (phases.Waiting w) see s e = absurd (reason m (phases.Waiting w) see moves.Accept e)
awake m (phases.Joined g) see s e = absurd (reason m (phases.Joined g) see moves.Accept e)
awake m phases.Finished see s e = absurd (reason m phases.Finished see moves.Accept e)

unread_end : {P : Type 0} (m : LineMind) (p : Phase) (see : Look) → see.stopping ≡ true → (next_at m p see ≡ moves.Read) → P
unread_end m phases.Alone see s e = absurd (reason m phases.Alone see moves.Read e)
unread_end m (phases.Waiting w) see s e = absurd (reason m (phases.Waiting w) see moves.Read e)
unread_end m (phases.Joined g) see s e = clash see.stopping s ((reason m (phases.Joined g) see moves.Read e).0)
unread_end m phases.Finished see s e = absurd (reason m phases.Finished see moves.Read e)

unwatched_end : {P : Type 0} (m : LineMind) (p : Phase) (see : Look) → see.stopping ≡ true → (next_at m p see ≡ moves.Watch) → P
unwatched_end m phases.Alone see s e = absurd (reason m phases.Alone see moves.Watch e)
unwatched_end m (phases.Waiting w) see s e = clash see.stopping s (reason m (phases.Waiting w) see moves.Watch e)
unwatched_end m (phases.Joined g) see s e = clash see.stopping s ((reason m (phases.Joined g) see moves.Watch e).0)
unwatched_end m phases.Finished see s e = absurd (reason m phases.Finished see moves.Watch e)

unquiet_end : {P : Type 0} (m : LineMind) (p : Phase) (see : Look) → see.stopping ≡ true → (next_at m p see ≡ moves.Accept) ⊎ ((next_at m p see ≡ moves.Read) ⊎ (next_at m p see ≡ moves.Watch)) → P
unquiet_end m p see s (inl e) = awake m p see s e
unquiet_end m p see s (inr (inl e)) = unread_end m p see s e
unquiet_end m p see s (inr (inr e)) = unwatched_end m p see s e

unended_end : {P : Type 0} (m : LineMind) (p : Phase) (see : Look) → see.stopping ≡ true → (next_at m p see ≡ moves.Read) ⊎ (next_at m p see ≡ moves.Watch) → P
unended_end m p see s (inl e) = unread_end m p see s e
unended_end m p see s (inr e) = unwatched_end m p see s e

failing_end : (m : LineMind) (p : Phase) (see : Look) → see.stopping ≡ true → (next_at m p see ≡ moves.Read) ⊎ ((next_at m p see ≡ moves.Watch) ⊎ (next_at m p see ≡ moves.Write)) → next_at m p see ≡ moves.Write
failing_end m p see s (inl e) = unread_end m p see s e
failing_end m p see s (inr (inl e)) = unwatched_end m p see s e
failing_end m p see s (inr (inr e)) = e

uncame_end : {P : Type 0} (m : LineMind) (p : Phase) (see : Look) → see.stopping ≡ true → (next_at m p see ≡ moves.Accept) ⊎ (next_at m p see ≡ moves.Attach) → P
uncame_end m p see s (inl e) = awake m p see s e
uncame_end m phases.Alone see s (inr e) = clash see.stopping s ((reason m phases.Alone see moves.Attach e).0)
uncame_end m (phases.Waiting w) see s (inr e) = absurd (reason m (phases.Waiting w) see moves.Attach e)
uncame_end m (phases.Joined g) see s (inr e) = absurd (reason m (phases.Joined g) see moves.Attach e)
uncame_end m phases.Finished see s (inr e) = absurd (reason m phases.Finished see moves.Attach e)

end_alone : (k : ℕ) (t : Tale) (x : Turn) (f : Fact) → CanBe t phases.Alone x f → IsEnding k x.look → f ≢ facts.Finished →
    once (not (shut_after t.mind.shut x.look f == k)) + end_toll (ready_after t.mind.ready f) (phase_after phases.Alone x.look f) + 1 ≤ once (not (t.mind.shut == k)) + end_toll t.mind.ready phases.Alone + idle f
end_alone k t x facts.Finished can ending not_so = absurd (not_so refl)
end_alone k t x facts.Came can ending not_so = uncame_end t.mind phases.Alone x.look ending.0 can.answers
end_alone k t x facts.Quiet can ending not_so = unquiet_end t.mind phases.Alone x.look ending.0 can.answers
end_alone k t x facts.Dialled can ending not_so = clash x.look.stopping ending.0 ((reason t.mind phases.Alone x.look moves.Dial can.answers).0)
end_alone k t x facts.Undialled can ending not_so = clash x.look.stopping ending.0 ((reason t.mind phases.Alone x.look moves.Dial can.answers).0)
end_alone k t x facts.Away can ending not_so = clash x.look.stopping ending.0 ((reason t.mind phases.Alone x.look moves.Attach can.answers).0)
end_alone k t x facts.Readied can ending not_so = absurd (reason t.mind phases.Alone x.look moves.Ready can.answers)
end_alone k t x facts.Unreadied can ending not_so = absurd (reason t.mind phases.Alone x.look moves.Unready can.answers)
end_alone k t x facts.Joined can ending not_so = absurd (reason t.mind phases.Alone x.look moves.Join can.answers)
end_alone k t x (facts.Connected n) can ending not_so = absurd (reason t.mind phases.Alone x.look moves.Connect can.answers)
end_alone k t x facts.Unconnected can ending not_so = absurd (reason t.mind phases.Alone x.look moves.Connect can.answers)
end_alone k t x facts.Avoided can ending not_so = absurd (reason t.mind phases.Alone x.look moves.Avoid can.answers)
end_alone k t x facts.Lost can ending not_so = absurd (reason t.mind phases.Alone x.look moves.Lose can.answers)
end_alone k t x facts.Attended can ending not_so = absurd (reason t.mind phases.Alone x.look moves.Attend can.answers)
end_alone k t x facts.Closed can ending not_so = omega (arith, closed_C t.mind.shut x.look.line.newest k ending.1 (swept t.mind x.look (reason t.mind phases.Alone x.look moves.Close can.answers)))
end_alone k t x (facts.Took n) can ending not_so = absurd (reason t.mind phases.Alone x.look moves.Take can.answers)
end_alone k t x (facts.Put n) can ending not_so = absurd (reason t.mind phases.Alone x.look moves.Put can.answers)
end_alone k t x (facts.Read n) can ending not_so = absurd (reason t.mind phases.Alone x.look moves.Read can.answers)
end_alone k t x facts.Ended can ending not_so = unended_end t.mind phases.Alone x.look ending.0 can.answers
end_alone k t x facts.Failed can ending not_so = absurd (reason t.mind phases.Alone x.look moves.Write (failing_end t.mind phases.Alone x.look ending.0 can.answers))
end_alone k t x (facts.Written n) can ending not_so = absurd (reason t.mind phases.Alone x.look moves.Write can.answers)
end_alone k t x facts.HungUp can ending not_so = absurd (reason t.mind phases.Alone x.look moves.HangUp can.answers)
end_alone k t x facts.Rested can ending not_so = clash x.look.stopping ending.0 ((reason t.mind phases.Alone x.look moves.Rest can.answers).0)
end_alone k t x facts.Lacking can ending not_so = same_C (once (not (t.mind.shut == k))) 1

end_waiting : (k : ℕ) (t : Tale) (w : Waiter) (x : Turn) (f : Fact) → CanBe t (phases.Waiting w) x f → IsEnding k x.look → f ≢ facts.Finished →
    once (not (shut_after t.mind.shut x.look f == k)) + end_toll (ready_after t.mind.ready f) (phase_after (phases.Waiting w) x.look f) + 1 ≤ once (not (t.mind.shut == k)) + end_toll t.mind.ready (phases.Waiting w) + idle f
end_waiting k t w x facts.Finished can ending not_so = absurd (not_so refl)
end_waiting k t w x facts.Came can ending not_so = uncame_end t.mind (phases.Waiting w) x.look ending.0 can.answers
end_waiting k t w x facts.Quiet can ending not_so = unquiet_end t.mind (phases.Waiting w) x.look ending.0 can.answers
end_waiting k t w x facts.Dialled can ending not_so = clash x.look.stopping ending.0 ((reason t.mind (phases.Waiting w) x.look moves.Dial can.answers).0)
end_waiting k t w x facts.Undialled can ending not_so = clash x.look.stopping ending.0 ((reason t.mind (phases.Waiting w) x.look moves.Dial can.answers).0)
end_waiting k t w x facts.Away can ending not_so = absurd (reason t.mind (phases.Waiting w) x.look moves.Attach can.answers)
end_waiting k t w x facts.Readied can ending not_so = clash x.look.stopping ending.0 ((reason t.mind (phases.Waiting w) x.look moves.Ready can.answers).0)
end_waiting k t w x facts.Unreadied can ending not_so = unready_V (once (not (t.mind.shut == k))) t.mind.ready ((reason t.mind (phases.Waiting w) x.look moves.Unready can.answers).1)
end_waiting k t w x facts.Joined can ending not_so = clash x.look.stopping ending.0 ((reason t.mind (phases.Waiting w) x.look moves.Join can.answers).0)
end_waiting k t w x (facts.Connected n) can ending not_so = clash x.look.stopping ending.0 ((reason t.mind (phases.Waiting w) x.look moves.Connect can.answers).0)
end_waiting k t w x facts.Unconnected can ending not_so = clash x.look.stopping ending.0 ((reason t.mind (phases.Waiting w) x.look moves.Connect can.answers).0)
end_waiting k t w x facts.Avoided can ending not_so = absurd (reason t.mind (phases.Waiting w) x.look moves.Avoid can.answers)
end_waiting k t w x facts.Lost can ending not_so = absurd (reason t.mind (phases.Waiting w) x.look moves.Lose can.answers)
end_waiting k t w x facts.Attended can ending not_so = absurd (reason t.mind (phases.Waiting w) x.look moves.Attend can.answers)
end_waiting k t w x facts.Closed can ending not_so = clash x.look.stopping ending.0 ((reason t.mind (phases.Waiting w) x.look moves.Close can.answers).0)
end_waiting k t w x (facts.Took n) can ending not_so = absurd (reason t.mind (phases.Waiting w) x.look moves.Take can.answers)
end_waiting k t w x (facts.Put n) can ending not_so = absurd (reason t.mind (phases.Waiting w) x.look moves.Put can.answers)
end_waiting k t w x (facts.Read n) can ending not_so = absurd (reason t.mind (phases.Waiting w) x.look moves.Read can.answers)
end_waiting k t w x facts.Ended can ending not_so = unended_end t.mind (phases.Waiting w) x.look ending.0 can.answers
end_waiting k t w x facts.Failed can ending not_so = absurd (reason t.mind (phases.Waiting w) x.look moves.Write (failing_end t.mind (phases.Waiting w) x.look ending.0 can.answers))
end_waiting k t w x (facts.Written n) can ending not_so = absurd (reason t.mind (phases.Waiting w) x.look moves.Write can.answers)
end_waiting k t w x facts.HungUp can ending not_so = leaves_V (once (not (t.mind.shut == k))) (once t.mind.ready)
end_waiting k t w x facts.Rested can ending not_so = absurd (reason t.mind (phases.Waiting w) x.look moves.Rest can.answers)
end_waiting k t w x facts.Lacking can ending not_so = same_C (once (not (t.mind.shut == k))) (once t.mind.ready + 2)

end_joined : (k : ℕ) (t : Tale) (g : Guest) (x : Turn) (f : Fact) → CanBe t (phases.Joined g) x f → IsEnding k x.look → f ≢ facts.Finished →
    once (not (shut_after t.mind.shut x.look f == k)) + end_toll (ready_after t.mind.ready f) (phase_after (phases.Joined g) x.look f) + 1 ≤ once (not (t.mind.shut == k)) + end_toll t.mind.ready (phases.Joined g) + idle f
end_joined k t g x facts.Finished can ending not_so = absurd (not_so refl)
end_joined k t g x facts.Came can ending not_so = uncame_end t.mind (phases.Joined g) x.look ending.0 can.answers
end_joined k t g x facts.Quiet can ending not_so = unquiet_end t.mind (phases.Joined g) x.look ending.0 can.answers
end_joined k t g x facts.Dialled can ending not_so = absurd (reason t.mind (phases.Joined g) x.look moves.Dial can.answers)
end_joined k t g x facts.Undialled can ending not_so = absurd (reason t.mind (phases.Joined g) x.look moves.Dial can.answers)
end_joined k t g x facts.Away can ending not_so = absurd (reason t.mind (phases.Joined g) x.look moves.Attach can.answers)
end_joined k t g x facts.Readied can ending not_so = absurd (reason t.mind (phases.Joined g) x.look moves.Ready can.answers)
end_joined k t g x facts.Unreadied can ending not_so = unready_W t.mind.ready g.failed g.attended (once (not (t.mind.shut == k))) (once g.beside) g.left g.owed (reason t.mind (phases.Joined g) x.look moves.Unready can.answers)
end_joined k t g x facts.Joined can ending not_so = absurd (reason t.mind (phases.Joined g) x.look moves.Join can.answers)
end_joined k t g x (facts.Connected n) can ending not_so = absurd (reason t.mind (phases.Joined g) x.look moves.Connect can.answers)
end_joined k t g x facts.Unconnected can ending not_so = absurd (reason t.mind (phases.Joined g) x.look moves.Connect can.answers)
end_joined k t g x facts.Avoided can ending not_so = clash x.look.stopping ending.0 ((reason t.mind (phases.Joined g) x.look moves.Avoid can.answers).0)
end_joined k t g x facts.Lost can ending not_so = clash x.look.stopping ending.0 ((reason t.mind (phases.Joined g) x.look moves.Lose can.answers).0)
end_joined k t g x facts.Attended can ending not_so = attended_W g.failed g.attended (once (not (t.mind.shut == k))) (once t.mind.ready) (once g.beside) g.left g.owed ((reason t.mind (phases.Joined g) x.look moves.Attend can.answers).3)
end_joined k t g x facts.Closed can ending not_so =
    let why = reason t.mind (phases.Joined g) x.look moves.Close can.answers in
    closed_W g.failed g.attended (once (not (x.look.line.newest == k))) (once (not (t.mind.shut == k))) (once t.mind.ready) (once g.beside) g.left g.owed (closed_C t.mind.shut x.look.line.newest k ending.1 (unshut t.mind g x.look why.0 why.1))
end_joined k t g x (facts.Took n) can ending not_so = clash x.look.stopping ending.0 ((reason t.mind (phases.Joined g) x.look moves.Take can.answers).0)
end_joined k t g x (facts.Put n) can ending not_so = put_W g.failed g.attended (once (not (t.mind.shut == k))) (once t.mind.ready) (once g.beside) g.left g.owed n can.counts
end_joined k t g x (facts.Read n) can ending not_so = clash x.look.stopping ending.0 ((reason t.mind (phases.Joined g) x.look moves.Read can.answers).0)
end_joined k t g x facts.Ended can ending not_so = unended_end t.mind (phases.Joined g) x.look ending.0 can.answers
end_joined k t g x facts.Failed can ending not_so = failed_W g.failed g.attended (once (not (t.mind.shut == k))) (once t.mind.ready) (once g.beside) g.left g.owed ((reason t.mind (phases.Joined g) x.look moves.Write (failing_end t.mind (phases.Joined g) x.look ending.0 can.answers)).0)
end_joined k t g x (facts.Written n) can ending not_so = wrote_W g.failed g.attended (once (not (t.mind.shut == k))) (once t.mind.ready) (once g.beside) g.left g.owed n ((reason t.mind (phases.Joined g) x.look moves.Write can.answers).0) can.counts
end_joined k t g x facts.HungUp can ending not_so = gone_W t.mind.ready g.beside (once (not (t.mind.shut == k))) (work g) ((reason t.mind (phases.Joined g) x.look moves.HangUp can.answers).2)
end_joined k t g x facts.Rested can ending not_so = same_W g.failed g.attended (once (not (t.mind.shut == k))) (once t.mind.ready) (once g.beside) g.left g.owed
end_joined k t g x facts.Lacking can ending not_so = same_W g.failed g.attended (once (not (t.mind.shut == k))) (once t.mind.ready) (once g.beside) g.left g.owed

ended_quiet : (m : LineMind) (see : Look) → (next_at m phases.Finished see ≡ moves.Accept) ⊎ ((next_at m phases.Finished see ≡ moves.Read) ⊎ (next_at m phases.Finished see ≡ moves.Watch)) → ⊥
ended_quiet m see (inl a) = reason m phases.Finished see moves.Accept a
ended_quiet m see (inr (inl a)) = reason m phases.Finished see moves.Read a
ended_quiet m see (inr (inr a)) = reason m phases.Finished see moves.Watch a

ended_end : (m : LineMind) (see : Look) → (next_at m phases.Finished see ≡ moves.Read) ⊎ (next_at m phases.Finished see ≡ moves.Watch) → ⊥
ended_end m see (inl a) = reason m phases.Finished see moves.Read a
ended_end m see (inr a) = reason m phases.Finished see moves.Watch a

ended_failed : (m : LineMind) (see : Look) → (next_at m phases.Finished see ≡ moves.Read) ⊎ ((next_at m phases.Finished see ≡ moves.Watch) ⊎ (next_at m phases.Finished see ≡ moves.Write)) → ⊥
ended_failed m see (inl a) = reason m phases.Finished see moves.Read a
ended_failed m see (inr (inl a)) = reason m phases.Finished see moves.Watch a
ended_failed m see (inr (inr a)) = reason m phases.Finished see moves.Write a

ended_came : (m : LineMind) (see : Look) → (next_at m phases.Finished see ≡ moves.Accept) ⊎ (next_at m phases.Finished see ≡ moves.Attach) → ⊥
ended_came m see (inl a) = reason m phases.Finished see moves.Accept a
ended_came m see (inr a) = reason m phases.Finished see moves.Attach a

-- behind its end a mind is told nothing else
ended : (m : LineMind) (see : Look) (f : Fact) → Answers (next_at m phases.Finished see) f → f ≢ facts.Finished → ⊥
ended m see facts.Finished a not_so = not_so refl
ended m see facts.Came a not_so = ended_came m see a
ended m see facts.Quiet a not_so = ended_quiet m see a
ended m see facts.Dialled a not_so = reason m phases.Finished see moves.Dial a
ended m see facts.Undialled a not_so = reason m phases.Finished see moves.Dial a
ended m see facts.Away a not_so = reason m phases.Finished see moves.Attach a
ended m see facts.Readied a not_so = reason m phases.Finished see moves.Ready a
ended m see facts.Unreadied a not_so = reason m phases.Finished see moves.Unready a
ended m see facts.Joined a not_so = reason m phases.Finished see moves.Join a
ended m see (facts.Connected n) a not_so = reason m phases.Finished see moves.Connect a
ended m see facts.Unconnected a not_so = reason m phases.Finished see moves.Connect a
ended m see facts.Avoided a not_so = reason m phases.Finished see moves.Avoid a
ended m see facts.Lost a not_so = reason m phases.Finished see moves.Lose a
ended m see facts.Attended a not_so = reason m phases.Finished see moves.Attend a
ended m see facts.Closed a not_so = reason m phases.Finished see moves.Close a
ended m see (facts.Took n) a not_so = reason m phases.Finished see moves.Take a
ended m see (facts.Put n) a not_so = reason m phases.Finished see moves.Put a
ended m see (facts.Read n) a not_so = reason m phases.Finished see moves.Read a
ended m see facts.Ended a not_so = ended_end m see a
ended m see facts.Failed a not_so = ended_failed m see a
ended m see (facts.Written n) a not_so = reason m phases.Finished see moves.Write a
ended m see facts.HungUp a not_so = reason m phases.Finished see moves.HangUp a
ended m see facts.Rested a not_so = reason m phases.Finished see moves.Rest a
ended m see facts.Lacking a not_so = false≢true a

end_turn : (k : ℕ) (t : Tale) (p : Phase) (x : Turn) (f : Fact) → CanBe t p x f → IsEnding k x.look → f ≢ facts.Finished →
    once (not (shut_after t.mind.shut x.look f == k)) + end_toll (ready_after t.mind.ready f) (phase_after p x.look f) + 1 ≤ once (not (t.mind.shut == k)) + end_toll t.mind.ready p + idle f
end_turn k t phases.Alone x f can ending not_so = end_alone k t x f can ending not_so
end_turn k t (phases.Waiting w) x f can ending not_so = end_waiting k t w x f can ending not_so
end_turn k t (phases.Joined g) x f can ending not_so = end_joined k t g x f can ending not_so
end_turn k t phases.Finished x f can ending not_so = absurd (ended t.mind x.look f can.answers not_so)

pub ends : (k : ℕ) (t : Tale) (xs : List Turn) → RunOf t xs → Each (λ x. IsEnding k x.look) xs →
    Each (λ x. x.fact ≢ facts.Finished) xs → length xs ≤ once (not (t.mind.shut == k)) + end_toll t.mind.ready t.mind.phase + idles xs
ends k t [] run ending not_so = omega arith
ends k t (x ∷ xs) run ending not_so =
    let step = end_turn k t t.mind.phase x x.fact run.0 ending.0 not_so.0 in
    let rest = ends k (tale_next t x) xs run.1 ending.1 not_so.1 in
    more_turns (length xs) (once (not (t.mind.shut == k)) + end_toll t.mind.ready t.mind.phase)
    (once (not (shut_after t.mind.shut x.look x.fact == k)) + end_toll (ready_after t.mind.ready x.fact) (phase_after t.mind.phase x.look x.fact)) (idle x.fact) (idles xs) step rest
