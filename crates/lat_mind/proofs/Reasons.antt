-- Each move has its reason.
use Rattle.std.proofs.Common.{◌≡◌, ℕ, ◌<◌, refl, arith, inl, inr}
use Rattle.std.specs.Prelude.{Bool, true, false, not, ◌&&◌, ◌||◌, nat_lt, ◌==◌, ◌⊎◌, is_none, is_some}
use Rattle.std.proofs.lemmas.Bool.{cond_both, and_parts, or_parts, or_cases, or_from, and_left, and_right, not-true, not-false, ltb-true, eqb-true, false≢true, true≢false}
use Rattle.std.proofs.lemmas.Bool.Decides.{nat_tests}
use Rattle.lat_mind.specs.declared.fact.Move.{Move}
use Rattle.lat_mind.specs.declared.look.Look.{Look}
use Rattle.lat_mind.specs.declared.phase.Waiter.{Waiter}
use Rattle.lat_mind.specs.declared.phase.Guest.{Guest}
use Rattle.lat_mind.specs.declared.phase.Phase.{Phase}
use Rattle.lat_mind.specs.declared.phase.Phase.TheVariants as phases
use Rattle.lat_mind.specs.declared.mind.LineMind.{LineMind}
use Rattle.lat_base.specs.declared.state.SessionState.{SessionState}
use Rattle.lat_base.specs.declared.state.SessionState.TheVariants as states
use Rattle.lat_mind.specs.Kinds.{is_calling, is_offering}
use Rattle.lat_mind.specs.Looks.{at_port, avoidable, is_live, is_answered, is_free, is_shunned, holds_on, needs, shows_live}
use Rattle.lat_mind.specs.Minds.{fresh_for, is_last, is_overdue, leaves, may_try, next_alone, next_at, next_close, next_ending, next_joined, next_live, next_lost, next_over, next_serving, next_shut, next_waiting, spent, stuck, sweeps, to_dial, try_of}
use Rattle.lat_mind.specs.Reasons.{CloseIsDue, Why, WhyAlone, WhyJoined, WhyWaiting}

pub why_alone : (m : LineMind) (see : Look) → WhyAlone m see (next_alone m see)
why_alone m see =
    let P : Move → Type 0 = WhyAlone m see in
    cond_both (sweeps m see) _ _ P (λ s. s)
    (λ s. cond_both see.stopping _ _ P (λ e. e)
    (λ e. cond_both (is_offering m.kind) _ _ P
    (λ o. cond_both ((see.wanted || fresh_for m see) && may_try m.away 5000 see.moment) _ _ P
    (λ a. let both = and_parts (see.wanted || fresh_for m see) (may_try m.away 5000 see.moment) a in (e, o, both.0, both.1)) (λ a. (e, inl (o, a))))
    (λ o. cond_both (fresh_for m see && to_dial m see) _ _ P
    (λ d. let both = and_parts (fresh_for m see) (to_dial m see) d in (e, both.0, both.1))
    (λ d. cond_both (fresh_for m see || is_free see.line.state) _ _ P (λ a. (e, o, a)) (λ a. (e, inr a))))))

-- a caller who isn't hung up stays, where no session came for its device
stays : (gone offering fresh : Bool) → (gone && not (offering && fresh)) ≡ false → (offering && fresh) ≡ false → gone ≡ false
stays false offering fresh g o = refl
stays true true true g o = o
stays true true false g o = g
stays true false fresh g o = g

-- where it has left, one did
joins : (gone offering fresh : Bool) → (gone && not (offering && fresh)) ≡ false → (gone ≡ false) ⊎ (offering ≡ true)
joins false offering fresh g = inl refl
joins true true fresh g = inr refl
joins true false fresh g = absurd (true≢false g)

why_try : (m : LineMind) (w : Waiter) (see : Look) → see.stopping ≡ false → w.gone ≡ false → WhyWaiting m w see (try_of m w see)
why_try m w see s g =
    let P : Move → Type 0 = WhyWaiting m w see in
    cond_both (is_offering m.kind) _ _ P
    (λ o. cond_both m.ready _ _ P (λ r. s) (λ r. (s, g, o, r)))
    (λ o. cond_both (is_calling m.kind && (is_free see.line.state && may_try w.tried 1000 see.moment)) _ _ P
    (λ c. let parts = and_parts (is_calling m.kind) (is_free see.line.state && may_try w.tried 1000 see.moment) c in
    let rest = and_parts (is_free see.line.state) (may_try w.tried 1000 see.moment) parts.1 in (s, g, parts.0, rest.0, rest.1))
    (λ c. s))

leaver : (stopping gone none : Bool) → (stopping || (gone && none)) ≡ true → (stopping ≡ true) ⊎ (gone ≡ true)
leaver true gone none e = inl refl
leaver false true none e = inr refl
leaver false false none e = absurd (false≢true e)

pub why_waiting : (m : LineMind) (w : Waiter) (see : Look) → WhyWaiting m w see (next_waiting m w see)
why_waiting m w see =
    let P : Move → Type 0 = WhyWaiting m w see in
    let came : Bool = is_offering m.kind && fresh_for m see in
    cond_both (leaves m w see) _ _ P
    (λ l. let why = leaver see.stopping w.gone (not came) l in
    cond_both m.ready _ _ P (λ r. (why, r)) (λ r. (why, r)))
    (λ l. let both = or_parts see.stopping (w.gone && not came) l in
    cond_both (fresh_for m see) _ _ P
    (λ f. cond_both (to_dial m see) _ _ P
    (λ d. let no : is_offering m.kind ≡ false = not-true _ ((and_parts (not (is_offering m.kind)) (not (at_port see.owner)) d).0) in
    (both.0, f, d, stays w.gone (is_offering m.kind) (fresh_for m see) both.1 (and_left (is_offering m.kind) (fresh_for m see) no)))
    (λ d. (both.0, f, d, joins w.gone (is_offering m.kind) (fresh_for m see) both.1)))
    (λ f. cond_both (sweeps m see) _ _ P (λ s. (both.0, s))
    (λ s. why_try m w see both.0 (stays w.gone (is_offering m.kind) (fresh_for m see) both.1 (and_right (is_offering m.kind) (fresh_for m see) f)))))

nonzero : (n : ℕ) → (n == 0) ≡ false → 0 < n
nonzero n z = grind (arith, nat_tests)

no_more : (n : ℕ) → nat_lt 0 n ≡ false → n ≡ 0
no_more n r = grind (arith, nat_tests)

unanswered : (state : SessionState) → is_answered state ≡ false → is_live state ≡ false
unanswered states.Free a = refl
unanswered states.Calling a = refl
unanswered states.Asked a = refl
unanswered states.Live a = absurd (true≢false a)
unanswered states.Closing a = refl
unanswered states.Left a = refl

none_left : (left : ℕ) (live : Bool) → (nat_lt 0 left && live) ≡ false → (left ≡ 0) ⊎ (live ≡ false)
none_left left false b = inr refl
none_left left true b = inl (grind (arith, nat_tests))

-- items wait, and none are taken: some are owed
owes_some : (waiting owed : ℕ) → nat_lt 0 waiting ≡ true → (nat_lt 0 waiting && owed == 0) ≡ false → 0 < owed
owes_some waiting owed w t = grind (arith, nat_tests)

-- it isn't live, but answered, and its worker is needed: items wait
items_wait : (state : SessionState) (waiting : ℕ) → needs state waiting ≡ true → is_answered state ≡ true → is_live state ≡ false → nat_lt 0 waiting ≡ true
items_wait states.Free waiting n a l = absurd (false≢true n)
items_wait states.Calling waiting n a l = absurd (false≢true a)
items_wait states.Asked waiting n a l = absurd (false≢true a)
items_wait states.Live waiting n a l = absurd (true≢false l)
items_wait states.Closing waiting n a l = n
items_wait states.Left waiting n a l = n

owes : (m : LineMind) (g : Guest) (see : Look) → spent m g see ≡ false → not (is_answered see.line.state) ≡ false → (nat_lt 0 see.line.waiting && g.owed == 0) ≡ false → is_live see.line.state ≡ false → 0 < g.owed
owes m g see u a t l =
    let held = not-false _ ((or_parts (m.shut == g.session) (not (holds_on see.line)) ((or_parts (not (see.line.newest == g.session)) (m.shut == g.session || not (holds_on see.line)) u).1)).1) in
    owes_some see.line.waiting g.owed (items_wait see.line.state see.line.waiting held (not-false _ a) l) t

-- of a session that isn't spent
unspent : (m : LineMind) (g : Guest) (see : Look) → spent m g see ≡ false → see.line.newest ≡ g.session
unspent m g see u = eqb-true see.line.newest g.session (not-false _ ((or_parts (not (see.line.newest == g.session)) (m.shut == g.session || not (holds_on see.line)) u).0))

-- of a live session all is put
pub all_put : (left : ℕ) (live : Bool) → (left ≡ 0) ⊎ (live ≡ false) → live ≡ true → left ≡ 0
all_put left live (inl e) l = e
all_put left true (inr e) l = absurd (true≢false e)
all_put left false (inr e) l = absurd (false≢true l)

why_close : (m : LineMind) (g : Guest) (see : Look) → spent m g see ≡ false → (g.left ≡ 0) ⊎ (is_live see.line.state ≡ false) → CloseIsDue m g see → WhyJoined m g see (next_close m g see)
why_close m g see u put due =
    let P : Move → Type 0 = WhyJoined m g see in
    cond_both ((is_offering m.kind && (g.failed || g.ended)) && (is_live see.line.state && not g.attended)) _ _ P
    (λ a. let parts = and_parts (is_offering m.kind && (g.failed || g.ended)) (is_live see.line.state && not g.attended) a in
    let device = and_parts (is_offering m.kind) (g.failed || g.ended) parts.0 in
    let told = and_parts (is_live see.line.state) (not g.attended) parts.1 in
    (device.0, or_cases g.failed g.ended device.1, told.0, not-true _ told.1, u, all_put g.left (is_live see.line.state) put told.0))
    (λ a. (unspent m g see u, u, put, due))

why_live : (m : LineMind) (g : Guest) (see : Look) → see.stopping ≡ false → spent m g see ≡ false → g.failed ≡ false → is_live see.line.state ≡ true → WhyJoined m g see (next_live m g see)
why_live m g see s u nf l =
    let P : Move → Type 0 = WhyJoined m g see in
    let n : see.line.newest ≡ g.session = unspent m g see u in
    cond_both (g.left == 0) _ _ P
    (λ z. let zero_left : g.left ≡ 0 = eqb-true g.left 0 z in cond_both g.ended _ _ P (λ e. why_close m g see u (inl zero_left) (inr (inr (inl e)))) (λ e. (s, n, l, zero_left, u)))
    (λ z. cond_both (nat_lt 0 see.line.room) _ _ P (λ r. (n, l, nonzero g.left z, ltb-true 0 see.line.room r, u))
    (λ r. cond_both (nat_lt 0 g.owed) _ _ P (λ o. (nf, ltb-true 0 g.owed o)) (λ o. (n, l, no_more see.line.room r))))

-- the caller has ended, or the answer is late
late : (ended answered due : Bool) → (ended || due) ≡ true → answered ≡ false → (ended ≡ true) ⊎ ((answered ≡ false) × (due ≡ true))
late true answered due e a = inl refl
late false answered due e a = inr (a, e)

why_serving : (m : LineMind) (g : Guest) (see : Look) → see.stopping ≡ false → spent m g see ≡ false → g.failed ≡ false → WhyJoined m g see (next_serving m g see)
why_serving m g see s u nf =
    let P : Move → Type 0 = WhyJoined m g see in
    let n : see.line.newest ≡ g.session = unspent m g see u in
    cond_both (not (is_answered see.line.state)) _ _ P
    (λ a. cond_both (g.ended || is_overdue m g see) _ _ P
    (λ e. (n, u, inr (unanswered see.line.state (not-true _ a)), inr (inr (late g.ended (is_answered see.line.state) (is_overdue m g see) e (not-true _ a)))))
    (λ e. (s, not-true _ a, u)))
    (λ a. cond_both (is_live see.line.state && is_some g.wrote) _ _ P (λ c. why_live m g see s u nf (and_parts (is_live see.line.state) (is_some g.wrote) c).0)
    (λ c. cond_both (nat_lt 0 see.line.waiting && g.owed == 0) _ _ P
    (λ t. (s, n, not-false _ a, eqb-true g.owed 0 ((and_parts (nat_lt 0 see.line.waiting) (g.owed == 0) t).1), u))
    (λ t. cond_both (is_live see.line.state) _ _ P (λ l. why_live m g see s u nf l) (λ l. (nf, owes m g see u a t l)))))

ending : (m : LineMind) (g : Guest) (see : Look) → (see.stopping ≡ true) ⊎ (g.failed ≡ true) → CloseIsDue m g see
ending m g see (inl s) = inl s
ending m g see (inr f) = inr (inl f)

why_ending : (m : LineMind) (g : Guest) (see : Look) → spent m g see ≡ false → (see.stopping ≡ true) ⊎ (g.failed ≡ true) → WhyJoined m g see (next_ending m g see)
why_ending m g see u due =
    let P : Move → Type 0 = WhyJoined m g see in
    let n : see.line.newest ≡ g.session = unspent m g see u in
    cond_both (nat_lt 0 g.left && is_live see.line.state) _ _ P
    (λ b. let both = and_parts (nat_lt 0 g.left) (is_live see.line.state) b in
    cond_both (nat_lt 0 see.line.room) _ _ P (λ r. (n, both.1, ltb-true 0 g.left both.0, ltb-true 0 see.line.room r, u)) (λ r. (n, both.1, no_more see.line.room r)))
    (λ b. why_close m g see u (none_left g.left (is_live see.line.state) b) (ending m g see due))

why_lost : (m : LineMind) (g : Guest) (see : Look) → see.stopping ≡ false → see.line.newest ≡ g.session → spent m g see ≡ true → g.owed ≡ 0 → g.failed ≡ false → m.ready ≡ false → WhyJoined m g see (next_lost m g see)
why_lost m g see s n u o nf y =
    let P : Move → Type 0 = WhyJoined m g see in
    let live : Bool = g.live || shows_live see.line g.session in
    let other : Bool = g.ended || not (is_calling m.kind) in
    cond_both (is_calling m.kind && (not g.avoided && avoidable see.line.end live)) _ _ P
    (λ a. let parts = and_parts (is_calling m.kind) (not g.avoided && avoidable see.line.end live) a in
    (s, n, o, not-true _ ((and_parts (not g.avoided) (avoidable see.line.end live) parts.1).0), nf, parts.0))
    (λ a. cond_both (live || other) _ _ P (λ e. (inl o, u, y))
    (λ e. let none = or_parts live other e in
    (s, o, u, or_from g.live other ((or_parts g.live (shows_live see.line g.session) none.0).0) none.1)))

calls : (live ended calling : Bool) → (live || (ended || not calling)) ≡ false → calling ≡ true
calls true ended calling e = absurd (true≢false e)
calls false true calling e = absurd (true≢false e)
calls false false calling e = not-false _ e

why_shut : (m : LineMind) (g : Guest) (see : Look) → see.stopping ≡ false → see.line.newest ≡ g.session → spent m g see ≡ true → g.owed ≡ 0 → g.failed ≡ false → m.ready ≡ false → WhyJoined m g see (next_shut m g see)
why_shut m g see s n u o nf y =
    let P : Move → Type 0 = WhyJoined m g see in
    cond_both (is_last m.kind g) _ _ P (λ e. (inl o, u, y))
    (λ e. cond_both (not g.avoided && is_shunned see.line) _ _ P
    (λ a. (s, n, o, not-true _ ((and_parts (not g.avoided) (is_shunned see.line) a).0), nf, calls g.live g.ended (is_calling m.kind) e))
    (λ a. (s, o, u, e)))

why_over : (m : LineMind) (g : Guest) (see : Look) → spent m g see ≡ true → g.owed ≡ 0 → g.failed ≡ false → m.ready ≡ false → WhyJoined m g see (next_over m g see)
why_over m g see u o nf y =
    let P : Move → Type 0 = WhyJoined m g see in
    cond_both (see.stopping || not (see.line.newest == g.session)) _ _ P (λ h. (inl o, u, y))
    (λ h. let parts = or_parts see.stopping (not (see.line.newest == g.session)) h in
    let n : see.line.newest ≡ g.session = eqb-true see.line.newest g.session (not-false _ parts.1) in
    cond_both (m.shut == g.session) _ _ P (λ s. why_shut m g see parts.0 n u o nf y) (λ s. why_lost m g see parts.0 n u o nf y))

pub why_joined : (m : LineMind) (g : Guest) (see : Look) → WhyJoined m g see (next_joined m g see)
why_joined m g see =
    let P : Move → Type 0 = WhyJoined m g see in
    cond_both m.ready _ _ P (λ y. y)
    (λ y. cond_both g.failed _ _ P
    (λ f. cond_both (spent m g see) _ _ P (λ u. (inr f, u, y)) (λ u. why_ending m g see u (inr f)))
    (λ f. cond_both (nat_lt 0 g.owed && is_none g.wrote) _ _ P (λ w. (f, ltb-true 0 g.owed ((and_parts (nat_lt 0 g.owed) (is_none g.wrote) w).0)))
    (λ w. cond_both (not (spent m g see)) _ _ P
    (λ u. cond_both see.stopping _ _ P (λ s. why_ending m g see (not-true _ u) (inl s)) (λ s. why_serving m g see s (not-true _ u) f))
    (λ u. cond_both (g.owed == 0) _ _ P (λ o. why_over m g see (not-false _ u) (eqb-true g.owed 0 o) f y)
    (λ o. cond_both (see.stopping && stuck g.wrote) _ _ P
    (λ b. let both = and_parts see.stopping (stuck g.wrote) b in (both.0, both.1, not-false _ u, y))
    (λ b. (f, nonzero g.owed o)))))))

pub why_at : (m : LineMind) (p : Phase) (see : Look) → Why m p see (next_at m p see)
why_at m phases.Alone see = why_alone m see
why_at m (phases.Waiting w) see = why_waiting m w see
why_at m (phases.Joined g) see = why_joined m g see
why_at m phases.Finished see = tt
