-- What holds behind every run.
use Rattle.std.proofs.Common.{inl, inr, ◌≡◌, ℕ, ◌+◌, ◌-◌, ◌<◌, ◌≤◌, List, [], ◌∷◌, ◌++◌, length, take, drop, refl, arith, sym, ap, subst, ◌∙◌, append_assoc, length-drop}
use Rattle.std.specs.Prelude.{◌⊎◌, Bool, true, false, not, ◌&&◌, ◌||◌, nat_lt, ◌==◌, Option, Some, None, if◌then◌else◌}
use Rattle.std.proofs.lemmas.Bool.{and_parts, and_from, or_parts, or_left, ltb-true, eq-eqb, false≢true, true≢false}
use Rattle.std.proofs.lemmas.List.{append-nil, take-append-drop, take_all, drop-take}
use Rattle.lat_mind.specs.declared.fact.Fact.{Fact}
use Rattle.lat_mind.specs.declared.fact.Fact.TheVariants as facts
use Rattle.lat_mind.specs.declared.fact.Move.{Move}
use Rattle.lat_mind.specs.declared.fact.Move.TheVariants as moves
use Rattle.lat_mind.specs.declared.look.Look.{Look}
use Rattle.lat_base.specs.declared.state.SessionState.{SessionState}
use Rattle.lat_base.specs.declared.state.SessionState.TheVariants as states
use Rattle.lat_mind.specs.declared.phase.Waiter.{Waiter}
use Rattle.lat_mind.specs.declared.phase.Guest.{Guest}
use Rattle.lat_mind.specs.declared.phase.Phase.{Phase}
use Rattle.lat_mind.specs.declared.phase.Phase.TheVariants as phases
use Rattle.lat_mind.specs.declared.kind.Kind.{Kind}
use Rattle.lat_mind.specs.declared.mind.LineMind.{LineMind}
use Rattle.lat_mind.specs.Kinds.{is_calling, is_offering}
use Rattle.lat_mind.specs.Looks.{holds_on, is_answered, is_live, is_own, shows_live, was_closed}
use Rattle.lat_mind.specs.Minds.{fresh_for, next_at}
use Rattle.lat_mind.specs.Phases.{fresh_guest, has_caller, held_after, phase_after, waits}
use Rattle.lat_mind.specs.Reasons.{Why}
use Rattle.lat_mind.specs.Runs.{Answers, CanBe, Entry, RunOf, Tale, Turn, for_caller, fresh_tale, tale_at, tale_next, tale_of}
use Rattle.lat_mind.specs.Good.{Each, Good, GoodGuest, GoodPhase, OneCaller, Untouched}
use Rattle.lat_mind.proofs.Reasons.{why_at}

each_map : {A : Type 0} (P Q : A → Type 0) → ((a : A) → P a → Q a) → (xs : List A) → Each P xs → Each Q xs
each_map P Q f [] h = tt
each_map P Q f (x ∷ xs) h = (f x h.0, each_map P Q f xs h.1)

-- lists: what was given is what was done and a front of what is at hand
start : {A : Type 0} → (all done hand : List A) → all ≡ done → all ≡ done ++ take 0 hand
start all done hand e = e ∙ sym (append-nil done)

pub finish : {A : Type 0} → (all done hand : List A) (left : ℕ) → all ≡ done ++ take left hand → left ≡ 0 → all ≡ done
finish all done hand left e z = e ∙ ap (λ n. done ++ take n hand) z ∙ append-nil done

more : {A : Type 0} → (all done hand new : List A) (left n : ℕ) → all ≡ done ++ take left hand → left ≡ 0 → length new ≡ n → all ++ new ≡ done ++ take n new
more all done hand new left n e z l =
    let whole : take n new ≡ new = take_all n new (omega (arith, l)) in
    ap (λ w. w ++ new) (finish all done hand left e z) ∙ ap (λ w. done ++ w) (sym whole)

moved : {A : Type 0} → (all done hand : List A) (left n : ℕ) → all ≡ done ++ take left hand → n ≤ left → all ≡ (done ++ take n (take left hand)) ++ take (left - n) (drop n hand)
moved all done hand left n e le =
    let front = take n (take left hand) in
    let whole : n + (left - n) ≡ left = omega (arith, le) in
    let tail : drop n (take left hand) ≡ take (left - n) (drop n hand) = ap (λ k. drop n (take k hand)) (sym whole) ∙ drop-take n (left - n) hand in
    e ∙ ap (λ w. done ++ w) (sym (take-append-drop n (take left hand)) ∙ ap (λ w. front ++ w) tail) ∙ sym (append_assoc done front (take (left - n) (drop n hand)))

within : {A : Type 0} → (hand : List A) (left n : ℕ) → left ≤ length hand → left - n ≤ length (drop n hand)
within hand left n le = omega (arith, le, length-drop n hand)

-- what a look shows
answered_live : (s : SessionState) → is_live s ≡ true → is_answered s ≡ true
answered_live states.Live e = refl
answered_live states.Free e = absurd (false≢true e)
answered_live states.Calling e = absurd (false≢true e)
answered_live states.Asked e = absurd (false≢true e)
answered_live states.Closing e = refl
answered_live states.Left e = refl

shown : (see : Look) (session : ℕ) → see.line.newest ≡ session → is_answered see.line.state ≡ true → shows_live see.line session ≡ true
shown see session n a = and_from (see.line.newest == session) (is_answered see.line.state || was_closed see.line.end) (eq-eqb see.line.newest session n) (or_left (is_answered see.line.state) (was_closed see.line.end) a)

-- the mind has seen it live now
lives : {P : Type 0} (live : Bool) (see : Look) (session : ℕ) → see.line.newest ≡ session → is_answered see.line.state ≡ true → (live || shows_live see.line session) ≡ false → P
lives live see session n a e = absurd (true≢false (sym (shown see session n a) ∙ (or_parts live (shows_live see.line session) e).1))

was : (live : Bool) (see : Look) (session : ℕ) → (live || shows_live see.line session) ≡ false → live ≡ false
was live see session e = (or_parts live (shows_live see.line session) e).0

rises : (m : LineMind) (see : Look) → fresh_for m see ≡ true → m.seen < see.line.newest
rises m see f =
    let due : Bool = not (see.line.newest == m.shut) && (holds_on see.line && is_own see.owner) in
    let rest = (and_parts (not (is_calling m.kind)) (nat_lt m.seen see.line.newest && due) f).1 in
    ltb-true m.seen see.line.newest ((and_parts (nat_lt m.seen see.line.newest) due rest).0)

dial_rises : (m : LineMind) (p : Phase) (see : Look) → Why m p see moves.Dial → m.seen < see.line.newest
dial_rises m phases.Alone see w = rises m see w.1
dial_rises m (phases.Waiting w) see r = rises m see r.1
dial_rises m (phases.Joined g) see r = absurd r
dial_rises m phases.Finished see r = absurd r

join_rises : (m : LineMind) (p : Phase) (see : Look) → Why m p see moves.Join → m.seen < see.line.newest
join_rises m phases.Alone see w = absurd w
join_rises m (phases.Waiting w) see r = rises m see r.1
join_rises m (phases.Joined g) see r = absurd r
join_rises m phases.Finished see r = absurd r

-- the reason of the move that a fact is of
pub reason : (m : LineMind) (p : Phase) (see : Look) (mv : Move) → next_at m p see ≡ mv → Why m p see mv
reason m p see mv e = let P : Move → Type 0 = λ v. Why m p see v in subst P e (why_at m p see)

-- a session with a number above all that were seen is nobody's yet
nobody : (log : List Entry) (seen new caller : ℕ) → seen < new → Each (λ e. e.session ≤ seen) log → Each (λ e. e.session ≡ new → e.caller ≡ caller) log
nobody log seen new caller lt below = each_map (λ e. e.session ≤ seen) (λ e. e.session ≡ new → e.caller ≡ caller) (λ e le is. absurd (omega (arith, lt, le, is))) log below

joined : (t : Tale) (session : ℕ) (tried : Option ℕ) (beside failed : Bool) → t.mind.seen ≡ session → tried ≡ t.tried → Untouched t → Each (λ e. e.session ≡ t.mind.seen → e.caller ≡ t.caller) t.log → GoodGuest t (fresh_guest session tried beside failed)
joined t session tried beside failed s d u o = record {
  session = sym s;
  tried = d;
  bytes = start t.read t.put t.hand (u.read ∙ sym u.put);
  hand = omega arith;
  items = start t.taken t.written t.desk (u.taken ∙ sym u.written);
  desk = omega arith;
  early = λ e. u;
  owed = λ e. refl;
  own = o;
}

-- a turn in which nothing was read, put, taken or written
quiet : (t : Tale) (g h : Guest) (see : Look) → GoodGuest t g → h.session ≡ g.session → h.tried ≡ g.tried → h.left ≡ g.left → h.owed ≡ g.owed → h.live ≡ (g.live || shows_live see.line g.session) → GoodGuest t h
quiet t g h see good s d l o v = record {
  session = s ∙ good.session;
  tried = d ∙ good.tried;
  bytes = good.bytes ∙ ap (λ n. t.put ++ take n t.hand) (sym l);
  hand = omega (arith, l, good.hand);
  items = good.items ∙ ap (λ n. t.written ++ take n t.desk) (sym o);
  desk = omega (arith, o, good.desk);
  early = λ e. good.early (was g.live see g.session (sym v ∙ e));
  owed = λ e. o ∙ good.owed (was g.live see g.session (sym v ∙ e));
  own = good.own;
}

-- the same, told to a mind that has seen no new session
carry : (t : Tale) (m : LineMind) (d : ℕ) (y : Bool) (g : Guest) → m.seen ≡ t.mind.seen → GoodGuest t g → GoodGuest (record t { mind = m; drawn = d; ready = y }) g
carry t m d y g s good = record {
  session = good.session ∙ sym s;
  tried = good.tried;
  bytes = good.bytes;
  hand = good.hand;
  items = good.items;
  desk = good.desk;
  early = λ e. let u = good.early e in record { read = u.read; put = u.put; taken = u.taken; written = u.written };
  owed = good.owed;
  own = each_map (λ e. e.session ≡ t.mind.seen → e.caller ≡ t.caller) (λ e. e.session ≡ m.seen → e.caller ≡ t.caller) (λ e own is. own (is ∙ s)) t.log good.own;
}

-- the turns of a caller with a session
put_turn : (t : Tale) (x : Turn) (g : Guest) (n : ℕ) → GoodGuest t g → CanBe t (phases.Joined g) x (facts.Put n) → GoodGuest (tale_at t (phases.Joined g) x (facts.Put n)) (held_after g x.look (facts.Put n))
put_turn t x g n good can =
    let why = reason t.mind (phases.Joined g) x.look moves.Put can.answers in
    record {
      session = good.session;
      tried = good.tried;
      bytes = moved t.read t.put t.hand g.left n good.bytes can.counts;
      hand = within t.hand g.left n good.hand;
      items = good.items;
      desk = good.desk;
      early = λ e. lives g.live x.look g.session why.0 (answered_live x.look.line.state why.1) e;
      owed = λ e. good.owed (was g.live x.look g.session e);
      own = (λ e. refl, good.own);
    }

read_turn : (t : Tale) (x : Turn) (g : Guest) (n : ℕ) → GoodGuest t g → CanBe t (phases.Joined g) x (facts.Read n) → GoodGuest (tale_at t (phases.Joined g) x (facts.Read n)) (held_after g x.look (facts.Read n))
read_turn t x g n good can =
    let why = reason t.mind (phases.Joined g) x.look moves.Read can.answers in
    record {
      session = good.session;
      tried = good.tried;
      bytes = more t.read t.put t.hand x.bytes g.left n good.bytes why.3 can.counts;
      hand = omega (arith, can.counts);
      items = good.items;
      desk = good.desk;
      early = λ e. lives g.live x.look g.session why.1 (answered_live x.look.line.state why.2) e;
      owed = λ e. good.owed (was g.live x.look g.session e);
      own = good.own;
    }

take_turn : (t : Tale) (x : Turn) (g : Guest) (n : ℕ) → GoodGuest t g → CanBe t (phases.Joined g) x (facts.Took n) → GoodGuest (tale_at t (phases.Joined g) x (facts.Took n)) (held_after g x.look (facts.Took n))
take_turn t x g n good can =
    let why = reason t.mind (phases.Joined g) x.look moves.Take can.answers in
    record {
      session = good.session;
      tried = good.tried;
      bytes = good.bytes;
      hand = good.hand;
      items = more t.taken t.written t.desk x.items g.owed n good.items why.3 can.counts;
      desk = omega (arith, can.counts);
      early = λ e. lives g.live x.look g.session why.1 why.2 e;
      owed = λ e. lives g.live x.look g.session why.1 why.2 e;
      own = (λ e. refl, good.own);
    }

owing : {P : Type 0} (owed : ℕ) → 0 < owed → owed ≡ 0 → P
owing owed some none = absurd (omega (arith, some, none))

write_turn : (t : Tale) (x : Turn) (g : Guest) (n : ℕ) → GoodGuest t g → CanBe t (phases.Joined g) x (facts.Written n) → GoodGuest (tale_at t (phases.Joined g) x (facts.Written n)) (held_after g x.look (facts.Written n))
write_turn t x g n good can =
    let why = reason t.mind (phases.Joined g) x.look moves.Write can.answers in
    record {
      session = good.session;
      tried = good.tried;
      bytes = good.bytes;
      hand = good.hand;
      items = moved t.taken t.written t.desk g.owed n good.items can.counts;
      desk = within t.desk g.owed n good.desk;
      early = λ e. owing g.owed why.1 (good.owed (was g.live x.look g.session e));
      owed = λ e. let none : g.owed ≡ 0 = good.owed (was g.live x.look g.session e) in omega (arith, none);
      own = good.own;
    }

-- another turn of such a caller
other_turn : (t : Tale) (m : LineMind) (d : ℕ) (y : Bool) (g h : Guest) (see : Look) → m.seen ≡ t.mind.seen → GoodGuest t g → h.session ≡ g.session → h.tried ≡ g.tried → h.left ≡ g.left → h.owed ≡ g.owed → h.live ≡ (g.live || shows_live see.line g.session) → GoodGuest (record t { mind = m; drawn = d; ready = y }) h
other_turn t m d y g h see s good a r b q e = carry t m d y h s (quiet t g h see good a r b q e)

-- the caller of a session that was never live is as one who has none
lost_turn : (t : Tale) (g : Guest) (see : Look) → GoodGuest t g → Why t.mind (phases.Joined g) see moves.Lose → Untouched t
lost_turn t g see good why = good.early ((or_parts g.live (g.ended || not (is_calling t.mind.kind)) why.3).0)

-- whoever waited beside a caller has the line
left_turn : (t : Tale) (m : LineMind) (d caller : ℕ) (beside : Bool) → GoodPhase (record (for_caller t caller) { mind = m; drawn = d }) (if beside then waits None else phases.Alone)
left_turn t m d caller true = (record { read = refl; put = refl; taken = refl; written = refl }, refl)
left_turn t m d caller false = tt

untouched : (t : Tale) (m : LineMind) (d : ℕ) (tried away : Option ℕ) (y : Bool) → Untouched t → Untouched (record t { mind = m; drawn = d; tried = tried; away = away; ready = y })
untouched t m d tried away y u = record { read = u.read; put = u.put; taken = u.taken; written = u.written }

waits_on : (t : Tale) (m : LineMind) (d : ℕ) (y : Bool) (w v : Waiter) → Untouched t × (w.tried ≡ t.tried) → v.tried ≡ w.tried → GoodPhase (record t { mind = m; drawn = d; ready = y }) (phases.Waiting v)
waits_on t m d y w v good s = (untouched t m d t.tried t.away y good.0, s ∙ good.1)

-- a caller doesn't come while the line has one
uncame : {P : Type 0} (m : LineMind) (w : Waiter) (see : Look) → (next_at m (phases.Waiting w) see ≡ moves.Accept) ⊎ (next_at m (phases.Waiting w) see ≡ moves.Attach) → P
uncame m w see (inl e) = absurd (reason m (phases.Waiting w) see moves.Accept e)
uncame m w see (inr e) = absurd (reason m (phases.Waiting w) see moves.Attach e)

ungot : {P : Type 0} (m : LineMind) (g : Guest) (see : Look) → (next_at m (phases.Joined g) see ≡ moves.Accept) ⊎ (next_at m (phases.Joined g) see ≡ moves.Attach) → P
ungot m g see (inl e) = absurd (reason m (phases.Joined g) see moves.Accept e)
ungot m g see (inr e) = absurd (reason m (phases.Joined g) see moves.Attach e)

-- the phase behind a turn
phase_turn : (t : Tale) (p : Phase) (x : Turn) (f : Fact) → GoodPhase t p → Each (λ e. e.session ≤ t.mind.seen) t.log → t.mind.seen ≤ t.drawn → CanBe t p x f → GoodPhase (tale_at t p x f) (phase_after p x.look f)
phase_turn t phases.Alone x facts.Came good below seen can = (record { read = refl; put = refl; taken = refl; written = refl }, refl)
phase_turn t phases.Alone x facts.Dialled good below seen can =
    joined (tale_at t phases.Alone x facts.Dialled) x.look.line.newest None false false refl refl (record { read = refl; put = refl; taken = refl; written = refl })
    (nobody t.log t.mind.seen x.look.line.newest (t.callers + 1) (dial_rises t.mind phases.Alone x.look (reason t.mind phases.Alone x.look moves.Dial can.answers)) below)
phase_turn t phases.Alone x _ good below seen can = tt
phase_turn t (phases.Waiting w) x facts.Joined good below seen can =
    let u = tale_at t (phases.Waiting w) x facts.Joined in
    joined u x.look.line.newest w.tried false w.gone refl good.1 (untouched t u.mind u.drawn t.tried t.away t.ready good.0)
    (nobody t.log t.mind.seen x.look.line.newest t.caller (join_rises t.mind (phases.Waiting w) x.look (reason t.mind (phases.Waiting w) x.look moves.Join can.answers)) below)
phase_turn t (phases.Waiting w) x facts.Dialled good below seen can =
    joined (tale_at t (phases.Waiting w) x facts.Dialled) x.look.line.newest None true false refl refl (record { read = refl; put = refl; taken = refl; written = refl })
    (nobody t.log t.mind.seen x.look.line.newest (t.callers + 1) (dial_rises t.mind (phases.Waiting w) x.look (reason t.mind (phases.Waiting w) x.look moves.Dial can.answers)) below)
phase_turn t (phases.Waiting w) x (facts.Connected n) good below seen can =
    let u = tale_at t (phases.Waiting w) x (facts.Connected n) in
    joined u n (Some x.look.moment) false w.gone refl refl (untouched t u.mind u.drawn (Some x.look.moment) t.away t.ready good.0)
    (nobody t.log t.mind.seen n t.caller (omega (arith, seen, can.drawn, can.counts)) below)
phase_turn t (phases.Waiting w) x facts.HungUp good below seen can = tt
phase_turn t (phases.Waiting w) x facts.Finished good below seen can = tt
phase_turn t (phases.Waiting w) x facts.Came good below seen can = uncame t.mind w x.look can.answers
phase_turn t (phases.Waiting w) x facts.Away good below seen can = absurd (reason t.mind (phases.Waiting w) x.look moves.Attach can.answers)
phase_turn t (phases.Waiting w) x facts.Unconnected good below seen can =
    let u = tale_at t (phases.Waiting w) x facts.Unconnected in (untouched t u.mind u.drawn (Some x.look.moment) t.away t.ready good.0, refl)
phase_turn t (phases.Waiting w) x (facts.Read n) good below seen can = absurd (reason t.mind (phases.Waiting w) x.look moves.Read can.answers)
phase_turn t (phases.Waiting w) x (facts.Put n) good below seen can = absurd (reason t.mind (phases.Waiting w) x.look moves.Put can.answers)
phase_turn t (phases.Waiting w) x (facts.Took n) good below seen can = absurd (reason t.mind (phases.Waiting w) x.look moves.Take can.answers)
phase_turn t (phases.Waiting w) x (facts.Written n) good below seen can = absurd (reason t.mind (phases.Waiting w) x.look moves.Write can.answers)
phase_turn t (phases.Waiting w) x facts.Lost good below seen can = absurd (reason t.mind (phases.Waiting w) x.look moves.Lose can.answers)
phase_turn t (phases.Waiting w) x facts.Readied good below seen can =
    let u = tale_at t (phases.Waiting w) x facts.Readied in waits_on t u.mind u.drawn true w w good refl
phase_turn t (phases.Waiting w) x facts.Unreadied good below seen can =
    let u = tale_at t (phases.Waiting w) x facts.Unreadied in waits_on t u.mind u.drawn false w w good refl
phase_turn t (phases.Waiting w) x facts.Ended good below seen can =
    let u = tale_at t (phases.Waiting w) x facts.Ended in waits_on t u.mind u.drawn t.ready w (record w { gone = true }) good refl
phase_turn t (phases.Waiting w) x facts.Failed good below seen can =
    let u = tale_at t (phases.Waiting w) x facts.Failed in waits_on t u.mind u.drawn t.ready w (record w { gone = true }) good refl
phase_turn t (phases.Waiting w) x f good below seen can =
    let u = tale_at t (phases.Waiting w) x f in waits_on t u.mind u.drawn t.ready w w good refl
phase_turn t (phases.Joined g) x (facts.Read n) good below seen can = read_turn t x g n good can
phase_turn t (phases.Joined g) x (facts.Put n) good below seen can = put_turn t x g n good can
phase_turn t (phases.Joined g) x (facts.Took n) good below seen can = take_turn t x g n good can
phase_turn t (phases.Joined g) x (facts.Written n) good below seen can = write_turn t x g n good can
phase_turn t (phases.Joined g) x facts.HungUp good below seen can =
    let u = tale_at t (phases.Joined g) x facts.HungUp in left_turn t u.mind u.drawn t.beside g.beside
phase_turn t (phases.Joined g) x facts.Finished good below seen can = tt
phase_turn t (phases.Joined g) x facts.Lost good below seen can =
    let u = tale_at t (phases.Joined g) x facts.Lost in
    let why = reason t.mind (phases.Joined g) x.look moves.Lose can.answers in
    (untouched t u.mind u.drawn t.tried t.away t.ready (lost_turn t g x.look good why), good.tried)
phase_turn t (phases.Joined g) x facts.Came good below seen can = ungot t.mind g x.look can.answers
phase_turn t (phases.Joined g) x facts.Away good below seen can = absurd (reason t.mind (phases.Joined g) x.look moves.Attach can.answers)
phase_turn t (phases.Joined g) x facts.Dialled good below seen can = absurd (reason t.mind (phases.Joined g) x.look moves.Dial can.answers)
phase_turn t (phases.Joined g) x facts.Undialled good below seen can = absurd (reason t.mind (phases.Joined g) x.look moves.Dial can.answers)
phase_turn t (phases.Joined g) x facts.Joined good below seen can = absurd (reason t.mind (phases.Joined g) x.look moves.Join can.answers)
phase_turn t (phases.Joined g) x (facts.Connected n) good below seen can = absurd (reason t.mind (phases.Joined g) x.look moves.Connect can.answers)
phase_turn t (phases.Joined g) x facts.Unconnected good below seen can = absurd (reason t.mind (phases.Joined g) x.look moves.Connect can.answers)
phase_turn t (phases.Joined g) x facts.Readied good below seen can = absurd (reason t.mind (phases.Joined g) x.look moves.Ready can.answers)
phase_turn t (phases.Joined g) x facts.Unreadied good below seen can =
    let u = tale_at t (phases.Joined g) x facts.Unreadied in
    other_turn t u.mind u.drawn false g (held_after g x.look facts.Unreadied) x.look refl good refl refl refl refl refl
phase_turn t (phases.Joined g) x f good below seen can =
    let u = tale_at t (phases.Joined g) x f in
    other_turn t u.mind u.drawn t.ready g (held_after g x.look f) x.look refl good refl refl refl refl refl
phase_turn t phases.Finished x f good below seen can = tt

-- a put or a take: the session is that of the present caller, and none of it was another's
put_now : (t : Tale) (p : Phase) (see : Look) → GoodPhase t p → Why t.mind p see moves.Put → (see.line.newest ≡ t.mind.seen) × Each (λ e. e.session ≡ t.mind.seen → e.caller ≡ t.caller) t.log
put_now t phases.Alone see good why = absurd why
put_now t (phases.Waiting w) see good why = absurd why
put_now t (phases.Joined g) see good why = (why.0 ∙ good.session, good.own)
put_now t phases.Finished see good why = absurd why

take_now : (t : Tale) (p : Phase) (see : Look) → GoodPhase t p → Why t.mind p see moves.Take → (see.line.newest ≡ t.mind.seen) × Each (λ e. e.session ≡ t.mind.seen → e.caller ≡ t.caller) t.log
take_now t phases.Alone see good why = absurd why
take_now t (phases.Waiting w) see good why = absurd why
take_now t (phases.Joined g) see good why = (why.1 ∙ good.session, good.own)
take_now t phases.Finished see good why = absurd why

seen_turn : (t : Tale) (p : Phase) (x : Turn) (f : Fact) → t.mind.seen ≤ t.drawn → CanBe t p x f → (tale_at t p x f).mind.seen ≤ (tale_at t p x f).drawn
seen_turn t p x facts.Dialled seen can = can.newest
seen_turn t p x facts.Undialled seen can = can.newest
seen_turn t p x facts.Joined seen can = can.newest
seen_turn t p x (facts.Connected n) seen can = omega arith
seen_turn t p x _ seen can = omega (arith, seen, can.drawn)

rise : (log : List Entry) (seen new : ℕ) → seen ≤ new → Each (λ e. e.session ≤ seen) log → Each (λ e. e.session ≤ new) log
rise log seen new le below = each_map (λ e. e.session ≤ seen) (λ e. e.session ≤ new) (λ e b. omega (arith, b, le)) log below

below_turn : (t : Tale) (p : Phase) (x : Turn) (f : Fact) → GoodPhase t p → Each (λ e. e.session ≤ t.mind.seen) t.log → t.mind.seen ≤ t.drawn → CanBe t p x f → Each (λ e. e.session ≤ (tale_at t p x f).mind.seen) (tale_at t p x f).log
below_turn t p x facts.Dialled good below seen can =
    let up = dial_rises t.mind p x.look (reason t.mind p x.look moves.Dial can.answers) in
    rise t.log t.mind.seen x.look.line.newest (omega (arith, up)) below
below_turn t p x facts.Undialled good below seen can =
    let up = dial_rises t.mind p x.look (reason t.mind p x.look moves.Dial can.answers) in
    rise t.log t.mind.seen x.look.line.newest (omega (arith, up)) below
below_turn t p x facts.Joined good below seen can =
    let up = join_rises t.mind p x.look (reason t.mind p x.look moves.Join can.answers) in
    rise t.log t.mind.seen x.look.line.newest (omega (arith, up)) below
below_turn t p x (facts.Connected n) good below seen can = rise t.log t.mind.seen n (omega (arith, seen, can.drawn, can.counts)) below
below_turn t p x (facts.Put n) good below seen can =
    let now = put_now t p x.look good (reason t.mind p x.look moves.Put can.answers) in
    (omega (arith, now.0), below)
below_turn t p x (facts.Took n) good below seen can =
    let now = take_now t p x.look good (reason t.mind p x.look moves.Take can.answers) in
    (omega (arith, now.0), below)
below_turn t p x _ good below seen can = below

at_newest : (log : List Entry) (seen newest caller : ℕ) → newest ≡ seen → Each (λ e. e.session ≡ seen → e.caller ≡ caller) log → Each (λ e. e.session ≡ newest → e.caller ≡ caller) log
at_newest log seen newest caller n own = each_map (λ e. e.session ≡ seen → e.caller ≡ caller) (λ e. e.session ≡ newest → e.caller ≡ caller) (λ e o is. o (is ∙ n)) log own

one_turn : (t : Tale) (p : Phase) (x : Turn) (f : Fact) → GoodPhase t p → OneCaller t.log → CanBe t p x f → OneCaller (tale_at t p x f).log
one_turn t p x (facts.Put n) good one can =
    let now = put_now t p x.look good (reason t.mind p x.look moves.Put can.answers) in
    (at_newest t.log t.mind.seen x.look.line.newest t.caller now.0 now.1, one)
one_turn t p x (facts.Took n) good one can =
    let now = take_now t p x.look good (reason t.mind p x.look moves.Take can.answers) in
    (at_newest t.log t.mind.seen x.look.line.newest t.caller now.0 now.1, one)
one_turn t p x _ good one can = one

pub clash : {P : Type 0} (b : Bool) → b ≡ true → b ≡ false → P
clash b t f = absurd (true≢false (sym t ∙ f))

-- a line that is ready keeps its caller
keeps : (m : LineMind) (p : Phase) (x : Turn) (f : Fact) → has_caller p ≡ true → Answers (next_at m p x.look) f → m.ready ≡ true → has_caller (phase_after p x.look f) ≡ true
keeps m phases.Alone x f c a r = absurd (false≢true c)
keeps m (phases.Waiting w) x facts.HungUp c a r = clash m.ready r ((reason m (phases.Waiting w) x.look moves.HangUp a).1)
keeps m (phases.Waiting w) x facts.Finished c a r = absurd (reason m (phases.Waiting w) x.look moves.Finish a)
keeps m (phases.Waiting w) x facts.Joined c a r = refl
keeps m (phases.Waiting w) x facts.Dialled c a r = refl
keeps m (phases.Waiting w) x (facts.Connected n) c a r = refl
keeps m (phases.Waiting w) x _ c a r = refl
keeps m (phases.Joined g) x facts.HungUp c a r = clash m.ready r ((reason m (phases.Joined g) x.look moves.HangUp a).2)
keeps m (phases.Joined g) x facts.Finished c a r = clash m.ready r ((reason m (phases.Joined g) x.look moves.Finish a).3)
keeps m (phases.Joined g) x facts.Lost c a r = refl
keeps m (phases.Joined g) x _ c a r = refl
keeps m phases.Finished x f c a r = absurd (false≢true c)

-- a device is there where the line becomes ready
readied : (m : LineMind) (p : Phase) (x : Turn) → Why m p x.look moves.Ready → (has_caller (phase_after p x.look facts.Readied) ≡ true) × (is_offering m.kind ≡ true)
readied m phases.Alone x why = absurd why
readied m (phases.Waiting w) x why = (refl, why.2)
readied m (phases.Joined g) x why = absurd why
readied m phases.Finished x why = absurd why

device_turn : (t : Tale) (p : Phase) (x : Turn) (f : Fact) → (t.mind.ready ≡ true → (has_caller p ≡ true) × (is_offering t.mind.kind ≡ true)) → CanBe t p x f →
    (tale_at t p x f).mind.ready ≡ true → (has_caller (phase_after p x.look f) ≡ true) × (is_offering t.mind.kind ≡ true)
device_turn t p x facts.Readied has can ready = readied t.mind p x (reason t.mind p x.look moves.Ready can.answers)
device_turn t p x facts.Unreadied has can ready = absurd (false≢true ready)
device_turn t p x f has can ready = (keeps t.mind p x f (has ready).0 can.answers ready, (has ready).1)

away_turn : (t : Tale) (p : Phase) (x : Turn) (f : Fact) → t.mind.away ≡ t.away → (tale_at t p x f).mind.away ≡ (tale_at t p x f).away
away_turn t p x facts.Away same = refl
away_turn t p x facts.Came same = refl
away_turn t p x _ same = same

ready_turn : (t : Tale) (p : Phase) (x : Turn) (f : Fact) → t.mind.ready ≡ t.ready → (tale_at t p x f).mind.ready ≡ (tale_at t p x f).ready
ready_turn t p x facts.Readied same = refl
ready_turn t p x facts.Unreadied same = refl
ready_turn t p x _ same = same

good_turn : (t : Tale) (x : Turn) → Good t → CanBe t t.mind.phase x x.fact → Good (tale_next t x)
good_turn t x good can =
    let p = t.mind.phase in
    record {
      phase = phase_turn t p x x.fact good.phase good.below good.seen can;
      seen = seen_turn t p x x.fact good.seen can;
      below = below_turn t p x x.fact good.phase good.below good.seen can;
      one = one_turn t p x x.fact good.phase good.one can;
      away = away_turn t p x x.fact good.away;
      ready = ready_turn t p x x.fact good.ready;
      device = device_turn t p x x.fact good.device can;
    }

good_run : (t : Tale) (xs : List Turn) → Good t → RunOf t xs → Good (tale_of t xs)
good_run t [] good run = good
good_run t (x ∷ xs) good run = good_run (tale_next t x) xs (good_turn t x good run.0) run.1

good_fresh : (kind : Kind) → Good (fresh_tale kind)
good_fresh kind = record { phase = tt; seen = omega arith; below = tt; one = tt; away = refl; ready = refl; device = λ e. absurd (false≢true e) }

pub good_from_fresh : (kind : Kind) (xs : List Turn) → RunOf (fresh_tale kind) xs → Good (tale_of (fresh_tale kind) xs)
good_from_fresh kind xs run = good_run (fresh_tale kind) xs (good_fresh kind) run
