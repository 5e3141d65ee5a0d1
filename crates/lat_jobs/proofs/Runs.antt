-- What holds behind every run.
use Rattle.std.proofs.Common.{◌≡◌, ◌≢◌, ℕ, ◌+◌, ◌-◌, ◌<◌, ◌≤◌, List, [], ◌∷◌, ◌++◌, length, take, drop, refl, arith, sym, ap, subst, ◌∙◌, append_assoc, length-drop}
use Rattle.std.specs.Prelude.{Bool, true, false, ◌||◌, ◌==◌, Option, Some, None, ◌*◌, ◌^◌, min, zero, suc}
use Rattle.std.proofs.lemmas.Bool.{and_parts, or_parts, eqb-true, false≢true, true≢false}
use Rattle.std.proofs.lemmas.Bool.Decides.{nat_tests}
use Rattle.std.proofs.lemmas.List.{append-nil, take-append-drop, take_all, drop-take}
use Rattle.std.proofs.Math.Nat.{pow-suc}
use Rattle.lat_mind.specs.Good.{Each}
use Rattle.lat_jobs.specs.declared.fact.Fact.{Fact}
use Rattle.lat_jobs.specs.declared.fact.Fact.TheVariants as facts
use Rattle.lat_jobs.specs.declared.fact.Move.TheVariants as moves
use Rattle.lat_jobs.specs.declared.look.Look.{Look}
use Rattle.lat_jobs.specs.declared.phase.Pause.{Pause}
use Rattle.lat_jobs.specs.declared.phase.Ask.{Ask}
use Rattle.lat_jobs.specs.declared.phase.Print.{Print}
use Rattle.lat_jobs.specs.declared.phase.Phase.{Phase}
use Rattle.lat_jobs.specs.declared.phase.Phase.TheVariants as phases
use Rattle.lat_mind.specs.Looks.{is_live}
use Rattle.lat_jobs.specs.Looks.{is_for}
use Rattle.lat_jobs.specs.Minds.{wait_after, waits_after}
use Rattle.lat_jobs.specs.Phases.{ask_after, here, phase_after, print_after}
use Rattle.lat_jobs.specs.Runs.{CanBe, Entry, RunOf, Tale, Turn, fresh_tale, number_in, number_shown, tale_at, tale_next, tale_of}
use Rattle.lat_jobs.specs.Good.{Good, GoodAsk, GoodPause, GoodPhase, GoodPrint, IsOf, NoneInto, OneSession, Untouched, wait_of}
use Rattle.lat_jobs.proofs.Reasons.{reason}

pub each_map : {A : Type 0} (P Q : A → Type 0) → ((a : A) → P a → Q a) → (xs : List A) → Each P xs → Each Q xs
each_map P Q f [] h = tt
each_map P Q f (x ∷ xs) h = (f x h.0, each_map P Q f xs h.1)

-- what holds of each of none
each_none : {A : Type 0} (P : A → Type 0) (xs : List A) → xs ≡ [] → Each P xs
each_none P [] e = tt
each_none P (x ∷ xs) e = absurd (filled e)
  where
    filled : {A : Type 0} {x : A} {xs : List A} → (x ∷ xs) ≡ [] → ⊥
    filled e = absurd (omega (arith, ap length e))

-- lists: what was given is what was done and a front of what is at hand
start : {A : Type 0} → (all done hand : List A) → all ≡ done → all ≡ done ++ take 0 hand
start all done hand e = e ∙ sym (append-nil done)

pub finish : {A : Type 0} → (all done hand : List A) (left : ℕ) → all ≡ done ++ take left hand → left ≡ 0 → all ≡ done
finish all done hand left e z = e ∙ ap (λ n. done ++ take n hand) z ∙ append-nil done

more : {A : Type 0} → (all done hand new : List A) (left n : ℕ) → all ≡ done ++ take left hand → left ≡ 0 → length new ≡ n → all ++ new ≡ done ++ take n new
more all done hand new left n e z l =
    let whole : take n new ≡ new = take_all n new (omega (arith, l)) in
    ap (λ w. w ++ new) (finish all done hand left e z) ∙ ap (λ w. done ++ w) (sym whole)

moved : {A : Type 0} → (all done hand : List A) (left n : ℕ) → all ≡ done ++ take left hand → n ≤ left → all ≡ (done ++ take n (take left hand)) ++ take (left - n) (drop n hand)
moved all done hand left n e le =
    let front = take n (take left hand) in
    let whole : n + (left - n) ≡ left = omega (arith, le) in
    let tail : drop n (take left hand) ≡ take (left - n) (drop n hand) = ap (λ k. drop n (take k hand)) (sym whole) ∙ drop-take n (left - n) hand in
    e ∙ ap (λ w. done ++ w) (sym (take-append-drop n (take left hand)) ∙ ap (λ w. front ++ w) tail) ∙ sym (append_assoc done front (take (left - n) (drop n hand)))

within : {A : Type 0} → (hand : List A) (left n : ℕ) → left ≤ length hand → left - n ≤ length (drop n hand)
within hand left n le = omega (arith, le, length-drop n hand)

-- what a look shows of a session that runs
pub numbered : (request : Option ℕ) (number : ℕ) → is_for request number ≡ true → request ≡ Some number
numbered (Some n) number e = ap (λ k. Some k) (eqb-true n number e)
numbered None number e = absurd (false≢true e)

pub here_parts : (g : Print) (see : Look) → here g see ≡ true → (see.request ≡ Some g.number) × (see.line.newest ≡ g.session)
here_parts g see h =
    let both = and_parts (is_for see.request g.number) (see.line.newest == g.session) h in
    (numbered see.request g.number both.0, eqb-true see.line.newest g.session both.1)

-- waits
doubled : (w : ℕ) (n : ℕ) → w ≡ min 300000 (5000 * 2 ^ n) → 0 < 2 ^ n → wait_after w ≡ min 300000 (5000 * 2 ^ suc n)
doubled w n e some =
    let power : 2 ^ suc n ≡ 2 ^ n * 2 = pow-suc 2 n in
    let twice : 2 ^ suc n ≡ 2 ^ n + 2 ^ n = omega (arith, power) in
    grind (arith, nat_tests)

power : (n : ℕ) → 0 < 2 ^ n
power zero = omega arith
power (suc n) = omega (arith, power n)

grows : (n : ℕ) → wait_after (wait_of n) ≡ wait_of (suc n)
grows zero = refl
grows (suc n) = doubled (wait_of (suc n)) n refl (power n)

wait_turn : (t : Tale) (p : Phase) (x : Turn) (f : Fact) → t.mind.wait ≡ wait_of t.tries → waits_after t.mind.wait f ≡ wait_of (tale_at t p x f).tries
wait_turn t p x facts.Lost e = ap wait_after e ∙ grows t.tries
wait_turn t p x facts.Cancelled e = ap wait_after e ∙ grows t.tries
wait_turn t p x _ e = e

-- phases
carry : (t : Tale) (u : Tale) → u.read ≡ t.read → u.put ≡ t.put → u.log ≡ t.log → Untouched t → Untouched u
carry t u r p l un = record { read = r ∙ un.read; put = p ∙ un.put; log = l ∙ un.log }

-- a number above all that were drawn is none of those that were cancelled
above : (drawn n : ℕ) (cs : List ℕ) → drawn < n → Each (λ c. c ≤ drawn) cs → Each (λ c. c < n) cs
above drawn n cs lt e = each_map (λ c. c ≤ drawn) (λ c. c < n) (λ c le. omega (arith, lt, le)) cs e

pausing_turn : (t : Tale) (p : Pause) (x : Turn) (f : Fact) → GoodPause t p → Each (λ c. c ≤ t.drawn) t.cancelled → CanBe t (phases.Pausing p) x f →
    GoodPhase (tale_at t (phases.Pausing p) x f) (phase_after (phases.Pausing p) x.look f)
pausing_turn t p x (facts.Asked n) good drawn can = record { untouched = carry t (tale_at t (phases.Pausing p) x (facts.Asked n)) refl refl refl good.untouched; number = omega arith; below = above t.drawn n t.cancelled can.counts drawn }
pausing_turn t p x facts.Reset good drawn can = tt
pausing_turn t p x facts.Failed good drawn can = record { untouched = carry t (tale_at t (phases.Pausing p) x facts.Failed) refl refl refl good.untouched; since = good.since }
pausing_turn t p x facts.Unasked good drawn can = record { untouched = carry t (tale_at t (phases.Pausing p) x facts.Unasked) refl refl refl good.untouched; since = good.since }
pausing_turn t p x facts.Quiet good drawn can = record { untouched = carry t (tale_at t (phases.Pausing p) x facts.Quiet) refl refl refl good.untouched; since = good.since }
pausing_turn t p x facts.Lacking good drawn can = record { untouched = carry t (tale_at t (phases.Pausing p) x facts.Lacking) refl refl refl good.untouched; since = good.since }
pausing_turn t p x facts.Repeated good drawn can = absurd (reason t.mind.wait (phases.Pausing p) x.look x.turn moves.Repeat can.answers)
pausing_turn t p x facts.Cancelled good drawn can = absurd (reason t.mind.wait (phases.Pausing p) x.look x.turn moves.Cancel can.answers)
pausing_turn t p x facts.Lost good drawn can = absurd (reason t.mind.wait (phases.Pausing p) x.look x.turn moves.Lose can.answers)
pausing_turn t p x facts.Joined good drawn can = absurd (reason t.mind.wait (phases.Pausing p) x.look x.turn moves.Join can.answers)
pausing_turn t p x (facts.Read n) good drawn can = absurd (reason t.mind.wait (phases.Pausing p) x.look x.turn moves.Read can.answers)
pausing_turn t p x facts.Ended good drawn can = absurd (reason t.mind.wait (phases.Pausing p) x.look x.turn moves.Read can.answers)
pausing_turn t p x (facts.Put n) good drawn can = absurd (reason t.mind.wait (phases.Pausing p) x.look x.turn moves.Put can.answers)
pausing_turn t p x (facts.Took n) good drawn can = absurd (reason t.mind.wait (phases.Pausing p) x.look x.turn moves.Take can.answers)
pausing_turn t p x (facts.Written n) good drawn can = absurd (reason t.mind.wait (phases.Pausing p) x.look x.turn moves.Write can.answers)
pausing_turn t p x facts.Closed good drawn can = absurd (reason t.mind.wait (phases.Pausing p) x.look x.turn moves.Close can.answers)
pausing_turn t p x facts.Rested good drawn can = absurd (reason t.mind.wait (phases.Pausing p) x.look x.turn moves.Rest can.answers)
pausing_turn t p x facts.HungUp good drawn can = absurd (reason t.mind.wait (phases.Pausing p) x.look x.turn moves.HangUp can.answers)

-- a turn of a job that has asked, behind which it has asked still
asks_on : (t : Tale) (p : Phase) (x : Turn) (f : Fact) (a : Ask) → GoodAsk t a → (tale_at t p x f).read ≡ t.read → (tale_at t p x f).put ≡ t.put → (tale_at t p x f).log ≡ t.log → (tale_at t p x f).drawn ≡ t.drawn → (tale_at t p x f).cancelled ≡ t.cancelled →
    GoodAsk (tale_at t p x f) (ask_after a x.look f)
asks_on t p x f a good r q l d c = record {
  untouched = carry t (tale_at t p x f) r q l good.untouched;
  number = omega (arith, good.number, d);
  below = let P : List ℕ → Type 0 = λ cs. Each (λ k. k < a.number) cs in subst P (sym c) good.below;
}

asking_turn : (t : Tale) (a : Ask) (x : Turn) (f : Fact) → GoodAsk t a → CanBe t (phases.Asking a) x f → GoodPhase (tale_at t (phases.Asking a) x f) (phase_after (phases.Asking a) x.look f)
asking_turn t a x facts.Joined good can = record {
  bytes = start t.read t.put t.hand (good.untouched.read ∙ sym good.untouched.put);
  hand = omega arith;
  items = λ d. refl;
  desk = omega arith;
  early = λ e. carry t (tale_at t (phases.Asking a) x facts.Joined) refl refl refl good.untouched;
  left = λ e. refl;
  own = each_none (IsOf x.look.line.newest a.number) t.log good.untouched.log;
  below = good.below;
  ended = λ e. absurd (false≢true e);
}
asking_turn t a x facts.Lost good can = record { untouched = carry t (tale_at t (phases.Asking a) x facts.Lost) refl refl refl good.untouched; since = refl }
asking_turn t a x facts.Cancelled good can = record { untouched = carry t (tale_at t (phases.Asking a) x facts.Cancelled) refl refl refl good.untouched; since = refl }
asking_turn t a x facts.Repeated good can = asks_on t (phases.Asking a) x facts.Repeated a good refl refl refl refl refl
asking_turn t a x facts.Quiet good can = asks_on t (phases.Asking a) x facts.Quiet a good refl refl refl refl refl
asking_turn t a x facts.Failed good can = asks_on t (phases.Asking a) x facts.Failed a good refl refl refl refl refl
asking_turn t a x facts.Lacking good can = asks_on t (phases.Asking a) x facts.Lacking a good refl refl refl refl refl
asking_turn t a x facts.Unasked good can = absurd (reason t.mind.wait (phases.Asking a) x.look x.turn moves.Ask can.answers)
asking_turn t a x (facts.Asked n) good can = absurd (reason t.mind.wait (phases.Asking a) x.look x.turn moves.Ask can.answers)
asking_turn t a x (facts.Read n) good can = absurd (reason t.mind.wait (phases.Asking a) x.look x.turn moves.Read can.answers)
asking_turn t a x facts.Ended good can = absurd (reason t.mind.wait (phases.Asking a) x.look x.turn moves.Read can.answers)
asking_turn t a x (facts.Put n) good can = absurd (reason t.mind.wait (phases.Asking a) x.look x.turn moves.Put can.answers)
asking_turn t a x (facts.Took n) good can = absurd (reason t.mind.wait (phases.Asking a) x.look x.turn moves.Take can.answers)
asking_turn t a x (facts.Written n) good can = absurd (reason t.mind.wait (phases.Asking a) x.look x.turn moves.Write can.answers)
asking_turn t a x facts.Closed good can = absurd (reason t.mind.wait (phases.Asking a) x.look x.turn moves.Close can.answers)
asking_turn t a x facts.Rested good can = absurd (reason t.mind.wait (phases.Asking a) x.look x.turn moves.Rest can.answers)
asking_turn t a x facts.HungUp good can = absurd (reason t.mind.wait (phases.Asking a) x.look x.turn moves.HangUp can.answers)
asking_turn t a x facts.Reset good can = absurd (reason t.mind.wait (phases.Asking a) x.look x.turn moves.Reset can.answers)

-- what was so before a fact that says something else
before : (b c : Bool) → (b || c) ≡ false → b ≡ false
before b c e = (or_parts b c e).0

kept : (b : Bool) → (b || false) ≡ true → b ≡ true
kept true e = refl
kept false e = e

unless : {P : Type 0} (b : Bool) → (b || true) ≡ false → P
unless b e = absurd (true≢false ((or_parts b true e).1))

put_turn : (t : Tale) (x : Turn) (g : Print) (n : ℕ) → GoodPrint t g → CanBe t (phases.Printing g) x (facts.Put n) → GoodPrint (tale_at t (phases.Printing g) x (facts.Put n)) (print_after g x.look (facts.Put n))
put_turn t x g n good can =
    let why = reason t.mind.wait (phases.Printing g) x.look x.turn moves.Put can.answers in
    let shown = here_parts g x.look ((and_parts (here g x.look) (is_live x.look.line.state) why.2).0) in
    let untouched : (g.touched || false) ≡ false → ⊥ = λ e. let none : g.left ≡ 0 = good.left (before g.touched false e) in absurd (omega (arith, none, why.3)) in
    record {
      bytes = moved t.read t.put t.hand g.left n good.bytes can.counts;
      hand = within t.hand g.left n good.hand;
      items = λ d. good.items (before g.deaf false d);
      desk = good.desk;
      early = λ e. absurd (untouched e);
      left = λ e. absurd (untouched e);
      own = ((shown.1, ap number_shown shown.0), good.own);
      below = good.below;
      ended = λ e. good.ended (kept g.ended e);
    }

read_turn : (t : Tale) (x : Turn) (g : Print) (n : ℕ) → GoodPrint t g → CanBe t (phases.Printing g) x (facts.Read n) → GoodPrint (tale_at t (phases.Printing g) x (facts.Read n)) (print_after g x.look (facts.Read n))
read_turn t x g n good can =
    let why = reason t.mind.wait (phases.Printing g) x.look x.turn moves.Read can.answers in
    record {
      bytes = more t.read t.put t.hand x.bytes g.left n good.bytes why.4 can.counts;
      hand = omega (arith, can.counts);
      items = λ d. good.items (before g.deaf false d);
      desk = good.desk;
      early = λ e. unless g.touched e;
      left = λ e. unless g.touched e;
      own = good.own;
      below = good.below;
      ended = λ e. good.ended (kept g.ended e);
    }

-- a turn in which nothing was read or put
others : (t u : Tale) (g h : Print) → GoodPrint t g → u.read ≡ t.read → u.put ≡ t.put → u.hand ≡ t.hand → u.log ≡ t.log → u.cancelled ≡ t.cancelled →
    h.number ≡ g.number → h.session ≡ g.session → h.left ≡ g.left → (h.touched ≡ false → g.touched ≡ false) → (h.ended ≡ true → u.ended ≡ true) →
    (h.deaf ≡ false → u.taken ≡ u.written ++ take h.owed u.desk) → h.owed ≤ length u.desk → GoodPrint u h
others t u g h good r p w l c n s f touched ended items desk = record {
  bytes = r ∙ good.bytes ∙ ap (λ k. t.put ++ take k t.hand) (sym f) ∙ ap (λ k. t.put ++ take h.left k) (sym w) ∙ ap (λ k. k ++ take h.left u.hand) (sym p);
  hand = let same : length u.hand ≡ length t.hand = ap length w in omega (arith, good.hand, same, f);
  items = items;
  desk = desk;
  early = λ e. carry t u r p l (good.early (touched e));
  left = λ e. f ∙ good.left (touched e);
  own =
      let P : List Entry → Type 0 = λ es. Each (IsOf h.session h.number) es in
      let Q : ℕ → Type 0 = λ k. Each (IsOf k g.number) t.log in
      let R : ℕ → Type 0 = λ k. Each (IsOf h.session k) t.log in
      subst P (sym l) (subst R (sym n) (subst Q (sym s) good.own));
  below =
      let P : List ℕ → Type 0 = λ cs. Each (λ k. k < h.number) cs in
      let Q : ℕ → Type 0 = λ m. Each (λ k. k < m) t.cancelled in
      subst P (sym c) (subst Q (sym n) good.below);
  ended = ended;
}

take_turn : (t : Tale) (x : Turn) (g : Print) (n : ℕ) → GoodPrint t g → CanBe t (phases.Printing g) x (facts.Took n) → GoodPrint (tale_at t (phases.Printing g) x (facts.Took n)) (print_after g x.look (facts.Took n))
take_turn t x g n good can =
    let why = reason t.mind.wait (phases.Printing g) x.look x.turn moves.Take can.answers in
    others t (tale_at t (phases.Printing g) x (facts.Took n)) g (print_after g x.look (facts.Took n)) good refl refl refl refl refl refl refl refl
    (λ e. before g.touched false e) (λ e. good.ended (kept g.ended e))
    (λ d. more t.taken t.written t.desk x.items g.owed n (good.items (before g.deaf false d)) why.4 can.counts) (omega (arith, can.counts))

write_turn : (t : Tale) (x : Turn) (g : Print) (n : ℕ) → GoodPrint t g → CanBe t (phases.Printing g) x (facts.Written n) → GoodPrint (tale_at t (phases.Printing g) x (facts.Written n)) (print_after g x.look (facts.Written n))
write_turn t x g n good can =
    others t (tale_at t (phases.Printing g) x (facts.Written n)) g (print_after g x.look (facts.Written n)) good refl refl refl refl refl refl refl refl
    (λ e. before g.touched false e) (λ e. good.ended (kept g.ended e))
    (λ d. moved t.taken t.written t.desk g.owed n (good.items (before g.deaf false d)) can.counts) (within t.desk g.owed n good.desk)

-- a client that failed gets nothing more
fail_turn : (t : Tale) (x : Turn) (g : Print) → GoodPrint t g → GoodPrint (tale_at t (phases.Printing g) x facts.Failed) (print_after g x.look facts.Failed)
fail_turn t x g good =
    others t (tale_at t (phases.Printing g) x facts.Failed) g (print_after g x.look facts.Failed) good refl refl refl refl refl refl refl refl
    (λ e. before g.touched false e) (λ e. good.ended (kept g.ended e)) (λ d. unless g.deaf d) (omega arith)

end_turn : (t : Tale) (x : Turn) (g : Print) → GoodPrint t g → GoodPrint (tale_at t (phases.Printing g) x facts.Ended) (print_after g x.look facts.Ended)
end_turn t x g good =
    others t (tale_at t (phases.Printing g) x facts.Ended) g (print_after g x.look facts.Ended) good refl refl refl refl refl refl refl refl
    (λ e. before g.touched false e) (λ e. refl) (λ d. good.items (before g.deaf false d)) good.desk

-- a turn that changes neither bytes nor items
still_turn : (t u : Tale) (g h : Print) → GoodPrint t g → u.read ≡ t.read → u.put ≡ t.put → u.hand ≡ t.hand → u.log ≡ t.log → u.cancelled ≡ t.cancelled →
    u.taken ≡ t.taken → u.written ≡ t.written → u.desk ≡ t.desk → u.ended ≡ t.ended →
    h.number ≡ g.number → h.session ≡ g.session → h.left ≡ g.left → h.owed ≡ g.owed → h.touched ≡ (g.touched || false) → h.ended ≡ (g.ended || false) → h.deaf ≡ (g.deaf || false) → GoodPrint u h
still_turn t u g h good r p w l c k v d e n s f o touched ended deaf =
    others t u g h good r p w l c n s f (λ q. before g.touched false (sym touched ∙ q)) (λ q. e ∙ good.ended (kept g.ended (sym ended ∙ q)))
    (λ q. k ∙ good.items (before g.deaf false (sym deaf ∙ q)) ∙ ap (λ z. z ++ take g.owed t.desk) (sym v) ∙ ap (λ z. u.written ++ take z t.desk) (sym o) ∙ ap (λ z. u.written ++ take h.owed z) (sym d))
    (let same : length u.desk ≡ length t.desk = ap length d in omega (arith, good.desk, same, o))

printing_turn : (t : Tale) (g : Print) (x : Turn) (f : Fact) → GoodPrint t g → CanBe t (phases.Printing g) x f → GoodPhase (tale_at t (phases.Printing g) x f) (phase_after (phases.Printing g) x.look f)
printing_turn t g x (facts.Put n) good can = put_turn t x g n good can
printing_turn t g x (facts.Read n) good can = read_turn t x g n good can
printing_turn t g x (facts.Took n) good can = take_turn t x g n good can
printing_turn t g x (facts.Written n) good can = write_turn t x g n good can
printing_turn t g x facts.Failed good can = fail_turn t x g good
printing_turn t g x facts.Ended good can = end_turn t x g good
printing_turn t g x facts.Closed good can = still_turn t (tale_at t (phases.Printing g) x facts.Closed) g (print_after g x.look facts.Closed) good refl refl refl refl refl refl refl refl refl refl refl refl refl refl refl refl
printing_turn t g x facts.Quiet good can = still_turn t (tale_at t (phases.Printing g) x facts.Quiet) g (print_after g x.look facts.Quiet) good refl refl refl refl refl refl refl refl refl refl refl refl refl refl refl refl
printing_turn t g x facts.Rested good can = still_turn t (tale_at t (phases.Printing g) x facts.Rested) g (print_after g x.look facts.Rested) good refl refl refl refl refl refl refl refl refl refl refl refl refl refl refl refl
printing_turn t g x facts.Lacking good can = still_turn t (tale_at t (phases.Printing g) x facts.Lacking) g (print_after g x.look facts.Lacking) good refl refl refl refl refl refl refl refl refl refl refl refl refl refl refl refl
printing_turn t g x facts.Lost good can =
    let why = reason t.mind.wait (phases.Printing g) x.look x.turn moves.Lose can.answers in
    record { untouched = carry t (tale_at t (phases.Printing g) x facts.Lost) refl refl refl (good.early why.0); since = refl }
printing_turn t g x facts.HungUp good can = tt
printing_turn t g x facts.Reset good can = tt
printing_turn t g x (facts.Asked n) good can = absurd (reason t.mind.wait (phases.Printing g) x.look x.turn moves.Ask can.answers)
printing_turn t g x facts.Unasked good can = absurd (reason t.mind.wait (phases.Printing g) x.look x.turn moves.Ask can.answers)
printing_turn t g x facts.Repeated good can = absurd (reason t.mind.wait (phases.Printing g) x.look x.turn moves.Repeat can.answers)
printing_turn t g x facts.Cancelled good can = absurd (reason t.mind.wait (phases.Printing g) x.look x.turn moves.Cancel can.answers)
printing_turn t g x facts.Joined good can = absurd (reason t.mind.wait (phases.Printing g) x.look x.turn moves.Join can.answers)

-- the phase behind a turn
phase_turn : (t : Tale) (p : Phase) (x : Turn) (f : Fact) → GoodPhase t p → Each (λ c. c ≤ t.drawn) t.cancelled → CanBe t p x f → GoodPhase (tale_at t p x f) (phase_after p x.look f)
phase_turn t (phases.Pausing p) x f good drawn can = pausing_turn t p x f good drawn can
phase_turn t (phases.Asking a) x f good drawn can = asking_turn t a x f good can
phase_turn t (phases.Printing g) x f good drawn can = printing_turn t g x f good can
phase_turn t phases.Over x f good drawn can = tt

-- only a job that has asked cancels, and only one with a session puts
cancels : (t : Tale) (p : Phase) (x : Turn) → GoodPhase t p → CanBe t p x facts.Cancelled → (t.log ≡ []) × (number_in p ≤ t.drawn)
cancels t (phases.Pausing p) x good can = absurd (reason t.mind.wait (phases.Pausing p) x.look x.turn moves.Cancel can.answers)
cancels t (phases.Asking a) x good can = (good.untouched.log, good.number)
cancels t (phases.Printing g) x good can = absurd (reason t.mind.wait (phases.Printing g) x.look x.turn moves.Cancel can.answers)
cancels t phases.Over x good can = absurd (reason t.mind.wait phases.Over x.look x.turn moves.Cancel can.answers)

-- where a put went
puts_into : (t : Tale) (p : Phase) (x : Turn) (n : ℕ) → GoodPhase t p → CanBe t p x (facts.Put n) → Each (IsOf x.look.line.newest (number_shown x.look.request)) t.log × Each (λ c. c < number_shown x.look.request) t.cancelled
puts_into t (phases.Pausing p) x n good can = absurd (reason t.mind.wait (phases.Pausing p) x.look x.turn moves.Put can.answers)
puts_into t (phases.Asking a) x n good can = absurd (reason t.mind.wait (phases.Asking a) x.look x.turn moves.Put can.answers)
puts_into t (phases.Printing g) x n good can =
    let why = reason t.mind.wait (phases.Printing g) x.look x.turn moves.Put can.answers in
    let shown = here_parts g x.look ((and_parts (here g x.look) (is_live x.look.line.state) why.2).0) in
    let number : g.number ≡ number_shown x.look.request = sym (ap number_shown shown.0) in
    let P : ℕ → Type 0 = λ k. Each (IsOf k (number_shown x.look.request)) t.log in
    let Q : ℕ → Type 0 = λ k. Each (IsOf g.session k) t.log in
    let R : ℕ → Type 0 = λ k. Each (λ c. c < k) t.cancelled in
    (subst P (sym shown.1) (subst Q number good.own), subst R number good.below)
puts_into t phases.Over x n good can = absurd (reason t.mind.wait phases.Over x.look x.turn moves.Put can.answers)

one_turn : (t : Tale) (p : Phase) (x : Turn) (f : Fact) → GoodPhase t p → OneSession t.log → CanBe t p x f → OneSession (tale_at t p x f).log
one_turn t p x (facts.Put n) good one can = ((puts_into t p x n good can).0, one)
one_turn t p x _ good one can = one

apart_turn : (t : Tale) (p : Phase) (x : Turn) (f : Fact) → GoodPhase t p → NoneInto t.cancelled t.log → CanBe t p x f → NoneInto (tale_at t p x f).cancelled (tale_at t p x f).log
apart_turn t p x (facts.Put n) good apart can =
    let number = number_shown x.look.request in
    (each_map (λ c. c < number) (λ c. c ≢ number) (λ c lt e. absurd (omega (arith, lt, e))) t.cancelled (puts_into t p x n good can).1, apart)
apart_turn t p x facts.Cancelled good apart can = each_none (λ e. Each (λ n. n ≢ e.number) (number_in p ∷ t.cancelled)) t.log (cancels t p x good can).0
apart_turn t p x _ good apart can = apart

drawn_turn : (t : Tale) (p : Phase) (x : Turn) (f : Fact) → GoodPhase t p → Each (λ c. c ≤ t.drawn) t.cancelled → CanBe t p x f → Each (λ c. c ≤ (tale_at t p x f).drawn) (tale_at t p x f).cancelled
drawn_turn t p x (facts.Asked n) good drawn can = each_map (λ c. c ≤ t.drawn) (λ c. c ≤ n) (λ c le. let lt = can.counts in omega (arith, lt, le)) t.cancelled drawn
drawn_turn t p x facts.Cancelled good drawn can = ((cancels t p x good can).1, drawn)
drawn_turn t p x _ good drawn can = drawn

good_turn : (t : Tale) (x : Turn) → Good t → CanBe t t.mind.phase x x.fact → Good (tale_next t x)
good_turn t x good can =
    let p = t.mind.phase in
    record {
      phase = phase_turn t p x x.fact good.phase good.drawn can;
      one = one_turn t p x x.fact good.phase good.one can;
      apart = apart_turn t p x x.fact good.phase good.apart can;
      drawn = drawn_turn t p x x.fact good.phase good.drawn can;
      wait = wait_turn t p x x.fact good.wait;
    }

good_run : (t : Tale) (xs : List Turn) → Good t → RunOf t xs → Good (tale_of t xs)
good_run t [] good run = good
good_run t (x ∷ xs) good run = good_run (tale_next t x) xs (good_turn t x good run.0) run.1

good_fresh : (drawn : ℕ) → Good (fresh_tale drawn)
good_fresh drawn = record { phase = record { untouched = record { read = refl; put = refl; log = refl }; since = refl }; one = tt; apart = tt; drawn = tt; wait = refl }

pub good_from_fresh : (drawn : ℕ) (xs : List Turn) → RunOf (fresh_tale drawn) xs → Good (tale_of (fresh_tale drawn) xs)
good_from_fresh drawn xs run = good_run (fresh_tale drawn) xs (good_fresh drawn) run
