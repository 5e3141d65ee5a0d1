-- Whatever happens to a spool, no job is in two places.
use Rattle.std.proofs.Common.{◌≡◌, ℕ, ◌+◌, ◌<◌, ◌≤◌, List, [], ◌∷◌, refl, sym, ◌∙◌, arith}
use Rattle.std.specs.Prelude.{Bool, true, false, ◌==◌, if◌then◌else◌, Option, Some, None, position, remove, slice_get}
use Rattle.lat_mind.specs.Good.{Each}
use Rattle.lat_base.specs.declared.addr.Addr.{Addr}
use Rattle.lat_jobs.specs.declared.look.StatusLook.{StatusLook}
use Rattle.lat_jobs.specs.declared.mind.JobMind.{JobMind}
use Rattle.lat_jobs.proofs.Runs.{each_map}
use Rattle.lat_spool.specs.declared.hand.Hand.TheVariants as hands
use Rattle.lat_spool.specs.declared.place.Place.TheVariants as places
use Rattle.lat_spool.specs.declared.job.Job.{Job}
use Rattle.lat_spool.specs.declared.loan.Loan.{Loan}
use Rattle.lat_spool.specs.Jobs.{clock_hand, heard_of, is_called, is_out, is_under, lent_job, loan_of, taken_back, takes}
use Rattle.lat_spool.specs.Laws.{EachIsOnce, KeysRise, one, times_lent, times_out}
use Rattle.lat_spool.specs.Spools.{SpoolView, back_in, changed, clock_lent, fresh_job, has_room, heard_in, joined, left_from, left_in, lent_in, loan_from, loan_in, out_at, over_in, spool_came}
use Rattle.lat_spool.specs.Worlds.{Act, Backs, Comes, Hears, Lends, Overs, Turns, World, fresh_world, out_behind, out_over, with_loan, without, world_after, world_of}
use Rattle.lat_spool.proofs.Found.{Found, found}
use Rattle.lat_spool.proofs.Orders.{each_changed, each_last, each_removed, rise_changed, rise_last, rise_removed}
use Rattle.lat_spool.proofs.Times.{gained, lent_once, lost, one_own, out_as, out_gained, out_without, times_gained, times_last, times_lost, times_removed, times_same, with_false}

-- what holds of the jobs and of the loans that are out
abbrev Once : {J : Type 0} → ℕ → List (Job J) → List (Loan J) → Type 0
Once came js ls = KeysRise js × Each (λ j. j.key < came) js × ((key : ℕ) → times_out key ls ≡ times_lent key js)

-- what keeps a job's key, and how often it is lent
kept : {J : Type 0} (came : ℕ) (f : Job J → Job J) (js : List (Job J)) (ls ls' : List (Loan J)) (at : ℕ) → ((j : Job J) → (f j).key ≡ j.key) →
    ((key : ℕ) → times_out key ls' ≡ times_lent key (changed (slice_get js at) f js at)) → Once came js ls → Once came (changed (slice_get js at) f js at) ls'
kept came f js ls ls' at keeps out o = (rise_changed f keeps js at o.0, each_changed (λ n. n < came) f keeps js at o.1, out)

-- coming
has_come : {J : Type 0} (v : SpoolView J) (queue : ℕ) (load : J) (ls : List (Loan J)) (o : Option Addr) → Once v.came v.jobs ls →
    Once (joined o v queue load).came (joined o v queue load).jobs ls
has_come v queue load ls None once = once
has_come {J} v queue load ls (Some server) once =
    let j : Job J = fresh_job v.came queue server load in
    let P : Job J → Type 0 = λ k. k.key < v.came in
    let Q : Job J → Type 0 = λ k. k.key < v.came + 1 in (
      rise_last v.jobs j once.0 once.1,
      each_last Q v.jobs j (each_map P Q (λ k lt. omega (arith, lt)) v.jobs once.1) (omega arith),
      λ key. let last = times_last key v.jobs j in let none = with_false (v.came == key) in let same = once.2 key in omega (arith, last, none, same),
    )

came_if : {J : Type 0} (w : World J) (queue : ℕ) (load : J) (b : Bool) → EachIsOnce w → EachIsOnce (record w { spool = if b then spool_came w.spool queue load else w.spool })
came_if w queue load true e =
    let once = has_come w.spool queue load w.out (slice_get w.spool.servers queue) (e.rise, e.below, e.out) in
    record { rise = once.0; below = once.1; out = once.2 }
came_if w queue load false e = record { rise = e.rise; below = e.below; out = e.out }

-- hearing
heard_key : {J : Type 0} (mind_of : J → JobMind) (from : Addr) (s : StatusLook) (j : Job J) → (heard_of mind_of from s j).key ≡ j.key
heard_key {J} mind_of from s j = by (is_under mind_of from s.request j)
  where
    by : (b : Bool) → (if b then record j { status = Some s } else j).key ≡ j.key
    by true = refl
    by false = refl

heard_once : {J : Type 0} (mind_of : J → JobMind) (from : Addr) (s : StatusLook) (key : ℕ) (j : Job J) → one (is_out key (heard_of mind_of from s j)) ≡ one (is_out key j)
heard_once {J} mind_of from s key j = by (is_under mind_of from s.request j)
  where
    by : (b : Bool) → one (is_out key (if b then record j { status = Some s } else j)) ≡ one (is_out key j)
    by true = refl
    by false = refl

heard_by : {J : Type 0} (mind_of : J → JobMind) (from : Addr) (s : StatusLook) (came : ℕ) (js : List (Job J)) (ls : List (Loan J)) (o : Option ℕ) → Once came js ls →
    Once came (heard_in mind_of from s js o) ls
heard_by mind_of from s came js ls None once = once
heard_by mind_of from s came js ls (Some at) once =
    kept came (heard_of mind_of from s) js ls ls at (heard_key mind_of from s)
    (λ key. once.2 key ∙ sym (times_same key (heard_of mind_of from s) (heard_once mind_of from s key) js at)) once

-- lending
lent_by : {J : Type 0} (f : Job J → Job J) (came : ℕ) (js : List (Job J)) (ls : List (Loan J)) (at : ℕ) → ((j : Job J) → (f j).key ≡ j.key) →
    ((key : ℕ) (j : Job J) → one (is_out key (f j)) ≡ one (is_out key j) + gained key (loan_of j)) → Once came js ls →
    Once came (changed (slice_get js at) f js at) (with_loan (loan_from (slice_get js at)) ls)
lent_by f came js ls at keeps step once =
    kept came f js ls (with_loan (loan_from (slice_get js at)) ls) at keeps
    (λ key. let out = out_gained key (loan_from (slice_get js at)) ls in let more = times_gained key f (step key) js at in let same = once.2 key in omega (arith, out, more, same)) once

to_line : {J : Type 0} (mind_of : J → JobMind) (line : ℕ) (came : ℕ) (js : List (Job J)) (ls : List (Loan J)) (o : Option ℕ) → Once came js ls →
    Once came (lent_in mind_of js line o) (with_loan (loan_in js o) ls)
to_line mind_of line came js ls None once = once
to_line mind_of line came js ls (Some at) once =
    lent_by (lent_job mind_of (hands.Line line)) came js ls at (λ j. refl) (λ key j. lent_once mind_of (hands.Line line) key j j.place) once

-- coming back
taken_key : {J : Type 0} (mind_of : J → JobMind) (l : Loan J) (j : Job J) → (taken_back mind_of l j).key ≡ j.key
taken_key {J} mind_of l j = by (takes mind_of l j)
  where
    by : (b : Bool) → (if b then record j { place = places.Waits l.load } else j).key ≡ j.key
    by true = refl
    by false = refl

-- what is left of a loan says whether it is out still
still_out : {J : Type 0} (l : Loan J) (o : Option (Loan J)) (js js' : List (Job J)) (ls : List (Loan J)) → ((key : ℕ) → times_lent key js ≡ times_lent key js' + lost key l o) →
    ((key : ℕ) → times_out key ls ≡ times_lent key js) → (key : ℕ) → times_out key (out_behind o l.key ls) ≡ times_lent key js'
still_out l (Some left) js js' ls less same key = let a = less key in let b = same key in omega (arith, a, b)
still_out l None js js' ls less same key =
    let a = less key in
    let b = same key in
    let own = less l.key in
    let own_same = same l.key in
    let is = one_own l.key in
    let some : 1 ≤ times_out l.key ls = omega (arith, own, own_same, is) in
    let c = out_without l.key key ls some in
    omega (arith, a, b, c)

came_back : {J : Type 0} (mind_of : J → JobMind) (l : Loan J) (came : ℕ) (js : List (Job J)) (ls : List (Loan J)) (o : Option ℕ) → Once came js ls →
    Once came (back_in mind_of l js o) (out_behind (left_in mind_of l js o) l.key ls)
came_back mind_of l came js ls None once = once
came_back mind_of l came js ls (Some at) once =
    let f = taken_back mind_of l in
    let left = left_from mind_of l (slice_get js at) in
    kept came f js ls (out_behind left l.key ls) at (taken_key mind_of l)
    (still_out l left js (changed (slice_get js at) f js at) ls (λ key. times_lost mind_of l key js at) once.2) once

-- being over
has_left : {J : Type 0} (own came : ℕ) (js : List (Job J)) (ls : List (Loan J)) (o : Option ℕ) → position (is_out own) js ≡ o → Once came js ls →
    Once came (over_in js o) (out_over o own ls)
has_left own came js ls None is once = once
has_left {J} own came js ls (Some at) is once =
    let f : Found (is_out own) js at = found (is_out own) js at is in
    let P : Job J → Type 0 = λ j. j.key < came in
    (rise_removed js at once.0, each_removed P js at once.1, counted f)
  where
    counted : Found (is_out own) js at → (key : ℕ) → times_out key (without own ls) ≡ times_lent key (remove js at)
    counted f key =
        let less = times_removed key js at f.item f.is in
        let less_own = times_removed own js at f.item f.is in
        let a = out_as own key f.item f.passes in
        let b = out_as own own f.item f.passes in
        let is = one_own own in
        let same = once.2 key in
        let same_own = once.2 own in
        let some : 1 ≤ times_out own ls = omega (arith, less_own, b, is, same_own) in
        let c = out_without own key ls some in
        omega (arith, less, a, same, c)

once_after : {J : Type 0} (mind_of : J → JobMind) (w : World J) (x : Act J) → EachIsOnce w → EachIsOnce (world_after mind_of w x)
once_after mind_of w (Comes queue load) e = came_if w queue load (has_room w.spool queue) e
once_after mind_of w (Hears from s) e =
    let once = heard_by mind_of from s w.spool.came w.spool.jobs w.out (position (is_under mind_of from s.request) w.spool.jobs) (e.rise, e.below, e.out) in
    record { rise = once.0; below = once.1; out = once.2 }
once_after mind_of w (Turns at) e =
    let once = lent_by (clock_lent mind_of) w.spool.came w.spool.jobs w.out at (λ j. refl) (λ key j. lent_once mind_of (clock_hand mind_of j.place) key j j.place) (e.rise, e.below, e.out) in
    record { rise = once.0; below = once.1; out = once.2 }
once_after mind_of w (Lends line who) e =
    let once = to_line mind_of line w.spool.came w.spool.jobs w.out (position (is_called mind_of who) w.spool.jobs) (e.rise, e.below, e.out) in
    record { rise = once.0; below = once.1; out = once.2 }
once_after mind_of w (Backs l) e =
    let once = came_back mind_of l w.spool.came w.spool.jobs w.out (out_at l.key w.spool.jobs) (e.rise, e.below, e.out) in
    record { rise = once.0; below = once.1; out = once.2 }
once_after mind_of w (Overs key) e =
    let once = has_left key w.spool.came w.spool.jobs w.out (out_at key w.spool.jobs) refl (e.rise, e.below, e.out) in
    record { rise = once.0; below = once.1; out = once.2 }

once_run : {J : Type 0} (mind_of : J → JobMind) (w : World J) (xs : List (Act J)) → EachIsOnce w → EachIsOnce (world_of mind_of w xs)
once_run mind_of w [] e = e
once_run mind_of w (x ∷ xs) e = once_run mind_of (world_after mind_of w x) xs (once_after mind_of w x e)

pub no_job_in_two_places : {J : Type 0} (mind_of : J → JobMind) (servers : List Addr) (xs : List (Act J)) → EachIsOnce (world_of mind_of (fresh_world servers) xs)
no_job_in_two_places mind_of servers xs = once_run mind_of (fresh_world servers) xs (record { rise = tt; below = tt; out = λ key. refl })
