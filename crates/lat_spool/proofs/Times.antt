-- How often a job stands as lent, and how often it is out.
use Rattle.std.proofs.Common.{◌≡◌, ℕ, ◌+◌, ◌≤◌, List, [], ◌∷◌, ◌++◌, refl, ap, ◌∙◌, arith, eqb-true, eq-eqb}
use Rattle.std.specs.Prelude.{Bool, true, false, ◌&&◌, ◌==◌, not, if◌then◌else◌, zero, suc, Option, Some, None, remove, slice_get}
use Rattle.std.proofs.lemmas.Bool.{and_parts, false≢true}
use Rattle.std.proofs.lemmas.Option.{none-some, same_Some}
use Rattle.lat_jobs.specs.declared.mind.JobMind.{JobMind}
use Rattle.lat_spool.specs.declared.hand.Hand.{Hand}
use Rattle.lat_spool.specs.declared.place.Place.{Place}
use Rattle.lat_spool.specs.declared.place.Place.TheVariants as places
use Rattle.lat_spool.specs.declared.job.Job.{Job}
use Rattle.lat_spool.specs.declared.loan.Loan.{Loan}
use Rattle.lat_spool.specs.Jobs.{fits_place, is_out, left_over, lent_place, loan_at, loan_of, taken_back, takes, waits}
use Rattle.lat_spool.specs.Laws.{one, times_lent, times_out}
use Rattle.lat_spool.specs.Spools.{changed, left_from, loan_from}
use Rattle.lat_spool.specs.Worlds.{with_loan, without}
use Rattle.lat_spool.proofs.Orders.{changed_next}

-- who comes behind the others
pub times_last : {J : Type 0} (key : ℕ) (js : List (Job J)) (j : Job J) → times_lent key (js ++ j ∷ []) ≡ times_lent key js + one (is_out key j)
times_last key [] j = omega arith
times_last key (k ∷ ks) j = let ih = times_last key ks j in omega (arith, ih)

-- what one job more or less is out for
abbrev pub gained : {J : Type 0} → ℕ → Option (Loan J) → ℕ
gained key o = times_out key (with_loan o [])

pub out_gained : {J : Type 0} (key : ℕ) (o : Option (Loan J)) (ls : List (Loan J)) → times_out key (with_loan o ls) ≡ times_out key ls + gained key o
out_gained key (Some l) ls = omega arith
out_gained key None ls = omega arith

-- a job that is lent stands so once more
by_lent : (b : Bool) → one (b && true) ≡ one (b && false) + (one b + 0)
by_lent true = refl
by_lent false = refl

pub lent_once : {J : Type 0} (mind_of : J → JobMind) (hand : Hand) (key : ℕ) (j : Job J) (p : Place J) →
    one (j.key == key && not (waits (lent_place mind_of hand p))) ≡ one (j.key == key && not (waits p)) + gained key (loan_at j p)
lent_once mind_of hand key j (places.Waits load) = by_lent (j.key == key)
lent_once mind_of hand key j (places.Lent other number) = omega arith

abbrev pub gained_from : {J : Type 0} → ℕ → Option (Job J) → ℕ
gained_from key o = gained key (loan_from o)

pub times_gained : {J : Type 0} (key : ℕ) (f : Job J → Job J) → ((j : Job J) → one (is_out key (f j)) ≡ one (is_out key j) + gained key (loan_of j)) →
    (js : List (Job J)) (at : ℕ) → times_lent key (changed (slice_get js at) f js at) ≡ times_lent key js + gained_from key (slice_get js at)
times_gained key f step [] at = refl
times_gained key f step (j ∷ js) zero = let e = step j in omega (arith, e)
times_gained key f step (j ∷ js) (suc at) =
    let ih = times_gained key f step js at in
    let here = ap (times_lent key) (changed_next f j js at (slice_get js at)) in
    omega (arith, here, ih)

-- what keeps how often a job is lent
pub times_same : {J : Type 0} (key : ℕ) (f : Job J → Job J) → ((j : Job J) → one (is_out key (f j)) ≡ one (is_out key j)) →
    (js : List (Job J)) (at : ℕ) → times_lent key (changed (slice_get js at) f js at) ≡ times_lent key js
times_same key f step [] at = refl
times_same key f step (j ∷ js) zero = ap (λ n. n + times_lent key js) (step j)
times_same key f step (j ∷ js) (suc at) =
    ap (times_lent key) (changed_next f j js at (slice_get js at)) ∙ ap (λ n. one (is_out key j) + n) (times_same key f step js at)

-- a job that comes back stands so once less
abbrev pub lost : {J : Type 0} → ℕ → Loan J → Option (Loan J) → ℕ
lost key l None = one (l.key == key)
lost key l (Some left) = 0

not_waits : {J : Type 0} (mind_of : J → JobMind) (load : J) (p : Place J) → fits_place mind_of load p ≡ true → not (waits p) ≡ true
not_waits mind_of load (places.Waits other) e = absurd (false≢true e)
not_waits mind_of load (places.Lent hand number) e = refl

with_true : (b c : Bool) → c ≡ true → one (b && c) ≡ one b
with_true true c e = ap one e
with_true false c e = refl

pub with_false : (b : Bool) → one (b && false) ≡ 0
with_false true = refl
with_false false = refl

same_test : (a b key : ℕ) → a ≡ b → one (a == key) ≡ one (b == key)
same_test a b key e = ap (λ n. one (n == key)) e

pub back_once : {J : Type 0} (mind_of : J → JobMind) (l : Loan J) (key : ℕ) (j : Job J) → one (is_out key j) ≡ one (is_out key (taken_back mind_of l j)) + lost key l (left_over mind_of l j)
back_once {J} mind_of l key j = by (takes mind_of l j) refl
  where
    by : (b : Bool) → takes mind_of l j ≡ b →
        one (is_out key j) ≡ one (is_out key (if b then record j { place = places.Waits l.load } else j)) + lost key l (if b then None else Some l)
    by true e =
        let parts = and_parts (j.key == l.key) (fits_place mind_of l.load j.place) e in
        let out = with_true (j.key == key) (not (waits j.place)) (not_waits mind_of l.load j.place parts.1) in
        let same = same_test j.key l.key key (eqb-true j.key l.key parts.0) in
        let gone = with_false (j.key == key) in
        omega (arith, out, same, gone)
    by false e = omega arith

pub times_lost : {J : Type 0} (mind_of : J → JobMind) (l : Loan J) (key : ℕ) (js : List (Job J)) (at : ℕ) →
    times_lent key js ≡ times_lent key (changed (slice_get js at) (taken_back mind_of l) js at) + lost key l (left_from mind_of l (slice_get js at))
times_lost mind_of l key [] at = refl
times_lost mind_of l key (j ∷ js) zero = let e = back_once mind_of l key j in omega (arith, e)
times_lost mind_of l key (j ∷ js) (suc at) =
    let ih = times_lost mind_of l key js at in
    let here = ap (times_lent key) (changed_next (taken_back mind_of l) j js at (slice_get js at)) in
    omega (arith, here, ih)

-- a loan that is out is so once less
pub out_without : {J : Type 0} (own key : ℕ) (ls : List (Loan J)) → 1 ≤ times_out own ls → times_out key ls ≡ times_out key (without own ls) + one (own == key)
out_without own key [] le = absurd (omega (arith, le))
out_without {J} own key (l ∷ ls) le = by (l.key == own) refl (out_without own key ls)
  where
    by : (b : Bool) → (l.key == own) ≡ b → (1 ≤ times_out own ls → times_out key ls ≡ times_out key (without own ls) + one (own == key)) →
        one (l.key == key) + times_out key ls ≡ times_out key (if b then ls else l ∷ without own ls) + one (own == key)
    by true e ih = let same = same_test l.key own key (eqb-true l.key own e) in omega (arith, same)
    by false e ih =
        let none = ap one e in
        let rest : 1 ≤ times_out own ls = omega (arith, le, none) in
        let less = ih rest in
        omega (arith, less)

-- a job that leaves
pub times_removed : {J : Type 0} (key : ℕ) (js : List (Job J)) (at : ℕ) (j : Job J) → slice_get js at ≡ Some j → times_lent key js ≡ times_lent key (remove js at) + one (is_out key j)
times_removed key [] at j e = absurd (none-some j e)
times_removed key (k ∷ ks) zero j e =
    let same = ap (λ x. one (is_out key x)) (same_Some k j e) in
    omega (arith, same)
times_removed key (k ∷ ks) (suc at) j e = let ih = times_removed key ks at j e in omega (arith, ih)

-- a lent job of one key is out as one of that key
pub out_as : {J : Type 0} (own key : ℕ) (j : Job J) → is_out own j ≡ true → one (is_out key j) ≡ one (own == key)
out_as own key j e =
    let parts = and_parts (j.key == own) (not (waits j.place)) e in
    with_true (j.key == key) (not (waits j.place)) parts.1 ∙ same_test j.key own key (eqb-true j.key own parts.0)

pub one_own : (own : ℕ) → one (own == own) ≡ 1
one_own own = ap one (eq-eqb own own refl)
