-- For which session a job is lent, when it asks, and what it hears.
use Rattle.std.proofs.Common.{◌≡◌, ℕ, ◌<◌, List, refl, sym, ap, subst, ◌∙◌, eqb-true}
use Rattle.std.specs.Prelude.{Bool, true, false, ◌==◌, nat_lt, bytes_eq, Option, Some, None, slice_get, position}
use Rattle.std.proofs.lemmas.Bool.{and_parts, cond-false, cond-true, false≢true, ltb-true}
use Rattle.std.proofs.lemmas.Option.{none-some, same_Some}
use Rattle.lat_base.specs.declared.addr.Addr.{Addr}
use Rattle.lat_base.specs.declared.look.Correspondent.{Correspondent}
use Rattle.lat_jobs.specs.declared.fact.Move.TheVariants as moves
use Rattle.lat_jobs.specs.declared.look.Look.{Look}
use Rattle.lat_jobs.specs.declared.look.StatusLook.{StatusLook}
use Rattle.lat_jobs.specs.declared.mind.JobMind.{JobMind}
use Rattle.lat_jobs.specs.declared.phase.Phase.{Phase}
use Rattle.lat_jobs.specs.declared.phase.Phase.TheVariants as phases
use Rattle.lat_jobs.specs.Reasons.{Why}
use Rattle.lat_jobs.specs.Runs.{number_in}
use Rattle.lat_jobs.proofs.Reasons.{reason}
use Rattle.lat_jobs.proofs.RunLaws.{other}
use Rattle.lat_spool.specs.declared.place.Place.{Place}
use Rattle.lat_spool.specs.declared.place.Place.TheVariants as places
use Rattle.lat_spool.specs.declared.job.Job.{Job}
use Rattle.lat_spool.specs.declared.loan.Loan.{Loan}
use Rattle.lat_spool.specs.Jobs.{answers, is_called, is_number, loan_at, number_of, waits}
use Rattle.lat_spool.specs.Laws.{HearsItsOwn, IsForSession}
use Rattle.lat_spool.specs.Spools.{loan, loan_from, loan_in, may_ask, next_of, place_next, spool_next}
use Rattle.lat_spool.proofs.Found.{Found, found}

-- what is handed over of a job that such a session answers
for_session : {J : Type 0} (mind_of : J → JobMind) (who : Correspondent) (l : Loan J) (j : Job J) (p : Place J) (r : Option ℕ) → j.place ≡ p → who.request ≡ r →
    answers mind_of who r j ≡ true → loan_at j p ≡ Some l → IsForSession mind_of who l
for_session mind_of who l j (places.Lent hand number) r at is a e = absurd (none-some l e)
for_session mind_of who l j (places.Waits load) None at is a e = absurd (false≢true a)
for_session {J} mind_of who l j (places.Waits load) (Some n) at is a e =
    let parts = and_parts (bytes_eq j.server.0 who.peer.0) (is_number (number_of mind_of j.place) n) a in
    let own : is_number (number_in (mind_of load).phase) n ≡ true = ap (λ q. is_number (number_of mind_of q) n) (sym at) ∙ parts.1 in
    let both = and_parts (nat_lt 0 n) (number_in (mind_of load).phase == n) own in
    let same = eqb-true (number_in (mind_of load).phase) n both.1 in
    let P : Loan J → Type 0 = λ m. IsForSession mind_of who m in
    let Q : ℕ → Type 0 = λ m. 0 < m in
    let given : Loan J = record { key = j.key; queue = j.queue; server = j.server; status = j.status; load = load } in
    subst P (same_Some given l e) (record { server = parts.0; number = is ∙ ap (λ m. Some m) (sym same); stands = subst Q (sym same) (ltb-true 0 n both.0) })

pub lent_for_its_number : {J : Type 0} (mind_of : J → JobMind) (jobs : List (Job J)) (who : Correspondent) (l : Loan J) → loan mind_of jobs who ≡ Some l → IsForSession mind_of who l
lent_for_its_number {J} mind_of jobs who l e = by (position (is_called mind_of who) jobs) refl e
  where
    by : (o : Option ℕ) → position (is_called mind_of who) jobs ≡ o → loan_in jobs o ≡ Some l → IsForSession mind_of who l
    by None is e = absurd (none-some l e)
    by (Some at) is e =
        let f : Found (is_called mind_of who) jobs at = found (is_called mind_of who) jobs at is in
        let j = f.item in
        let parts = and_parts (waits j.place) (answers mind_of who who.request j) f.passes in
        for_session mind_of who l j j.place who.request refl refl parts.1 (ap loan_from (sym f.is) ∙ e)

-- who asks has its turn
turned : (wait : ℕ) (p : Phase) (see : Look) (turn : Bool) → Why wait p see turn moves.Ask → turn ≡ true
turned wait (phases.Pausing p) see turn why = why.1
turned wait (phases.Asking a) see turn why = absurd why
turned wait (phases.Printing g) see turn why = absurd why
turned wait phases.Over see turn why = absurd why

turned_at : {J : Type 0} (mind_of : J → JobMind) (p : Place J) (see : Look) (turn : Bool) → place_next mind_of p see turn ≡ moves.Ask → turn ≡ true
turned_at mind_of (places.Waits load) see turn e = let m = mind_of load in turned m.wait m.phase see turn (reason m.wait m.phase see turn moves.Ask e)
turned_at mind_of (places.Lent hand number) see turn e = absurd (other moves.Ask refl e)

pub jobs_ask_in_order : {J : Type 0} (mind_of : J → JobMind) (jobs : List (Job J)) (at : ℕ) (see : Look) (j : Job J) → slice_get jobs at ≡ Some j →
    spool_next mind_of jobs at see ≡ moves.Ask → may_ask mind_of jobs j.queue at ≡ true
jobs_ask_in_order mind_of jobs at see j is e =
    turned_at mind_of j.place see (may_ask mind_of jobs j.queue at) (ap (λ o. next_of mind_of o jobs at see) (sym is) ∙ e)

pub jobs_hear_their_own : {J : Type 0} (mind_of : J → JobMind) (from : Addr) (s : StatusLook) (j : Job J) → HearsItsOwn mind_of from s j
jobs_hear_their_own mind_of from s j = record { others = λ e. cond-false _ _ _ e; own = λ e. cond-true _ _ _ e }
