-- What happens to a spool: jobs come, statuses are heard, jobs are lent, come back and are over.
use Rattle.std.specs.Prelude.{ℕ, ◌==◌, List, [], ◌∷◌, slice_get, if◌then◌else◌, Option, Some, None}
use Rattle.lat_base.specs.declared.addr.Addr.{Addr}
use Rattle.lat_base.specs.declared.look.Correspondent.{Correspondent}
use Rattle.lat_jobs.specs.declared.look.StatusLook.{StatusLook}
use Rattle.lat_jobs.specs.declared.mind.JobMind.{JobMind}
use Rattle.lat_spool.specs.declared.loan.Loan.{Loan}
use Rattle.lat_spool.specs.Spools.{SpoolView, fresh_spool, has_room, jobs_back, jobs_heard, jobs_over, lent, lent_at, loan, loan_from, loan_left, out_at, spool_came}

-- a spool, and the loans that are out, in whose hands ever
pub record World (J : Type 0) : Type 0 where
  pub spool : SpoolView J
  pub out : List (Loan J)

abbrev pub fresh_world : {J : Type 0} → List Addr → World J
fresh_world servers = record { spool = fresh_spool servers; out = [] }

-- Comes: a client comes to a queue. Hears: this station tells a status. Turns: the job at a place is lent to the clock's worker.
-- Lends: a job is lent to a line for such a session. Backs: this is handed back. Overs: the job of this key, which was lent, is over
pub data Act (J : Type 0) : Type 0 where
  Comes : ℕ → J → Act J
  Hears : Addr → StatusLook → Act J
  Turns : ℕ → Act J
  Lends : ℕ → Correspondent → Act J
  Backs : Loan J → Act J
  Overs : ℕ → Act J

abbrev pub with_loan : {J : Type 0} → Option (Loan J) → List (Loan J) → List (Loan J)
with_loan (Some l) ls = l ∷ ls
with_loan None ls = ls

-- without the first one of this key
abbrev pub without : {J : Type 0} → ℕ → List (Loan J) → List (Loan J)
without key [] = []
without key (l ∷ ls) = if l.key == key then ls else l ∷ without key ls

-- what is handed back and not taken stays out
abbrev pub out_behind : {J : Type 0} → Option (Loan J) → ℕ → List (Loan J) → List (Loan J)
out_behind None key ls = without key ls
out_behind (Some l) key ls = ls

-- a worker says that a job is over, and the spool knows it as lent
abbrev pub out_over : {J : Type 0} → Option ℕ → ℕ → List (Loan J) → List (Loan J)
out_over (Some at) key ls = without key ls
out_over None key ls = ls

abbrev pub world_after : {J : Type 0} → (J → JobMind) → World J → Act J → World J
world_after mind_of w (Comes queue load) = record w { spool = if has_room w.spool queue then spool_came w.spool queue load else w.spool }
world_after mind_of w (Hears from s) = record w { spool = record w.spool { jobs = jobs_heard mind_of from s w.spool.jobs } }
world_after mind_of w (Turns at) = record {
  spool = record w.spool { jobs = lent_at mind_of w.spool.jobs at };
  out = with_loan (loan_from (slice_get w.spool.jobs at)) w.out;
}
world_after mind_of w (Lends line who) = record {
  spool = record w.spool { jobs = lent mind_of w.spool.jobs line who };
  out = with_loan (loan mind_of w.spool.jobs who) w.out;
}
world_after mind_of w (Backs l) = record {
  spool = record w.spool { jobs = jobs_back mind_of l w.spool.jobs };
  out = out_behind (loan_left mind_of l w.spool.jobs) l.key w.out;
}
world_after mind_of w (Overs key) = record {
  spool = record w.spool { jobs = jobs_over key w.spool.jobs };
  out = out_over (out_at key w.spool.jobs) key w.out;
}

abbrev pub world_of : {J : Type 0} → (J → JobMind) → World J → List (Act J) → World J
world_of mind_of w [] = w
world_of mind_of w (x ∷ xs) = world_of mind_of (world_after mind_of w x) xs
