-- The spool: the jobs of a node's queues, in the order in which they came.
use Rattle.std.specs.Prelude.{ℕ, ◌+◌, ◌-◌, ◌^◌, ◌==◌, ◌&&◌, Bool, not, nat_lt, List, [], ◌∷◌, ◌++◌, length, take, remove, count_by, slice_get, slice_set, position, Option, Some, None}
use Rattle.std.specs.List.{list_all, list_any}
use Rattle.lat_base.specs.declared.addr.Addr.{Addr}
use Rattle.lat_base.specs.declared.look.Correspondent.{Correspondent}
use Rattle.lat_jobs.specs.declared.fact.Move.{Move}
use Rattle.lat_jobs.specs.declared.fact.Move.TheVariants as moves
use Rattle.lat_jobs.specs.declared.look.Look.{Look}
use Rattle.lat_jobs.specs.declared.look.StatusLook.{StatusLook}
use Rattle.lat_jobs.specs.declared.mind.JobMind.{JobMind}
use Rattle.lat_jobs.specs.Minds.{mind_next}
use Rattle.lat_spool.specs.declared.hand.Hand.TheVariants as hands
use Rattle.lat_spool.specs.declared.place.Place.{Place}
use Rattle.lat_spool.specs.declared.place.Place.TheVariants as places
use Rattle.lat_spool.specs.declared.job.Job.{Job}
use Rattle.lat_spool.specs.declared.loan.Loan.{Loan}
use Rattle.lat_spool.specs.Jobs.{clock_hand, heard_of, is_called, is_known, is_out, is_under, left_over, lent_job, loan_of, passes, taken_back}

-- the server that each queue is for, the jobs that aren't over, and how many came in all
pub record SpoolView (J : Type 0) : Type 0 where
  pub servers : List Addr
  pub jobs : List (Job J)
  pub came : ℕ

abbrev pub fresh_spool : {J : Type 0} → List Addr → SpoolView J
fresh_spool servers = record { servers = servers; jobs = []; came = 0 }

-- how many jobs of a queue are there
abbrev pub jobs_of : {J : Type 0} → ℕ → List (Job J) → ℕ
jobs_of queue jobs = count_by (λ j. j.queue == queue) jobs

-- there is such a queue, fewer than 8 jobs of it are there, and not all numbers of jobs are used
abbrev pub has_room : {J : Type 0} → SpoolView J → ℕ → Bool
has_room v queue = nat_lt queue (length v.servers) && (nat_lt (jobs_of queue v.jobs) 8 && nat_lt v.came (2 ^ 64 - 1))

-- a job that has just come
abbrev pub fresh_job : {J : Type 0} → ℕ → ℕ → Addr → J → Job J
fresh_job key queue server load = record { key = key; queue = queue; server = server; status = None; place = places.Waits load }

abbrev pub joined : {J : Type 0} → Option Addr → SpoolView J → ℕ → J → SpoolView J
joined (Some server) v queue load = record v { jobs = v.jobs ++ fresh_job v.came queue server load ∷ []; came = v.came + 1 }
joined None v queue load = v

-- behind the coming of a client of this queue
abbrev pub spool_came : {J : Type 0} → SpoolView J → ℕ → J → SpoolView J
spool_came v queue load = joined (slice_get v.servers queue) v queue load

-- each job before this place lets those of this queue ask
abbrev pub may_ask : {J : Type 0} → (J → JobMind) → List (Job J) → ℕ → ℕ → Bool
may_ask mind_of jobs queue at = list_all (passes mind_of queue) (take at jobs)

abbrev pub place_next : {J : Type 0} → (J → JobMind) → Place J → Look → Bool → Move
place_next mind_of (places.Waits load) see turn = mind_next (mind_of load) see turn
place_next mind_of (places.Lent hand number) see turn = moves.Stop

abbrev pub next_of : {J : Type 0} → (J → JobMind) → Option (Job J) → List (Job J) → ℕ → Look → Move
next_of mind_of (Some j) jobs at see = place_next mind_of j.place see (may_ask mind_of jobs j.queue at)
next_of mind_of None jobs at see = moves.Stop

-- the move of the job at this place
abbrev pub spool_next : {J : Type 0} → (J → JobMind) → List (Job J) → ℕ → Look → Move
spool_next mind_of jobs at see = next_of mind_of (slice_get jobs at) jobs at see

-- the job at this place goes so, if there is one
abbrev pub changed : {J : Type 0} → Option (Job J) → (Job J → Job J) → List (Job J) → ℕ → List (Job J)
changed (Some j) f jobs at = slice_set jobs at (f j)
changed None f jobs at = jobs

-- the job whose request stands under the number of this status, at the station that sent it, has heard of it
abbrev pub heard_in : {J : Type 0} → (J → JobMind) → Addr → StatusLook → List (Job J) → Option ℕ → List (Job J)
heard_in mind_of from s jobs (Some at) = changed (slice_get jobs at) (heard_of mind_of from s) jobs at
heard_in mind_of from s jobs None = jobs

abbrev pub jobs_heard : {J : Type 0} → (J → JobMind) → Addr → StatusLook → List (Job J) → List (Job J)
jobs_heard mind_of from s jobs = heard_in mind_of from s jobs (position (is_under mind_of from s.request) jobs)

abbrev pub loan_from : {J : Type 0} → Option (Job J) → Option (Loan J)
loan_from (Some j) = loan_of j
loan_from None = None

-- the job at this place is lent to the clock's worker
abbrev pub clock_lent : {J : Type 0} → (J → JobMind) → Job J → Job J
clock_lent mind_of j = lent_job mind_of (clock_hand mind_of j.place) j

abbrev pub lent_at : {J : Type 0} → (J → JobMind) → List (Job J) → ℕ → List (Job J)
lent_at mind_of jobs at = changed (slice_get jobs at) (clock_lent mind_of) jobs at

-- the first job that waits for such a session is lent to a line
abbrev pub lent_in : {J : Type 0} → (J → JobMind) → List (Job J) → ℕ → Option ℕ → List (Job J)
lent_in mind_of jobs line (Some at) = changed (slice_get jobs at) (lent_job mind_of (hands.Line line)) jobs at
lent_in mind_of jobs line None = jobs

abbrev pub loan_in : {J : Type 0} → List (Job J) → Option ℕ → Option (Loan J)
loan_in jobs (Some at) = loan_from (slice_get jobs at)
loan_in jobs None = None

abbrev pub lent : {J : Type 0} → (J → JobMind) → List (Job J) → ℕ → Correspondent → List (Job J)
lent mind_of jobs line who = lent_in mind_of jobs line (position (is_called mind_of who) jobs)

abbrev pub loan : {J : Type 0} → (J → JobMind) → List (Job J) → Correspondent → Option (Loan J)
loan mind_of jobs who = loan_in jobs (position (is_called mind_of who) jobs)

abbrev pub knows : {J : Type 0} → (J → JobMind) → List (Job J) → ℕ → Correspondent → Bool
knows mind_of jobs line who = list_any (is_known mind_of line who) jobs

-- the place of the job of this key that is lent
abbrev pub out_at : {J : Type 0} → ℕ → List (Job J) → Option ℕ
out_at key jobs = position (is_out key) jobs

abbrev pub back_in : {J : Type 0} → (J → JobMind) → Loan J → List (Job J) → Option ℕ → List (Job J)
back_in mind_of l jobs (Some at) = changed (slice_get jobs at) (taken_back mind_of l) jobs at
back_in mind_of l jobs None = jobs

abbrev pub left_from : {J : Type 0} → (J → JobMind) → Loan J → Option (Job J) → Option (Loan J)
left_from mind_of l (Some j) = left_over mind_of l j
left_from mind_of l None = Some l

abbrev pub left_in : {J : Type 0} → (J → JobMind) → Loan J → List (Job J) → Option ℕ → Option (Loan J)
left_in mind_of l jobs (Some at) = left_from mind_of l (slice_get jobs at)
left_in mind_of l jobs None = Some l

-- the jobs behind a loan's coming back, and what is left of it
abbrev pub jobs_back : {J : Type 0} → (J → JobMind) → Loan J → List (Job J) → List (Job J)
jobs_back mind_of l jobs = back_in mind_of l jobs (out_at l.key jobs)

abbrev pub loan_left : {J : Type 0} → (J → JobMind) → Loan J → List (Job J) → Option (Loan J)
loan_left mind_of l jobs = left_in mind_of l jobs (out_at l.key jobs)

abbrev pub over_in : {J : Type 0} → List (Job J) → Option ℕ → List (Job J)
over_in jobs (Some at) = remove jobs at
over_in jobs None = jobs

-- the jobs without the one of this key, which was lent
abbrev pub jobs_over : {J : Type 0} → ℕ → List (Job J) → List (Job J)
jobs_over key jobs = over_in jobs (out_at key jobs)
