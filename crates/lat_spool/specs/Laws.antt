-- What holds of every spool, and of every run of one.
use Rattle.std.specs.Prelude.{◌≡◌, ℕ, ◌+◌, ◌<◌, ◌==◌, Bool, true, false, List, [], ◌∷◌, slice_get, if◌then◌else◌, bytes_eq, Some}
use Rattle.lat_mind.specs.Good.{Each}
use Rattle.lat_base.specs.declared.addr.Addr.{Addr}
use Rattle.lat_base.specs.declared.look.Correspondent.{Correspondent}
use Rattle.lat_jobs.specs.declared.fact.Move.TheVariants as moves
use Rattle.lat_jobs.specs.declared.look.Look.{Look}
use Rattle.lat_jobs.specs.declared.look.StatusLook.{StatusLook}
use Rattle.lat_jobs.specs.declared.mind.JobMind.{JobMind}
use Rattle.lat_jobs.specs.Runs.{number_in}
use Rattle.lat_spool.specs.declared.job.Job.{Job}
use Rattle.lat_spool.specs.declared.loan.Loan.{Loan}
use Rattle.lat_spool.specs.Jobs.{heard_of, is_out, is_under}
use Rattle.lat_spool.specs.Spools.{loan, may_ask, spool_next}
use Rattle.lat_spool.specs.Worlds.{Act, World, fresh_world, world_of}

-- each job came before those behind it
abbrev pub KeysRise : {J : Type 0} → List (Job J) → Type 0
KeysRise [] = Unit {0}
KeysRise (j ∷ js) = Each (λ k. j.key < k.key) js × KeysRise js

abbrev pub one : Bool → ℕ
one b = if b then 1 else 0

-- how often a loan of this key is out
abbrev pub times_out : {J : Type 0} → ℕ → List (Loan J) → ℕ
times_out key [] = 0
times_out key (l ∷ ls) = one (l.key == key) + times_out key ls

-- how often a job of this key stands as lent
abbrev pub times_lent : {J : Type 0} → ℕ → List (Job J) → ℕ
times_lent key [] = 0
times_lent key (j ∷ js) = one (is_out key j) + times_lent key js

-- each job stands once in the spool's list, in the order in which they came; and a job is out exactly where it stands as lent
pub record EachIsOnce {J : Type 0} (w : World J) : Type 0 where
  pub rise : KeysRise w.spool.jobs
  pub below : Each (λ j. j.key < w.spool.came) w.spool.jobs
  pub out : (key : ℕ) → times_out key w.out ≡ times_lent key w.spool.jobs

-- whatever happens to a spool, no job is in two places
abbrev pub NoJobInTwoPlaces : {J : Type 0} → (J → JobMind) → Type 0
NoJobInTwoPlaces {J} mind_of = (servers : List Addr) (xs : List (Act J)) → EachIsOnce (world_of mind_of (fresh_world servers) xs)

-- a line gets a job for a session that came from the job's server under the number of its request
pub record IsForSession {J : Type 0} (mind_of : J → JobMind) (who : Correspondent) (l : Loan J) : Type 0 where
  pub server : bytes_eq l.server.0 who.peer.0 ≡ true
  pub number : who.request ≡ Some (number_in (mind_of l.load).phase)
  pub stands : 0 < number_in (mind_of l.load).phase

abbrev pub LentForItsNumber : {J : Type 0} → (J → JobMind) → Type 0
LentForItsNumber {J} mind_of = (jobs : List (Job J)) (who : Correspondent) (l : Loan J) → loan mind_of jobs who ≡ Some l → IsForSession mind_of who l

-- a job asks under a new number only where each job of its queue before it lets it
abbrev pub JobsAskInOrder : {J : Type 0} → (J → JobMind) → Type 0
JobsAskInOrder {J} mind_of = (jobs : List (Job J)) (at : ℕ) (see : Look) (j : Job J) →
    slice_get jobs at ≡ Some j → spool_next mind_of jobs at see ≡ moves.Ask → may_ask mind_of jobs j.queue at ≡ true

-- a status under another number, or of another station, changes nothing of a job; and one under its own nothing but its status
pub record HearsItsOwn {J : Type 0} (mind_of : J → JobMind) (from : Addr) (s : StatusLook) (j : Job J) : Type 0 where
  pub others : is_under mind_of from s.request j ≡ false → heard_of mind_of from s j ≡ j
  pub own : is_under mind_of from s.request j ≡ true → heard_of mind_of from s j ≡ record j { status = Some s }

abbrev pub JobsHearTheirOwn : {J : Type 0} → (J → JobMind) → Type 0
JobsHearTheirOwn {J} mind_of = (from : Addr) (s : StatusLook) (j : Job J) → HearsItsOwn mind_of from s j
