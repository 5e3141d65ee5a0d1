-- What holds behind every run.
use Rattle.std.specs.Prelude.{◌≡◌, ◌≢◌, ◌<◌, ◌≤◌, ℕ, ◌*◌, ◌^◌, min, zero, suc, true, false, List, [], ◌∷◌, ◌++◌, length}
use Rattle.lat_mind.specs.Good.{Each}
use Rattle.lat_jobs.specs.declared.phase.Pause.{Pause}
use Rattle.lat_jobs.specs.declared.phase.Ask.{Ask}
use Rattle.lat_jobs.specs.declared.phase.Print.{Print}
use Rattle.lat_jobs.specs.declared.phase.Phase.{Phase}
use Rattle.lat_jobs.specs.declared.phase.Phase.TheVariants as phases
use Rattle.lat_jobs.specs.Runs.{Entry, Tale, due_at, offer_at}

-- how long a job waits behind so many requests that came to nothing, in milliseconds
abbrev pub wait_of : ℕ → ℕ
wait_of zero = 0
wait_of (suc n) = min 300000 (5000 * 2 ^ n)

-- this session, and the number that it answers
abbrev pub IsOf : ℕ → ℕ → Entry → Type 0
IsOf session number e = (e.session ≡ session) × (e.number ≡ number)

-- all bytes went into one session, that of one number
abbrev pub OneSession : List Entry → Type 0
OneSession [] = Unit {0}
OneSession (e ∷ es) = Each (λ f. IsOf e.session e.number f) es × OneSession es

-- no byte went into the session of one of these numbers
abbrev pub NoneInto : List ℕ → List Entry → Type 0
NoneInto numbers es = Each (λ e. Each (λ n. n ≢ e.number) numbers) es

-- nothing was read of the client, or put
pub record Untouched (t : Tale) : Type 0 where
  pub read : t.read ≡ []
  pub put : t.put ≡ []
  pub log : t.log ≡ []

-- no request of the job stands, and nothing of it was printed
pub record GoodPause (t : Tale) (p : Pause) : Type 0 where
  pub untouched : Untouched t
  pub since : p.since ≡ t.lost

-- the job has asked, and nothing of it was printed
pub record GoodAsk (t : Tale) (a : Ask) : Type 0 where
  pub untouched : Untouched t
  pub number : a.number ≤ t.drawn
  pub below : Each (λ c. c < a.number) t.cancelled

-- What was read of the client is what was put, and behind it what a put would offer. What was taken for it is what was written,
-- and behind it what is due, as long as it takes what is written. All puts were into this session
pub record GoodPrint (t : Tale) (g : Print) : Type 0 where
  pub bytes : t.read ≡ t.put ++ offer_at t (phases.Printing g)
  pub hand : g.left ≤ length t.hand
  pub items : g.deaf ≡ false → t.taken ≡ t.written ++ due_at t (phases.Printing g)
  pub desk : g.owed ≤ length t.desk
  pub early : g.touched ≡ false → Untouched t
  pub left : g.touched ≡ false → g.left ≡ 0
  pub own : Each (IsOf g.session g.number) t.log
  pub below : Each (λ c. c < g.number) t.cancelled
  pub ended : g.ended ≡ true → t.ended ≡ true

abbrev pub GoodPhase : Tale → Phase → Type 0
GoodPhase t (phases.Pausing p) = GoodPause t p
GoodPhase t (phases.Asking a) = GoodAsk t a
GoodPhase t (phases.Printing g) = GoodPrint t g
GoodPhase t phases.Over = Unit {0}

pub record Good (t : Tale) : Type 0 where
  pub phase : GoodPhase t t.mind.phase
  pub one : OneSession t.log
  pub apart : NoneInto t.cancelled t.log
  pub drawn : Each (λ c. c ≤ t.drawn) t.cancelled
  pub wait : t.mind.wait ≡ wait_of t.tries
