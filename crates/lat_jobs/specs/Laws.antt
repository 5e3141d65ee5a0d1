-- What holds of every run of a job: what is put and written, when it asks, and how it ends.
use Rattle.std.specs.Prelude.{◌≡◌, ℕ, ◌+◌, ◌<◌, ◌≤◌, ◌⊎◌, ◌&&◌, ◌||◌, Bool, true, false, not, List, [], ◌++◌, length, Some}
use Rattle.lat_base.specs.declared.state.SessionEnd.TheVariants as ends
use Rattle.lat_mind.specs.Looks.{is_free, is_live}
use Rattle.lat_jobs.specs.declared.fact.Move.TheVariants as moves
use Rattle.lat_jobs.specs.declared.look.Look.{Look}
use Rattle.lat_jobs.specs.declared.phase.Pause.{Pause}
use Rattle.lat_jobs.specs.declared.phase.Ask.{Ask}
use Rattle.lat_jobs.specs.declared.phase.Print.{Print}
use Rattle.lat_jobs.specs.declared.phase.Phase.{Phase}
use Rattle.lat_jobs.specs.declared.phase.Phase.TheVariants as phases
use Rattle.lat_jobs.specs.declared.mind.JobMind.{JobMind}
use Rattle.lat_jobs.specs.Looks.{tells}
use Rattle.lat_jobs.specs.Minds.{is_lost, is_silent, is_whole, mind_next}
use Rattle.lat_jobs.specs.Phases.{breaks, here}
use Rattle.lat_jobs.specs.Good.{NoneInto, OneSession, wait_of}
use Rattle.lat_jobs.specs.Reasons.{has_failed}
use Rattle.lat_jobs.specs.Runs.{RunOf, Tale, Turn, due_at, fresh_tale, number_in, offer_at, tale_of}

-- the number of the job's session among all of the core, 0 where it has none
abbrev pub session_in : Phase → ℕ
session_in (phases.Printing g) = g.session
session_in _ = 0

-- the session that is shown came under the number of the job's request, is the one that the job has joined, and is live
pub record IsAtWork (t : Tale) (see : Look) : Type 0 where
  pub number : see.request ≡ Some (number_in t.mind.phase)
  pub session : see.line.newest ≡ session_in t.mind.phase
  pub live : is_live see.line.state ≡ true

-- a put offers all that was read of the client and not yet put, at least a byte
pub record PutIsRight (t : Tale) (see : Look) : Type 0 where
  pub bytes : t.read ≡ t.put ++ offer_at t t.mind.phase
  pub some : 0 < length (offer_at t t.mind.phase)
  pub works : IsAtWork t see

-- a read comes where all that was read before is put, and the client has more
pub record ReadIsRight (t : Tale) (see : Look) : Type 0 where
  pub bytes : t.read ≡ t.put
  pub works : IsAtWork t see

-- a write has all that was taken from the session and not yet written, at least an item; the client has failed at none
pub record WriteIsRight (t : Tale) (g : Print) : Type 0 where
  pub items : g.deaf ≡ false → t.taken ≡ t.written ++ due_at t (phases.Printing g)
  pub some : 0 < length (due_at t (phases.Printing g))

-- a session is joined under the number that was asked for, and gets the job's bytes from the first one on
pub record JoinIsRight (t : Tale) (see : Look) : Type 0 where
  pub number : see.request ≡ Some (number_in t.mind.phase)
  pub put : t.put ≡ []
  pub read : t.read ≡ []

-- a request is made in the job's turn, where nothing of it was printed, and the wait is over
pub record AskIsRight (t : Tale) (see : Look) (turn : Bool) : Type 0 where
  pub turns : turn ≡ true
  pub put : t.put ≡ []
  pub waited : t.lost + wait_of t.tries ≤ see.moment

-- the look shows that the job's own session is over, by both stops
pub record IsStopped (g : Print) (see : Look) : Type 0 where
  pub own : here g see ≡ true
  pub free : is_free see.line.state ≡ true
  pub stops : see.line.end ≡ Some ends.Closed

-- A client is hung up where it has said that it sent all, and all is put; where the job's own session, which was closed behind
-- that, is shown to be over by both stops; and where what was taken for it is written, as far as it takes it. So a job is told
-- that it is printed only by a look at the end of its own session
pub record HangUpIsRight (t : Tale) (see : Look) : Type 0 where
  pub ended : t.ended ≡ true
  pub bytes : t.read ≡ t.put
  pub over : (g : Print) → t.mind.phase ≡ phases.Printing g → (g.shut ≡ true) × (has_failed g see ≡ false) × IsStopped g see
  pub items : (g : Print) → t.mind.phase ≡ phases.Printing g → g.deaf ≡ false → (t.taken ≡ t.written) ⊎ (see.stopping ≡ true)

pub record LawOfRuns (t : Tale) : Type 0 where
  pub asks : (see : Look) (turn : Bool) → mind_next t.mind see turn ≡ moves.Ask → AskIsRight t see turn
  pub joins : (see : Look) (turn : Bool) → mind_next t.mind see turn ≡ moves.Join → JoinIsRight t see
  pub puts : (see : Look) (turn : Bool) → mind_next t.mind see turn ≡ moves.Put → PutIsRight t see
  pub reads : (see : Look) (turn : Bool) → mind_next t.mind see turn ≡ moves.Read → ReadIsRight t see
  pub writes : (see : Look) (turn : Bool) (g : Print) → mind_next t.mind see turn ≡ moves.Write → t.mind.phase ≡ phases.Printing g → WriteIsRight t g
  pub closes : (see : Look) (turn : Bool) (g : Print) → mind_next t.mind see turn ≡ moves.Close → t.mind.phase ≡ phases.Printing g →
      is_live see.line.state ≡ true → has_failed g see ≡ false → t.read ≡ t.put
  pub hangs : (see : Look) (turn : Bool) → mind_next t.mind see turn ≡ moves.HangUp → HangUpIsRight t see
  pub one : OneSession t.log
  pub cancelled : NoneInto t.cancelled t.log
  pub waits : t.mind.wait ≡ wait_of t.tries

abbrev pub RunsAreRight : Type 0
RunsAreRight = (drawn : ℕ) (xs : List Turn) → RunOf (fresh_tale drawn) xs → LawOfRuns (tale_of (fresh_tale drawn) xs)

-- behind its end a job makes no further move
abbrev pub OverIsStill : Type 0
OverIsStill = (t : Tale) (xs : List Turn) → t.mind.phase ≡ phases.Over → RunOf t xs → xs ≡ []

-- no wait is above 300 seconds
abbrev pub WaitsAreBounded : Type 0
WaitsAreBounded = (n : ℕ) → wait_of n ≤ 300000

-- a job's client stays, no request of it stands, it is its turn, and the wait is over
pub record AskIsDue (m : JobMind) (p : Pause) (see : Look) (turn : Bool) : Type 0 where
  pub pauses : m.phase ≡ phases.Pausing p
  pub stays : (p.gone || see.stopping) ≡ false
  pub turns : turn ≡ true
  pub time : p.since + m.wait ≤ see.moment

-- then it asks at once
abbrev pub AsksInTime : Type 0
AsksInTime = (m : JobMind) (p : Pause) (see : Look) (turn : Bool) → AskIsDue m p see turn → mind_next m see turn ≡ moves.Ask

-- a job has asked 5 seconds ago, it is its turn, and nothing was heard of it, though not for a minute
pub record RepeatIsDue (m : JobMind) (a : Ask) (see : Look) (turn : Bool) : Type 0 where
  pub asks : m.phase ≡ phases.Asking a
  pub stays : (a.gone || see.stopping) ≡ false
  pub turns : turn ≡ true
  pub unheard : tells see.status a.number ≡ false
  pub alone : is_lost a see ≡ false
  pub time : a.asked + 5000 ≤ see.moment
  pub recent : is_silent a see ≡ false

-- then it asks again
abbrev pub RepeatsInTime : Type 0
RepeatsInTime = (m : JobMind) (a : Ask) (see : Look) (turn : Bool) → RepeatIsDue m a see turn → mind_next m see turn ≡ moves.Repeat

-- this mind has closed the session behind all that the client sent, and the session is over as it should be
pub record IsDone (m : JobMind) (g : Print) (see : Look) : Type 0 where
  pub prints : m.phase ≡ phases.Printing g
  pub shut : g.shut ≡ true
  pub whole : is_whole g ≡ true
  pub sound : breaks g see ≡ false
  pub over : IsStopped g see
  pub owed : g.owed ≡ 0

-- then its client is hung up
abbrev pub DoneAreHungUp : Type 0
DoneAreHungUp = (m : JobMind) (g : Print) (see : Look) (turn : Bool) → IsDone m g see → mind_next m see turn ≡ moves.HangUp
