-- What holds of every run: what is put and written, for whom, and when a mind tries again.
use Rattle.std.specs.Prelude.{◌≡◌, ◌≢◌, ℕ, ◌+◌, ◌<◌, ◌≤◌, ◌⊎◌, true, false, List, ◌∷◌, ◌++◌, length, Some, is_some}
use Rattle.lat_base.specs.declared.state.SessionEnd.TheVariants as ends
use Rattle.lat_mind.specs.declared.fact.Move.TheVariants as moves
use Rattle.lat_mind.specs.declared.look.Look.{Look}
use Rattle.lat_mind.specs.declared.phase.Waiter.{Waiter}
use Rattle.lat_mind.specs.declared.phase.Guest.{Guest}
use Rattle.lat_mind.specs.declared.phase.Phase.{Phase}
use Rattle.lat_mind.specs.declared.phase.Phase.TheVariants as phases
use Rattle.lat_mind.specs.declared.kind.Kind.{Kind}
use Rattle.lat_mind.specs.declared.mind.LineMind.{LineMind}
use Rattle.lat_mind.specs.Kinds.{is_calling, is_offering}
use Rattle.lat_mind.specs.Looks.{at_port, holds_on, is_free, is_live, is_unanswered, was_closed}
use Rattle.lat_mind.specs.Phases.{has_caller}
use Rattle.lat_mind.specs.Minds.{fresh_for, may_try, mind_next}
use Rattle.lat_mind.specs.Runs.{RunOf, Tale, Turn, due_at, fresh_tale, offer_at, tale_of}
use Rattle.lat_mind.specs.Good.{Each, OneCaller}

-- the session of the present caller, 0 where it has none
abbrev pub session_in : Phase → ℕ
session_in (phases.Joined g) = g.session
session_in _ = 0

-- the line's newest session is the present caller's, and live
pub record IsAtWork (t : Tale) (see : Look) : Type 0 where
  pub session : see.line.newest ≡ session_in t.mind.phase
  pub live : is_live see.line.state ≡ true

-- a put offers all that was read of the present caller and not yet put, at least a byte
pub record PutIsRight (t : Tale) (see : Look) : Type 0 where
  pub bytes : t.read ≡ t.put ++ offer_at t t.mind.phase
  pub some : 0 < length (offer_at t t.mind.phase)
  pub works : IsAtWork t see

-- a read is of the present caller, and all that was read before is put
pub record ReadIsRight (t : Tale) (see : Look) : Type 0 where
  pub bytes : t.read ≡ t.put
  pub works : IsAtWork t see

-- a write has all that was taken for the present caller and not yet written, at least an item
pub record WriteIsRight (t : Tale) : Type 0 where
  pub items : t.taken ≡ t.written ++ due_at t t.mind.phase
  pub some : 0 < length (due_at t t.mind.phase)

-- a take is from the present caller's session, and all that was taken before is written
pub record TakeIsRight (t : Tale) (see : Look) : Type 0 where
  pub items : t.taken ≡ t.written
  pub session : see.line.newest ≡ session_in t.mind.phase

-- a caller with a session is hung up where all that was taken is written, or its connection failed
pub record HangUpIsRight (t : Tale) : Type 0 where
  pub items : (g : Guest) → t.mind.phase ≡ phases.Joined g → (t.taken ≡ t.written) ⊎ (g.failed ≡ true)
  pub unready : t.ready ≡ false

pub record LawOfRuns (t : Tale) : Type 0 where
  pub puts : (see : Look) → mind_next t.mind see ≡ moves.Put → PutIsRight t see
  pub reads : (see : Look) → mind_next t.mind see ≡ moves.Read → ReadIsRight t see
  pub writes : (see : Look) → mind_next t.mind see ≡ moves.Write → WriteIsRight t
  pub takes : (see : Look) → mind_next t.mind see ≡ moves.Take → TakeIsRight t see
  pub closes : (see : Look) → mind_next t.mind see ≡ moves.Close → (g : Guest) → t.mind.phase ≡ phases.Joined g →
      is_live see.line.state ≡ true → t.read ≡ t.put
  pub hangs : (see : Look) → mind_next t.mind see ≡ moves.HangUp → HangUpIsRight t
  pub ready : t.ready ≡ true → (has_caller t.mind.phase ≡ true) × (is_offering t.mind.kind ≡ true)
  pub callers : OneCaller t.log

abbrev pub RunsAreRight : Type 0
RunsAreRight = (kind : Kind) (xs : List Turn) → RunOf (fresh_tale kind) xs → LawOfRuns (tale_of (fresh_tale kind) xs)

-- a mind without a caller whose newest session needs nothing more makes none but these moves
abbrev pub AloneIsStill : Type 0
AloneIsStill = (m : LineMind) (see : Look) → m.phase ≡ phases.Alone → holds_on see.line ≡ false →
    (mind_next m see ≡ moves.Accept) ⊎ ((mind_next m see ≡ moves.Attach) ⊎ ((mind_next m see ≡ moves.Rest) ⊎ (mind_next m see ≡ moves.Finish)))

-- where no session is there, a mind without a caller takes the next one that comes to its port
abbrev pub CallersAreTaken : Type 0
CallersAreTaken = (m : LineMind) (see : Look) → m.phase ≡ phases.Alone → is_offering m.kind ≡ false → see.stopping ≡ false →
    is_free see.line.state ≡ true → mind_next m see ≡ moves.Accept

-- a caller stays and waits at a calling line whose session is over, and a second has passed since the last try for it
pub record TryIsDue (t : Tale) (w : Waiter) (see : Look) : Type 0 where
  pub waits : t.mind.phase ≡ phases.Waiting w
  pub calls : is_calling t.mind.kind ≡ true
  pub stays : w.gone ≡ false
  pub going : see.stopping ≡ false
  pub free : is_free see.line.state ≡ true
  pub time : may_try t.tried 1000 see.moment ≡ true

-- then it is tried at once
abbrev pub TriesAgain : Type 0
TriesAgain = (kind : Kind) (xs : List Turn) (w : Waiter) (see : Look) → RunOf (fresh_tale kind) xs → TryIsDue (tale_of (fresh_tale kind) xs) w see →
    mind_next (tale_of (fresh_tale kind) xs).mind see ≡ moves.Connect

-- somebody waits for the service of a line that has neither device nor session, and five seconds have passed since its device
-- couldn't be dialled
pub record AttachIsDue (t : Tale) (see : Look) : Type 0 where
  pub alone : t.mind.phase ≡ phases.Alone
  pub offers : is_offering t.mind.kind ≡ true
  pub wanted : see.wanted ≡ true
  pub going : see.stopping ≡ false
  pub free : is_free see.line.state ≡ true
  pub time : may_try t.away 5000 see.moment ≡ true

-- then it is dialled at once
abbrev pub AttachesAgain : Type 0
AttachesAgain = (kind : Kind) (xs : List Turn) (see : Look) → RunOf (fresh_tale kind) xs → AttachIsDue (tale_of (fresh_tale kind) xs) see →
    mind_next (tale_of (fresh_tale kind) xs).mind see ≡ moves.Attach

-- a session waits for a caller at the line's port, and no look shows another one since this turn, which was the first that showed
-- it, 30 seconds ago
pub record WaitIsOver (xs : List Turn) (x : Turn) (ys : List Turn) (t : Tale) (see : Look) : Type 0 where
  pub before : Each (λ y. y.look.line.newest ≢ see.line.newest) xs
  pub first : x.look.line.newest ≡ see.line.newest
  pub since : Each (λ y. y.look.line.newest ≡ see.line.newest) ys
  pub long : x.look.moment + 30000 ≤ see.moment
  pub alone : t.mind.phase ≡ phases.Alone
  pub fresh : fresh_for t.mind see ≡ true
  pub port : at_port see.owner ≡ true

-- then it is closed
abbrev pub WaitsEnd : Type 0
WaitsEnd = (kind : Kind) (xs : List Turn) (x : Turn) (ys : List Turn) (see : Look) → WaitIsOver xs x ys (tale_of (fresh_tale kind) (xs ++ x ∷ ys)) see →
    mind_next (tale_of (fresh_tale kind) (xs ++ x ∷ ys)).mind see ≡ moves.Close

-- a caller stays at a calling line whose session was never live and isn't answered, and each look shows it since this turn, which was
-- the first that showed it, five seconds ago
pub record AnswerIsLate (xs : List Turn) (x : Turn) (ys : List Turn) (t : Tale) (g : Guest) (see : Look) : Type 0 where
  pub before : Each (λ y. y.look.line.newest ≢ see.line.newest) xs
  pub first : x.look.line.newest ≡ see.line.newest
  pub since : Each (λ y. y.look.line.newest ≡ see.line.newest) ys
  pub long : x.look.moment + 5000 ≤ see.moment
  pub joined : t.mind.phase ≡ phases.Joined g
  pub calls : is_calling t.mind.kind ≡ true
  pub unlived : g.live ≡ false
  pub stays : (g.ended ≡ false) × (g.failed ≡ false)
  pub going : see.stopping ≡ false
  pub newest : see.line.newest ≡ g.session
  pub unanswered : is_unanswered see.line.state ≡ true
  pub shut : t.mind.shut ≢ g.session

-- then it is closed
abbrev pub AsksEnd : Type 0
AsksEnd = (kind : Kind) (xs : List Turn) (x : Turn) (ys : List Turn) (g : Guest) (see : Look) → RunOf (fresh_tale kind) (xs ++ x ∷ ys) →
    AnswerIsLate xs x ys (tale_of (fresh_tale kind) (xs ++ x ∷ ys)) g see → mind_next (tale_of (fresh_tale kind) (xs ++ x ∷ ys)).mind see ≡ moves.Close

-- the session has ended, and wasn't live; or this mind closed it
abbrev pub IsPast : LineMind → Guest → Look → Type 0
IsPast m g see = ((is_free see.line.state ≡ true) × (was_closed see.line.end ≡ false) × (m.shut ≢ g.session)) ⊎ (m.shut ≡ g.session)

-- a caller at a calling line stays, its session was never live, and it has ended, or this mind closed it
pub record IsLost (m : LineMind) (g : Guest) (see : Look) : Type 0 where
  pub joined : m.phase ≡ phases.Joined g
  pub calls : is_calling m.kind ≡ true
  pub unready : m.ready ≡ false
  pub unlived : g.live ≡ false
  pub stays : (g.ended ≡ false) × (g.failed ≡ false)
  pub owed : g.owed ≡ 0
  pub going : see.stopping ≡ false
  pub newest : see.line.newest ≡ g.session
  pub past : IsPast m g see

-- it waits again, its node first avoided where that is due
abbrev pub LosesFirst : Type 0
LosesFirst = (m : LineMind) (g : Guest) (see : Look) → IsLost m g see → (mind_next m see ≡ moves.Avoid) ⊎ (mind_next m see ≡ moves.Lose)

-- where the circuit ended because the peer knew none such, it has just been started again: its caller waits for it, and it isn't avoided
abbrev pub WaitsForTheRestarted : Type 0
WaitsForTheRestarted = (m : LineMind) (g : Guest) (see : Look) → IsLost m g see → is_free see.line.state ≡ true →
    see.line.end ≡ Some (ends.Circuit 5) → mind_next m see ≡ moves.Lose

-- a caller gives bytes and takes none, or few, at a live session that this mind didn't close; the last fact was a write
pub record IsBehind (m : LineMind) (g : Guest) (see : Look) : Type 0 where
  pub joined : m.phase ≡ phases.Joined g
  pub unready : m.ready ≡ false
  pub sound : g.failed ≡ false
  pub going : see.stopping ≡ false
  pub newest : see.line.newest ≡ g.session
  pub shut : m.shut ≢ g.session
  pub live : is_live see.line.state ≡ true
  pub wrote : is_some g.wrote ≡ true

-- however much it owes, the mind reads from the caller next, or puts what was read
abbrev pub CallersAreHeard : Type 0
CallersAreHeard = (m : LineMind) (g : Guest) (see : Look) → IsBehind m g see →
    ((g.left ≡ 0) → (g.ended ≡ false) → mind_next m see ≡ moves.Read) × ((0 < g.left) → (0 < see.line.room) → mind_next m see ≡ moves.Put)
