-- What a worker did in some turns.
use Rattle.std.specs.Prelude.{◌≡◌, ℕ, ◌+◌, List, ◌++◌, sum_by, Bool, false, Option, Some, None}
use Rattle.lat_mind.specs.declared.fact.Fact.{Fact}
use Rattle.lat_mind.specs.declared.fact.Fact.TheVariants as facts
use Rattle.lat_mind.specs.declared.fact.Move.{Move}
use Rattle.lat_mind.specs.declared.fact.Move.TheVariants as moves
use Rattle.lat_mind.specs.declared.look.Look.{Look}
use Rattle.lat_mind.specs.declared.phase.Phase.{Phase}
use Rattle.lat_mind.specs.declared.phase.Phase.TheVariants as phases
use Rattle.lat_mind.specs.Runs.{Turn}
use Rattle.lat_outside.specs.Visits.{VisitsView}
use Rattle.lat_turns.specs.Acts.{Acted}
use Rattle.lat_turns.specs.Holds.{MayAct}
use Rattle.lat_turns.specs.Kept.{lived}
use Rattle.lat_turns.specs.Lives.{DeskView, behind, with_turn}
use Rattle.lat_turns.specs.declared.holding.Held.{Held}
use Rattle.lat_turns.specs.declared.holding.Held.TheVariants as helds
use Rattle.lat_turns.specs.declared.worker.LineDone.{LineDone}
use Rattle.lat_turns.specs.declared.worker.LineDone.TheVariants as dones

-- how many bytes a turn put
abbrev pub put_in : Fact → ℕ
put_in (facts.Put n) = n
put_in _ = 0

abbrev pub puts_of : List Turn → ℕ
puts_of turns = sum_by (λ (x : Turn). put_in x.fact) turns

-- how many events were applied by a turn: one, where something else is told of an event than that no memory was found
abbrev pub event_in : Fact → ℕ
event_in facts.Readied = 1
event_in facts.Unreadied = 1
event_in (facts.Connected n) = 1
event_in facts.Unconnected = 1
event_in facts.Avoided = 1
event_in facts.Attended = 1
event_in facts.Closed = 1
event_in (facts.Took n) = 1
event_in (facts.Put n) = 1
event_in fact = 0

abbrev pub events_of : List Turn → ℕ
events_of turns = sum_by (λ (x : Turn). event_in x.fact) turns

-- the count of events rose by exactly those of the turns since
abbrev pub RoseAs : DeskView → DeskView → ℕ → ℕ → Type 0
RoseAs d d' events events' = events' + events_of d.turns ≡ events + events_of d'.turns

-- the desk behind a hold, and the count of events: an event is told of by a turn, and counted; nothing else is
abbrev pub HeldTurns : Held → DeskView → DeskView → ℕ → ℕ → Type 0
HeldTurns (helds.Told at) d d' events events' = (x : Turn) × (d' ≡ with_turn d x) × (event_in x.fact ≡ 1) × (events' ≡ events + 1)
HeldTurns helds.Lacking d d' events events' = (see : Look) × (d' ≡ behind d see facts.Lacking) × (events' ≡ events)
HeldTurns _ d d' events events' = (d' ≡ d) × (events' ≡ events)

-- what is done behind a hold: what its move says, where that has no event, else nothing
abbrev pub SettledAs : Held → DeskView → DeskView → VisitsView → VisitsView → Type 0
SettledAs (helds.Outside go look port) d d' vs vs' = Acted go look port d d' vs vs'
SettledAs _ d d' vs vs' = (d' ≡ d) × (vs' ≡ vs)

-- it had some turns more, and the count of bytes rose by what they put
pub record WentOn (d d' : DeskView) (bytes bytes' : ℕ) : Type 0 where
  pub more : List Turn
  pub kind : d'.kind ≡ d.kind
  pub turns : d'.turns ≡ d.turns ++ more
  pub counted : bytes' ≡ bytes + puts_of more

-- a worker that has ended by itself is one whose mind has finished
abbrev pub IsDone : LineDone → DeskView → Type 0
IsDone dones.End d = d.tale.mind.phase ≡ phases.Finished
IsDone (dones.CountsOut refusal) d = Unit {0}

-- the caller is hung up by this move at this look, and its session is or was live
abbrev pub parts : Phase → Move → Look → Bool
parts phase moves.HangUp see = lived phase see.line
parts phase _ see = false

-- a caller who was served is hung up behind this hold
abbrev pub was_served : Phase → Held → Bool
was_served phase (helds.Outside go look port) = parts phase go look
was_served phase _ = false

-- how a worker ends by a move without an event, if it does
abbrev pub end_of : Move → Option LineDone
end_of moves.Finish = Some dones.End
end_of _ = None

-- how a worker ends by what came of its hold, if it does: where a count is out, and where its mind finishes, and by nothing else
abbrev pub ended_by : Held → Option LineDone
ended_by (helds.Outside go look port) = end_of go
ended_by (helds.CountsOut refusal) = Some (dones.CountsOut refusal)
ended_by _ = None

-- One turn: a hold of the lock, and behind it what its move says, where that has no event, and nothing else. The count of events
-- rises by the hold's alone, and how the worker ends is told by what came of the hold
pub record TurnedAs (d d' : DeskView) (vs vs' : VisitsView) (events events' : ℕ) (ends : Option LineDone) : Type 0 where
  pub held : Held
  pub desk : DeskView  -- behind the hold
  pub turns : HeldTurns held d desk events events'
  pub may : MayAct desk held
  pub settled : SettledAs held desk d' vs vs'
  pub ended : ends ≡ ended_by held
