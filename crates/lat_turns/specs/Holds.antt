-- What a line's worker does under the lock.
use Rattle.std.specs.Prelude.{◌≡◌, ℕ, [], length, true, false, Option, Some}
use Rattle.lat_base.specs.declared.event.Event.{Event}
use Rattle.lat_base.specs.declared.answer.Answer.{Answer}
use Rattle.lat_base.specs.declared.look.LineLook.{LineLook}
use Rattle.lat_base.specs.declared.look.Correspondent.{Correspondent}
use Rattle.lat_history.specs.CellView.{CellView, SeatView, with_event}
use Rattle.lat_history.specs.History.{Added, state_of}
use Rattle.lat_history.specs.Numbers.{MayCount}
use Rattle.lat_mind.specs.declared.fact.Fact.TheVariants as facts
use Rattle.lat_mind.specs.declared.fact.Move.{Move}
use Rattle.lat_mind.specs.declared.look.Look.{Look}
use Rattle.lat_mind.specs.Minds.{mind_next}
use Rattle.lat_mind.specs.Runs.{Turn, has_event}
use Rattle.lat_past.specs.Counts.{put_of}
use Rattle.lat_turns.specs.Doors.{DoorView, port_at}
use Rattle.lat_turns.specs.Events.{fact_of, given_of, move_event}
use Rattle.lat_turns.specs.Lives.{DeskView, behind, larger, offer_of, turn_of, with_turn}
use Rattle.lat_turns.specs.declared.holding.Held.{Held}
use Rattle.lat_turns.specs.declared.holding.Held.TheVariants as helds

-- the turn of a move whose event was answered so, the line's newest session then having this number
abbrev pub event_turn : DeskView → Look → Move → Answer → ℕ → Turn
event_turn d see go a number = turn_of d see (fact_of go a (larger d.tale.drawn see.line.newest) number) [] (given_of go a)

-- nothing has changed in the cell, and no share
abbrev pub Stays : {C T : Type 0} → CellView C T → CellView C T → SeatView → SeatView → Type 0
Stays old new share share' = (new ≡ old) × (share' ≡ share)

-- this event was applied: the history has it more, with the machine's answer, the share counts it, and the desk has the turn of
-- exactly this answer more
pub record IsApplied {C T S : Type 0} (opening : C → S) (next : S → Event → S) (answer : S → Event → Answer) (look_of : S → ℕ → LineLook)
    (old new : CellView C T) (share share' : SeatView) (see : Look) (go : Move) (d d' : DeskView) (event : Event) (at : ℕ) : Type 0 where
  pub added : Added opening next answer old new event
  pub counted : share' ≡ with_event share (put_of (answer (state_of opening next old) event))
  pub told : d' ≡ with_turn d (event_turn d see go (answer (state_of opening next old) event) (look_of (state_of opening next new) share.seat).newest)
  pub place : at ≡ length old.history

-- What came of a hold at this look: the event of the move was applied, and told; the move has none, and nothing has changed; no
-- memory was found for the event, and only that is told; or a count would pass the greatest number of its type, and nothing has changed
abbrev pub HeldAs : {C T S : Type 0} → (C → S) → (S → Event → S) → (S → Event → Answer) → (S → ℕ → LineLook) → CellView C T → CellView C T
    → SeatView → SeatView → DoorView → Option Correspondent → Look → Move → DeskView → DeskView → Held → Type 0
HeldAs opening next answer look_of old new share share' door who see go d d' (helds.Told at) =
    (event : Event)
    × (move_event go share.seat door.service (offer_of d) ≡ Some event)
    × IsApplied opening next answer look_of old new share share' see go d d' event at
HeldAs opening next answer look_of old new share share' door who see go d d' (helds.Outside move look port) =
    (move ≡ go)
    × (has_event go ≡ false)
    × (look ≡ see)
    × (port ≡ port_at door who go)
    × Stays old new share share'
    × (d' ≡ d)
HeldAs opening next answer look_of old new share share' door who see go d d' helds.Lacking =
    (has_event go ≡ true) × Stays old new share share' × (d' ≡ behind d see facts.Lacking)
HeldAs opening next answer look_of old new share share' door who see go d d' (helds.CountsOut refusal) =
    (event : Event)
    × (move_event go share.seat door.service (offer_of d) ≡ Some event)
    × (MayCount old event → ⊥)
    × Stays old new share share'
    × (d' ≡ d)
    × (refusal.seat ≡ share.seat)

-- of a hold whose move has this event
abbrev pub AppliedAs : {C T S : Type 0} → (C → S) → (S → Event → S) → (S → Event → Answer) → (S → ℕ → LineLook) → CellView C T → CellView C T
    → SeatView → SeatView → Look → Move → DeskView → DeskView → Event → Held → Type 0
AppliedAs opening next answer look_of old new share share' see go d d' event (helds.Told at) =
    IsApplied opening next answer look_of old new share share' see go d d' event at
AppliedAs opening next answer look_of old new share share' see go d d' event helds.Lacking =
    Stays old new share share' × (d' ≡ behind d see facts.Lacking)
AppliedAs opening next answer look_of old new share share' see go d d' event (helds.CountsOut refusal) =
    (MayCount old event → ⊥) × Stays old new share share' × (d' ≡ d) × (refusal.seat ≡ share.seat)
AppliedAs opening next answer look_of old new share share' see go d d' event (helds.Outside move look port) = ⊥

-- what is to be done outside the lock is the mind's move at its look, and has no event
abbrev pub MayAct : DeskView → Held → Type 0
MayAct d (helds.Outside go look port) = (mind_next d.tale.mind look ≡ go) × (has_event go ≡ false)
MayAct d _ = Unit {0}
