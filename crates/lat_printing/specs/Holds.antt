-- What a worker of jobs does under the lock.
use Rattle.std.specs.Prelude.{◌≡◌, ◌≢◌, ℕ, [], length, Option, Some, None}
use Rattle.lat_base.specs.declared.event.Event.{Event}
use Rattle.lat_base.specs.declared.answer.Answer.{Answer}
use Rattle.lat_history.specs.CellView.{CellView, SeatView, with_event}
use Rattle.lat_history.specs.History.{Added, state_of}
use Rattle.lat_history.specs.Numbers.{MayCount}
use Rattle.lat_jobs.specs.declared.fact.Fact.TheVariants as facts
use Rattle.lat_jobs.specs.declared.fact.Move.{Move}
use Rattle.lat_jobs.specs.declared.look.Look.{Look}
use Rattle.lat_jobs.specs.Runs.{number_in}
use Rattle.lat_past.specs.Counts.{put_of}
use Rattle.lat_printing.specs.declared.post.JobPost.{JobPost}
use Rattle.lat_printing.specs.Desks.{DeskView, desk_told, offer_of}
use Rattle.lat_printing.specs.Events.{fact_of, given_of, move_event, move_seat, number_for, numbers_behind}
use Rattle.lat_printing.specs.declared.holding.Held.{Held}
use Rattle.lat_printing.specs.declared.holding.Held.TheVariants as helds

-- the desk behind the turn of a move whose event was answered so
abbrev pub told_of : DeskView → Look → Move → Answer → ℕ → DeskView
told_of d see go a number = desk_told d see (fact_of go a number) [] (given_of go a)

-- nothing has changed in the cell, and no share
abbrev pub Stays : {C T : Type 0} → CellView C T → CellView C T → SeatView → SeatView → Type 0
Stays old new share share' = (new ≡ old) × (share' ≡ share)

-- this event was applied: the history has it more, with the machine's answer, the share counts it, and exactly this answer was told
pub record IsApplied {C T S : Type 0} (opening : C → S) (next : S → Event → S) (answer : S → Event → Answer)
    (old new : CellView C T) (share share' : SeatView) (see : Look) (go : Move) (number : ℕ) (d d' : DeskView) (event : Event) (at : ℕ) : Type 0 where
  pub added : Added opening next answer old new event
  pub counted : share' ≡ with_event share (put_of (answer (state_of opening next old) event))
  pub told : d' ≡ told_of d see go (answer (state_of opening next old) event) number
  pub place : at ≡ length old.history

-- of a hold whose move has this event
abbrev pub AppliedAs : {C T S : Type 0} → (C → S) → (S → Event → S) → (S → Event → Answer) → CellView C T → CellView C T
    → SeatView → SeatView → Look → Move → ℕ → DeskView → DeskView → Event → Held → Type 0
AppliedAs opening next answer old new share share' see go number d d' event (helds.Told at) =
    IsApplied opening next answer old new share share' see go number d d' event at
AppliedAs opening next answer old new share share' see go number d d' event helds.Lacking =
    Stays old new share share' × (d' ≡ desk_told d see facts.Lacking [] [])
AppliedAs opening next answer old new share share' see go number d d' event helds.CountsOut =
    (MayCount old event → ⊥) × Stays old new share share' × (d' ≡ d)
AppliedAs opening next answer old new share share' see go number d d' event _ = ⊥

-- the move has an event of this seat
abbrev pub MovesAt : Move → ℕ → Type 0
MovesAt go seat = move_seat go (Some seat) ≡ Some seat

-- of a hold whose move has an event of the share's seat, under this number: it was applied; no memory was found for it; or a count
-- would pass the greatest number of its type, and nothing has changed
abbrev pub MadeAs : {C T S : Type 0} → (C → S) → (S → Event → S) → (S → Event → Answer) → CellView C T → CellView C T
    → SeatView → SeatView → JobPost → Look → Move → ℕ → DeskView → DeskView → Held → Type 0
MadeAs opening next answer old new share share' post see go number d d' (helds.Told at) =
    (event : Event)
    × (move_event go share.seat post number (offer_of d) ≡ Some event)
    × IsApplied opening next answer old new share share' see go number d d' event at
MadeAs opening next answer old new share share' post see go number d d' helds.Lacking =
    Stays old new share share' × (d' ≡ desk_told d see facts.Lacking [] [])
MadeAs opening next answer old new share share' post see go number d d' helds.CountsOut =
    (event : Event)
    × (move_event go share.seat post number (offer_of d) ≡ Some event)
    × (MayCount old event → ⊥)
    × Stays old new share share'
    × (d' ≡ d)
MadeAs opening next answer old new share share' post see go number d d' _ = ⊥

-- the same, where the number is the one that the move has
abbrev pub NumberedAs : {C T S : Type 0} → (C → S) → (S → Event → S) → (S → Event → Answer) → CellView C T → CellView C T
    → SeatView → SeatView → JobPost → Option ℕ → Look → Move → ℕ → ℕ → DeskView → DeskView → Held → Type 0
NumberedAs opening next answer old new share share' post line see go last last' d d' r =
    (number : ℕ)
    × (number_for go (number_in d.mind.phase) last ≡ Some number)
    × (move_seat go line ≡ Some share.seat)
    × (last' ≡ numbers_behind go last)
    × MadeAs opening next answer old new share share' post see go number d d' r

-- What came of a hold at this look, the job's session having this line: the move's event was made, for a number; it has none, or
-- one of another seat, and nothing has changed; or no number is left, and only that is told
abbrev pub HeldAs : {C T S : Type 0} → (C → S) → (S → Event → S) → (S → Event → Answer) → CellView C T → CellView C T
    → SeatView → SeatView → JobPost → Option ℕ → Look → Move → ℕ → ℕ → DeskView → DeskView → Held → Type 0
HeldAs opening next answer old new share share' post line see go last last' d d' (helds.Outside move look) =
    (move ≡ go) × (move_seat go line ≡ None) × (look ≡ see) × Stays old new share share' × (last' ≡ last) × (d' ≡ d)
HeldAs opening next answer old new share share' post line see go last last' d d' (helds.Elsewhere seat) =
    (move_seat go line ≡ Some seat) × (seat ≢ share.seat) × Stays old new share share' × (last' ≡ last) × (d' ≡ d)
HeldAs opening next answer old new share share' post line see go last last' d d' helds.NumbersOut =
    (number_for go (number_in d.mind.phase) last ≡ None) × Stays old new share share' × (d' ≡ desk_told d see facts.Unasked [] [])
HeldAs opening next answer old new share share' post line see go last last' d d' r =
    NumberedAs opening next answer old new share share' post line see go last last' d d' r
