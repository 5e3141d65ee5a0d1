-- The numbers that actions and outcomes are written as.
use Rattle.std.specs.Prelude.{ℕ, ◌<◌, Bool, nat_lt, ◌==◌, List, [], ◌∷◌, Option}
use Rattle.std.specs.List.{find}
use Rattle.lat_base.specs.declared.kept.Kept.TheVariants.{Waiting, Granted, Cancelled, QueueFull, NoService, RecordsFull, Done}
use Rattle.lat_notices.specs.declared.notice.Action.{Action}
use Rattle.lat_notices.specs.declared.notice.Action.TheVariants as actions
use Rattle.lat_notices.specs.declared.notice.Outcome.{Outcome}
use Rattle.lat_notices.specs.declared.notice.Outcome.TheVariants.{Kept, Unknown}

abbrev pub action_number : Action → ℕ
action_number actions.Ask = 1
action_number actions.Cancel = 2

abbrev pub all_actions : List Action
all_actions = actions.Ask ∷ actions.Cancel ∷ []

-- the action that a number stands for
abbrev pub action_of : ℕ → Option Action
action_of number = find (λ action. number == action_number action) all_actions

abbrev pub outcome_number : Outcome → ℕ
outcome_number (Kept (Waiting place)) = 1
outcome_number (Kept Granted) = 2
outcome_number (Kept Cancelled) = 3
outcome_number (Kept QueueFull) = 4
outcome_number (Kept NoService) = 5
outcome_number (Kept RecordsFull) = 6
outcome_number (Kept Done) = 7
outcome_number Unknown = 8

-- the place in the queue that is written with an outcome: 0 unless the request waits
abbrev pub outcome_place : Outcome → ℕ
outcome_place (Kept (Waiting place)) = place
outcome_place outcome = 0

-- a request that waits has a place above 0
abbrev pub IsOutcome : Outcome → Type 0
IsOutcome (Kept (Waiting place)) = 0 < place
IsOutcome outcome = Unit {0}

-- each outcome; the place of one that waits is 0 here, since it stands behind the number
abbrev pub all_outcomes : List Outcome
all_outcomes = Kept (Waiting 0) ∷ Kept Granted ∷ Kept Cancelled ∷ Kept QueueFull ∷ Kept NoService ∷ Kept RecordsFull ∷ Kept Done ∷ Unknown ∷ []

-- the outcome that a number stands for, without its place
abbrev pub outcome_of : ℕ → Option Outcome
outcome_of number = find (λ outcome. number == outcome_number outcome) all_outcomes

-- the place that may stand with an outcome: not 0 where the request waits, else 0
abbrev pub place_fits : Outcome → ℕ → Bool
place_fits (Kept (Waiting unplaced)) place = nat_lt 0 place
place_fits outcome place = place == 0

-- the outcome with the place that stands behind its number
abbrev pub placed : Outcome → ℕ → Outcome
placed (Kept (Waiting unplaced)) place = Kept (Waiting place)
placed outcome place = outcome
