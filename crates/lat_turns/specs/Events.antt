-- The events of moves, and what is told of their answers.
use Rattle.std.specs.Prelude.{ℕ, List, [], true, false, if◌then◌else◌, nat_lt, Option, Some, None, option_map}
use Rattle.lat_base.specs.Answers.{items_given}
use Rattle.lat_base.specs.declared.item.Item.{Item}
use Rattle.lat_base.specs.declared.event.Event.{Event}
use Rattle.lat_base.specs.declared.event.Event.TheVariants as events
use Rattle.lat_base.specs.declared.answer.Answer.{Answer}
use Rattle.lat_base.specs.declared.answer.Answer.TheVariants as answers
use Rattle.lat_mind.specs.declared.fact.Fact.{Fact}
use Rattle.lat_mind.specs.declared.fact.Fact.TheVariants as facts
use Rattle.lat_mind.specs.declared.fact.Move.{Move}
use Rattle.lat_mind.specs.declared.fact.Move.TheVariants as moves
use Rattle.lat_past.specs.Counts.{put_of}

-- the event of a move on this line: a connect has the line's service, a put all bytes that are offered
abbrev pub move_event : Move → ℕ → Option (List ℕ) → List ℕ → Option Event
move_event moves.Ready line service bytes = Some (events.Ready line true)
move_event moves.Unready line service bytes = Some (events.Ready line false)
move_event moves.Connect line service bytes = option_map (λ s. events.Connect line s) service
move_event moves.Avoid line service bytes = Some (events.Avoid line)
move_event moves.Attend line service bytes = Some (events.Attend line 1)
move_event moves.Close line service bytes = Some (events.Close line)
move_event moves.Take line service bytes = Some (events.Take line 4096)
move_event moves.Put line service bytes = Some (events.Put line bytes)
move_event _ line service bytes = None

-- a connect is told with the number that the line's newest session has then, where that is above all that were given before
abbrev pub connected_as : Answer → ℕ → ℕ → Fact
connected_as (answers.Connected circuit session) drawn number = if nat_lt drawn number then facts.Connected number else facts.Unconnected
connected_as a drawn number = facts.Unconnected

-- what is told of the answer to a move's event
abbrev pub fact_of : Move → Answer → ℕ → ℕ → Fact
fact_of moves.Ready a drawn number = facts.Readied
fact_of moves.Unready a drawn number = facts.Unreadied
fact_of moves.Connect a drawn number = connected_as a drawn number
fact_of moves.Avoid a drawn number = facts.Avoided
fact_of moves.Attend a drawn number = facts.Attended
fact_of moves.Close a drawn number = facts.Closed
fact_of moves.Take a drawn number = facts.Took (items_given a)
fact_of moves.Put a drawn number = facts.Put (put_of a)
fact_of _ a drawn number = facts.Lacking

-- the items that an answer gives
abbrev pub items_of : Answer → List Item
items_of (answers.Took items) = items
items_of a = []

-- the items that come of a move
abbrev pub given_of : Move → Answer → List Item
given_of moves.Take a = items_of a
given_of _ a = []

-- how many bytes the event of a move puts, of so many that are offered
abbrev pub put_by_move : Move → ℕ → ℕ
put_by_move moves.Put offered = offered
put_by_move _ offered = 0
