-- The events of moves, and what is told of their answers.
use Rattle.std.specs.Prelude.{ℕ, List, [], Option, Some, None}
use Rattle.lat_base.specs.Answers.{items_given}
use Rattle.lat_base.specs.declared.item.Item.{Item}
use Rattle.lat_base.specs.declared.event.Event.{Event}
use Rattle.lat_base.specs.declared.event.Event.TheVariants as events
use Rattle.lat_base.specs.declared.answer.Answer.{Answer}
use Rattle.lat_base.specs.declared.answer.Answer.TheVariants as answers
use Rattle.lat_jobs.specs.declared.fact.Fact.{Fact}
use Rattle.lat_jobs.specs.declared.fact.Fact.TheVariants as facts
use Rattle.lat_jobs.specs.declared.fact.Move.{Move}
use Rattle.lat_jobs.specs.declared.fact.Move.TheVariants as moves
use Rattle.lat_jobs.specs.Numbers.{number_drawn, numbers_after}
use Rattle.lat_past.specs.Counts.{put_of}
use Rattle.lat_printing.specs.declared.post.JobPost.{JobPost}

-- the seat whose event the move is: requests and cancels are the clock's, the others those of the session's line
abbrev pub move_seat : Move → Option ℕ → Option ℕ
move_seat moves.Ask line = Some 65
move_seat moves.Repeat line = Some 65
move_seat moves.Cancel line = Some 65
move_seat moves.Put line = line
move_seat moves.Take line = line
move_seat moves.Close line = line
move_seat _ line = None

-- the number of the move's request: a new one for an ask, where one is left behind this last one, and else the job's
abbrev pub number_for : Move → ℕ → ℕ → Option ℕ
number_for moves.Ask own last = number_drawn last
number_for _ own last = Some own

-- the last number that was drawn then
abbrev pub numbers_behind : Move → ℕ → ℕ
numbers_behind moves.Ask last = numbers_after last
numbers_behind _ last = last

-- the event of a move of this seat: requests are made at the post's server for its service, and a put has all that is offered
abbrev pub move_event : Move → ℕ → JobPost → ℕ → List ℕ → Option Event
move_event moves.Ask seat post number bytes = Some (events.Request post.server number post.service)
move_event moves.Repeat seat post number bytes = Some (events.Request post.server number post.service)
move_event moves.Cancel seat post number bytes = Some (events.Cancel number)
move_event moves.Put seat post number bytes = Some (events.Put seat bytes)
move_event moves.Take seat post number bytes = Some (events.Take seat 4096)
move_event moves.Close seat post number bytes = Some (events.Close seat)
move_event _ seat post number bytes = None

-- what is told of the answer to a move's event
abbrev pub fact_of : Move → Answer → ℕ → Fact
fact_of moves.Ask a number = facts.Asked number
fact_of moves.Repeat a number = facts.Repeated
fact_of moves.Cancel a number = facts.Cancelled
fact_of moves.Put a number = facts.Put (put_of a)
fact_of moves.Take a number = facts.Took (items_given a)
fact_of moves.Close a number = facts.Closed
fact_of _ a number = facts.Lacking

-- the items that an answer gives
abbrev pub items_of : Answer → List Item
items_of (answers.Took items) = items
items_of a = []

-- the items that come of a move
abbrev pub given_of : Move → Answer → List Item
given_of moves.Take a = items_of a
given_of _ a = []

-- how many bytes the event of a move puts, of so many that are offered
abbrev pub put_by_move : Move → ℕ → ℕ
put_by_move moves.Put offered = offered
put_by_move _ offered = 0
