-- The state of a switch, and what one inner event makes of it.
use Rattle.std.specs.Prelude.{ℕ, ◌-◌, List, [], ◌∷◌, ◌++◌, map, get_or, slice_set}
use Rattle.lat_base.specs.declared.answer.Answer.{Answer}
use Rattle.lat_base.specs.declared.event.Event.{Event}
use Rattle.lat_machines.specs.values.Frames.{OutFrame}
use Rattle.lat_server.specs.Stands.{Machine, stepped, next, answered}
use Rattle.lat_switch.specs.Lines.{Line, no_line, gives_way}

-- a server without offers, and the lines over its own
pub record Switch : Type 0 where
  pub inner : Machine
  pub lines : List Line

-- line k, from 1 on
abbrev pub line_in : ℕ → List Line → Line
line_in k lines = get_or lines (k - 1) no_line

abbrev pub line_on : ℕ → Switch → Line
line_on k s = line_in k s.lines

abbrev pub with_line : ℕ → (Line → Line) → Switch → Switch
with_line k f s = record s { lines = slice_set s.lines (k - 1) (f (line_on k s)) }

-- what an outer event has done so far
pub record Course : Type 0 where
  pub state : Switch
  pub events : List Event  -- the inner events, in order
  pub frames : List OutFrame  -- theirs, in order

abbrev pub begins : Switch → Course
begins s = record { state = s; events = []; frames = [] }

-- the inner server does an event; then each line whose shown inner line has no session shows the next one with a session
abbrev pub after : Event → Switch → Switch
after e s = record { inner = next s.inner e; lines = map (gives_way (next s.inner e)) s.lines }

-- one inner event more
abbrev pub tells : Event → Course → Course
tells e c = record {
  state = after e c.state;
  events = c.events ++ e ∷ [];
  frames = c.frames ++ (stepped c.state.inner e).frames;
}

abbrev pub answer_to : Event → Course → Answer
answer_to e c = answered c.state.inner e

-- what is shown or is a line's own changes, and no inner event is told
abbrev pub changes : ℕ → (Line → Line) → Course → Course
changes k f c = record c { state = with_line k f c.state }

-- all that an outer event does, and its answer
pub record Step : Type 0 where
  pub course : Course
  pub answer : Answer

-- no inner event
abbrev pub refuses : Answer → Course → Step
refuses a c = record { course = c; answer = a }

-- one inner event, whose answer is given
abbrev pub relays : Event → Course → Step
relays e c = record { course = tells e c; answer = answer_to e c }
