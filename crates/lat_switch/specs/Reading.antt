-- How the bytes of a put are read, in order.
use Rattle.std.specs.Prelude.{ℕ, ◌+◌, Bool, true, false, cond, ◌&&◌, List, [], ◌∷◌, length, take, fold, nat_eq, Option, Some, None}
use Rattle.lat_base.specs.declared.answer.Answer.{Answer}
use Rattle.lat_base.specs.declared.answer.Answer.TheVariants as answers
use Rattle.lat_base.specs.declared.event.Event.{Event}
use Rattle.lat_base.specs.declared.event.Event.TheVariants as events
use Rattle.lat_machines.specs.values.Names.{Name}
use Rattle.lat_switch.specs.declared.piece.Piece.{Piece}
use Rattle.lat_switch.specs.declared.piece.Piece.TheVariants as pieces
use Rattle.lat_switch.specs.Lines.{shows_next}
use Rattle.lat_switch.specs.Switch.{line_on, Course, tells, answer_to, changes, Step, relays}
use Rattle.lat_switch.specs.Pieces.{pieces_of}
use Rattle.lat_switch.specs.Calls.{connects}

pub record Reading : Type 0 where
  pub course : Course
  pub count : ℕ  -- how many bytes were read so far
  pub goes_on : Bool
  pub refused : Bool  -- the put of the first byte was answered `Closed`

abbrev pub starts : Course → Reading
starts c = record { course = c; count = 0; goes_on = true; refused = false }

abbrev pub accepted : Answer → ℕ
accepted (answers.Put n) = n
accepted _ = 0

abbrev pub is_closed : Answer → Bool
is_closed answers.Closed = true
is_closed _ = false

-- bytes that are put on the shown inner line
abbrev pub put_on : ℕ → List ℕ → Course → Event
put_on k bytes c = events.Put (line_on k c.state).shown bytes

-- one more session, with the line's own service, where it has one
abbrev pub connects_own : ℕ → Course → Option Name → Course
connects_own k c None = c
connects_own k c (Some service) = (connects k service c).course

-- one put of all bytes of a run; reading ends before the first byte that isn't accepted
abbrev pub reads_run : ℕ → Reading → List ℕ → Reading
reads_run k r bytes =
    let a : Answer = answer_to (put_on k bytes r.course) r.course in
    record {
      course = tells (put_on k bytes r.course) r.course;
      count = r.count + accepted a;
      goes_on = nat_eq (accepted a) (length bytes);
      refused = nat_eq r.count 0 && is_closed a;
    }

abbrev pub reads_piece : ℕ → Reading → Piece → Reading
reads_piece k r (pieces.Run bytes) = reads_run k r bytes
reads_piece k r pieces.Next =
    record r { course = changes k (shows_next r.course.state.inner) r.course; count = r.count + 1 }
reads_piece k r pieces.Connect = record r {
  course = connects_own k r.course (line_on k r.course.state).service;
  count = r.count + 1;
  goes_on = false;
}

-- once reading has ended, nothing more is read
abbrev pub reads : ℕ → Reading → Piece → Reading
reads k r p = cond r.goes_on (reads_piece k r p) r

abbrev pub reads_all : ℕ → List Piece → Course → Reading
reads_all k ps c = fold (reads k) (starts c) ps

abbrev pub read_answer : Reading → Answer
read_answer r = cond r.refused answers.Closed (answers.Put r.count)

-- where there is no byte, an empty put
abbrev pub puts_pieces : ℕ → Course → List Piece → Step
puts_pieces k c [] = relays (put_on k [] c) c
puts_pieces k c (p ∷ ps) = record { course = (reads_all k (p ∷ ps) c).course; answer = read_answer (reads_all k (p ∷ ps) c) }

-- at most 65,535 bytes are read
abbrev pub puts : ℕ → List ℕ → Course → Step
puts k bytes c = puts_pieces k c (pieces_of (take 65535 bytes))
