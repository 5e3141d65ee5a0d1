-- What happens at a port: jobs come, are told what came of their moves, and leave.
use Rattle.std.specs.Prelude.{◌≡◌, ℕ, ◌||◌, Bool, true, false, zero, suc, List, [], ◌∷◌, ◌++◌, map, take, remove, slice_get, Some}
use Rattle.lat_mind.specs.Good.{Each}
use Rattle.lat_jobs.specs.declared.fact.Fact.{Fact}
use Rattle.lat_jobs.specs.declared.fact.Fact.TheVariants as facts
use Rattle.lat_jobs.specs.declared.fact.Move.TheVariants as moves
use Rattle.lat_jobs.specs.declared.look.Look.{Look}
use Rattle.lat_jobs.specs.declared.phase.Ask.{Ask}
use Rattle.lat_jobs.specs.declared.phase.Phase.{Phase}
use Rattle.lat_jobs.specs.declared.phase.Phase.TheVariants as phases
use Rattle.lat_jobs.specs.declared.mind.JobMind.{JobMind}
use Rattle.lat_jobs.specs.Looks.{tells}
use Rattle.lat_jobs.specs.Minds.{fresh_mind, mind_told}
use Rattle.lat_jobs.specs.Queues.{all_placed, queue_next}
use Rattle.lat_jobs.specs.Runs.{Answers}

-- a job, and whether it has ever asked
pub record Seat : Type 0 where
  pub mind : JobMind
  pub asked : Bool

abbrev pub fresh_seat : Seat
fresh_seat = record { mind = fresh_mind; asked = false }

-- a number was drawn and asked for
abbrev pub is_ask : Fact → Bool
is_ask (facts.Asked number) = true
is_ask _ = false

abbrev pub seat_told : Seat → Look → Fact → Seat
seat_told s see fact = record { mind = mind_told s.mind see fact; asked = s.asked || is_ask fact }

-- what happens at a port
pub data Act : Type 0 where
  Comes : Act
  Tells : ℕ → Look → Fact → Act
  Leaves : ℕ → Act

abbrev pub seats_told : List Seat → ℕ → Look → Fact → List Seat
seats_told [] at see fact = []
seats_told (s ∷ ss) zero see fact = seat_told s see fact ∷ ss
seats_told (s ∷ ss) (suc at) see fact = s ∷ seats_told ss at see fact

abbrev pub seats_after : List Seat → Act → List Seat
seats_after ss Comes = ss ++ fresh_seat ∷ []
seats_after ss (Tells at see fact) = seats_told ss at see fact
seats_after ss (Leaves at) = remove ss at

abbrev pub minds_of : List Seat → List JobMind
minds_of ss = map (λ s. s.mind) ss

-- a fact is of the move that the queue says
abbrev pub CanHappen : List Seat → Act → Type 0
CanHappen ss Comes = Unit {0}
CanHappen ss (Tells at see fact) = Answers (queue_next (minds_of ss) at see) fact
CanHappen ss (Leaves at) = Unit {0}

abbrev pub ActsOf : List Seat → List Act → Type 0
ActsOf ss [] = Unit {0}
ActsOf ss (x ∷ xs) = CanHappen ss x × ActsOf (seats_after ss x) xs

abbrev pub seats_of : List Seat → List Act → List Seat
seats_of ss [] = ss
seats_of ss (x ∷ xs) = seats_of (seats_after ss x) xs

abbrev pub is_over : Phase → Bool
is_over phases.Over = true
is_over _ = false

-- behind a job that has never asked and isn't over none has asked
abbrev pub AskedInOrder : List Seat → Type 0
AskedInOrder [] = Unit {0}
AskedInOrder (s ∷ ss) = (s.asked ≡ false → is_over s.mind.phase ≡ false → Each (λ r. r.asked ≡ false) ss) × AskedInOrder ss

-- whatever happens at a port, its jobs ask first in the order in which they came
abbrev pub JobsAskInOrder : Type 0
JobsAskInOrder = (xs : List Act) → ActsOf [] xs → AskedInOrder (seats_of [] xs)

-- a job asks under a new number only where each job before it has a place
abbrev pub AsksInTurn : Type 0
AsksInTurn = (jobs : List JobMind) (at : ℕ) (see : Look) → queue_next jobs at see ≡ moves.Ask → all_placed (take at jobs) ≡ true

-- and so it asks again, until a status is heard
abbrev pub RepeatsInTurn : Type 0
RepeatsInTurn = (jobs : List JobMind) (at : ℕ) (see : Look) (m : JobMind) (a : Ask) → slice_get jobs at ≡ Some m → m.phase ≡ phases.Asking a →
    tells see.status a.number ≡ false → queue_next jobs at see ≡ moves.Repeat → all_placed (take at jobs) ≡ true
