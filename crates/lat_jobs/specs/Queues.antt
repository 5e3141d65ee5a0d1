-- The jobs of a port, in the order in which they came.
use Rattle.std.specs.Prelude.{ℕ, Bool, List, [], ◌∷◌, ◌++◌, length, take, if◌then◌else◌, nat_lt, Option, Some, None, slice_get, slice_set}
use Rattle.std.specs.List.{list_all}
use Rattle.lat_jobs.specs.declared.fact.Fact.{Fact}
use Rattle.lat_jobs.specs.declared.fact.Move.{Move}
use Rattle.lat_jobs.specs.declared.fact.Move.TheVariants as moves
use Rattle.lat_jobs.specs.declared.look.Look.{Look}
use Rattle.lat_jobs.specs.declared.mind.JobMind.{JobMind}
use Rattle.lat_jobs.specs.Minds.{fresh_mind, mind_next, mind_told}
use Rattle.lat_jobs.specs.Phases.{has_place}

-- fewer than 8 jobs are there
abbrev pub has_room : List JobMind → Bool
has_room jobs = nat_lt (length jobs) 8

abbrev pub queue_came : List JobMind → List JobMind
queue_came jobs = if has_room jobs then jobs ++ fresh_mind ∷ [] else jobs

-- each job has a place
abbrev pub all_placed : List JobMind → Bool
all_placed jobs = list_all (λ m. has_place m.phase) jobs

-- each job before this one has a place
abbrev pub may_ask : List JobMind → ℕ → Bool
may_ask jobs at = all_placed (take at jobs)

abbrev pub next_of : Option JobMind → Look → Bool → Move
next_of (Some m) see turn = mind_next m see turn
next_of None see turn = moves.Stop

abbrev pub queue_next : List JobMind → ℕ → Look → Move
queue_next jobs at see = next_of (slice_get jobs at) see (may_ask jobs at)

abbrev pub told_of : Option JobMind → List JobMind → ℕ → Look → Fact → List JobMind
told_of (Some m) jobs at see fact = slice_set jobs at (mind_told m see fact)
told_of None jobs at see fact = jobs

abbrev pub queue_told : List JobMind → ℕ → Look → Fact → List JobMind
queue_told jobs at see fact = told_of (slice_get jobs at) jobs at see fact
