-- Runs: a job's mind and its worker, turn after turn. Each turn is a look, the mind's move, and what came of it.
use Rattle.std.specs.Prelude.{◌≡◌, ℕ, suc, ◌<◌, ◌≤◌, ◌⊎◌, List, [], ◌∷◌, ◌++◌, length, take, drop, Bool, true, false, Option, Some, None}
use Rattle.lat_base.specs.declared.item.Item.{Item}
use Rattle.lat_jobs.specs.declared.fact.Fact.{Fact}
use Rattle.lat_jobs.specs.declared.fact.Fact.TheVariants as facts
use Rattle.lat_jobs.specs.declared.fact.Move.{Move}
use Rattle.lat_jobs.specs.declared.fact.Move.TheVariants as moves
use Rattle.lat_jobs.specs.declared.look.Look.{Look}
use Rattle.lat_jobs.specs.declared.phase.Phase.{Phase}
use Rattle.lat_jobs.specs.declared.phase.Phase.TheVariants as phases
use Rattle.lat_jobs.specs.declared.mind.JobMind.{JobMind}
use Rattle.lat_jobs.specs.Minds.{fresh_mind, mind_told, next_at}

pub record Turn : Type 0 where
  pub look : Look
  pub turn : Bool  -- whether the job may ask
  pub fact : Fact
  pub bytes : List ℕ  -- what a read gave
  pub items : List Item  -- what a take gave

-- bytes of the job went into this session, which answers the request of this number
pub record Entry : Type 0 where
  pub session : ℕ
  pub number : ℕ

-- what has happened to a job
pub record Tale : Type 0 where
  pub mind : JobMind
  pub hand : List ℕ  -- the worker's bytes: what the last read gave, less what puts took of it since
  pub read : List ℕ  -- all that the client gave
  pub put : List ℕ  -- all of it that puts took
  pub ended : Bool  -- whether the client has said that this is all
  pub desk : List Item  -- the worker's items: what the last take gave, less what was written of it
  pub taken : List Item  -- all that was taken from the present session
  pub written : List Item  -- all of it that was written to the client
  pub drawn : ℕ  -- the highest number that was drawn so far
  pub cancelled : List ℕ  -- the numbers whose requests were cancelled
  pub log : List Entry  -- the puts, the last one first
  pub tries : ℕ  -- how many requests came to nothing
  pub lost : ℕ  -- when the last of them did

-- a client has just come; numbers up to this one were drawn before
abbrev pub fresh_tale : ℕ → Tale
fresh_tale drawn = record {
  mind = fresh_mind;
  hand = [];
  read = [];
  put = [];
  ended = false;
  desk = [];
  taken = [];
  written = [];
  drawn = drawn;
  cancelled = [];
  log = [];
  tries = 0;
  lost = 0;
}

abbrev pub left_in : Phase → ℕ
left_in (phases.Printing g) = g.left
left_in _ = 0

abbrev pub owed_in : Phase → ℕ
owed_in (phases.Printing g) = g.owed
owed_in _ = 0

-- the number of the job's request, 0 where none stands
abbrev pub number_in : Phase → ℕ
number_in (phases.Asking a) = a.number
number_in (phases.Printing g) = g.number
number_in _ = 0

-- what a put offers, and what a write does: as many of the worker's bytes or items as its mind counts
abbrev pub offer_at : Tale → Phase → List ℕ
offer_at t p = take (left_in p) t.hand

abbrev pub due_at : Tale → Phase → List Item
due_at t p = take (owed_in p) t.desk

-- the number that the shown session answers
abbrev pub number_shown : Option ℕ → ℕ
number_shown (Some number) = number
number_shown None = 0

abbrev pub entry_of : Turn → Entry
entry_of x = record { session = x.look.line.newest; number = number_shown x.look.request }

-- what the worker did, by what came of its mind's move
abbrev pub done_at : Tale → Phase → Turn → Fact → Tale
done_at t p x (facts.Asked n) = record t { drawn = n }
done_at t p x facts.Cancelled = record t { cancelled = number_in p ∷ t.cancelled; tries = suc t.tries; lost = x.look.moment }
done_at t p x facts.Lost = record t { tries = suc t.tries; lost = x.look.moment }
done_at t p x facts.Joined = record t { taken = []; written = [] }
done_at t p x (facts.Read n) = record t { hand = x.bytes; read = t.read ++ x.bytes }
done_at t p x facts.Ended = record t { ended = true }
done_at t p x (facts.Put n) = record t { put = t.put ++ take n (offer_at t p); hand = drop n t.hand; log = entry_of x ∷ t.log }
done_at t p x (facts.Took n) = record t { desk = x.items; taken = t.taken ++ x.items }
done_at t p x (facts.Written n) = record t { written = t.written ++ take n (due_at t p); desk = drop n t.desk }
done_at t p x _ = t

abbrev pub tale_at : Tale → Phase → Turn → Fact → Tale
tale_at t p x f = record (done_at t p x f) { mind = mind_told t.mind x.look f }

abbrev pub tale_next : Tale → Turn → Tale
tale_next t x = tale_at t t.mind.phase x x.fact

abbrev pub tale_of : Tale → List Turn → Tale
tale_of t [] = t
tale_of t (x ∷ xs) = tale_of (tale_next t x) xs

-- a move that is an event of the core
abbrev pub has_event : Move → Bool
has_event moves.Ask = true
has_event moves.Repeat = true
has_event moves.Cancel = true
has_event moves.Put = true
has_event moves.Take = true
has_event moves.Close = true
has_event _ = false

-- the fact is of this move
abbrev pub Answers : Move → Fact → Type 0
Answers mv (facts.Asked n) = mv ≡ moves.Ask
Answers mv facts.Unasked = mv ≡ moves.Ask
Answers mv facts.Repeated = mv ≡ moves.Repeat
Answers mv facts.Cancelled = mv ≡ moves.Cancel
Answers mv facts.Lost = mv ≡ moves.Lose
Answers mv facts.Joined = mv ≡ moves.Join
Answers mv facts.Quiet = (mv ≡ moves.Watch) ⊎ (mv ≡ moves.Read)
Answers mv (facts.Read n) = mv ≡ moves.Read
Answers mv facts.Ended = mv ≡ moves.Read
Answers mv facts.Failed = (mv ≡ moves.Watch) ⊎ ((mv ≡ moves.Read) ⊎ (mv ≡ moves.Write))
Answers mv (facts.Put n) = mv ≡ moves.Put
Answers mv (facts.Took n) = mv ≡ moves.Take
Answers mv (facts.Written n) = mv ≡ moves.Write
Answers mv facts.Closed = mv ≡ moves.Close
Answers mv facts.Rested = mv ≡ moves.Rest
Answers mv facts.HungUp = mv ≡ moves.HangUp
Answers mv facts.Reset = mv ≡ moves.Reset
Answers mv facts.Lacking = has_event mv ≡ true

-- the counts of the fact are those of what was given, and at most what was offered; a number that is drawn is above all that
-- were drawn before
abbrev pub Counts : Tale → Phase → Turn → Fact → Type 0
Counts t p x (facts.Asked n) = t.drawn < n
Counts t p x (facts.Read n) = length x.bytes ≡ n
Counts t p x (facts.Took n) = length x.items ≡ n
Counts t p x (facts.Put n) = n ≤ left_in p
Counts t p x (facts.Written n) = n ≤ owed_in p
Counts t p x _ = Unit {0}

-- a turn that a worker can have
pub record CanBe (t : Tale) (p : Phase) (x : Turn) (f : Fact) : Type 0 where
  pub answers : Answers (next_at t.mind.wait p x.look x.turn) f
  pub counts : Counts t p x f

abbrev pub RunOf : Tale → List Turn → Type 0
RunOf t [] = Unit {0}
RunOf t (x ∷ xs) = CanBe t t.mind.phase x x.fact × RunOf (tale_next t x) xs
