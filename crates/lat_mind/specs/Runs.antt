-- Runs: a mind and its worker, turn after turn. Each turn is a look, the mind's move, and what came of it.
use Rattle.std.specs.Prelude.{◌≡◌, ℕ, ◌+◌, ◌<◌, ◌≤◌, ◌⊎◌, List, [], ◌∷◌, ◌++◌, length, take, drop, Bool, true, false, Option, Some, None}
use Rattle.lat_base.specs.declared.item.Item.{Item}
use Rattle.lat_mind.specs.declared.fact.Fact.{Fact}
use Rattle.lat_mind.specs.declared.fact.Fact.TheVariants as facts
use Rattle.lat_mind.specs.declared.fact.Move.{Move}
use Rattle.lat_mind.specs.declared.fact.Move.TheVariants as moves
use Rattle.lat_mind.specs.declared.look.Look.{Look}
use Rattle.lat_mind.specs.declared.phase.Phase.{Phase}
use Rattle.lat_mind.specs.declared.phase.Phase.TheVariants as phases
use Rattle.lat_mind.specs.declared.mind.LineMind.{LineMind}
use Rattle.lat_mind.specs.declared.kind.Kind.{Kind}
use Rattle.lat_mind.specs.Minds.{fresh_mind, mind_told, next_at}

-- `drawn` is the highest number that the core has given to a session by this look
pub record Turn : Type 0 where
  pub look : Look
  pub fact : Fact
  pub bytes : List ℕ  -- what a read gave
  pub items : List Item  -- what a take gave
  pub drawn : ℕ

-- bytes went into the session, or items came from it, while this caller was the line's
pub record Entry : Type 0 where
  pub session : ℕ
  pub caller : ℕ

-- what has happened
pub record Tale : Type 0 where
  pub mind : LineMind
  pub caller : ℕ  -- the number of the line's caller
  pub callers : ℕ  -- how many there were; each has its own number
  pub beside : ℕ  -- who had the line before this one came: where a caller is dialled, who waits on
  pub hand : List ℕ  -- the worker's bytes: what the last read gave, less what puts took of it since
  pub read : List ℕ  -- all that this caller gave
  pub put : List ℕ  -- all of it that puts took
  pub desk : List Item  -- the worker's items: what the last take gave, less what was written of it
  pub taken : List Item  -- all that was taken for this caller
  pub written : List Item  -- all that was written to it
  pub tried : Option ℕ  -- when a session was tried for last for this caller
  pub away : Option ℕ  -- when the device couldn't be dialled, where none has come since
  pub ready : Bool  -- whether the core was told that the line is ready
  pub drawn : ℕ
  pub log : List Entry  -- the last one first

abbrev pub fresh_tale : Kind → Tale
fresh_tale kind = record {
  mind = fresh_mind kind;
  caller = 0;
  callers = 0;
  beside = 0;
  hand = [];
  read = [];
  put = [];
  desk = [];
  taken = [];
  written = [];
  tried = None;
  away = None;
  ready = false;
  drawn = 0;
  log = [];
}

abbrev pub left_in : Phase → ℕ
left_in (phases.Joined g) = g.left
left_in _ = 0

abbrev pub owed_in : Phase → ℕ
owed_in (phases.Joined g) = g.owed
owed_in _ = 0

-- what a put offers, and what a write does: as many of the worker's bytes or items as its mind counts
abbrev pub offer_at : Tale → Phase → List ℕ
offer_at t p = take (left_in p) t.hand

abbrev pub due_at : Tale → Phase → List Item
due_at t p = take (owed_in p) t.desk

abbrev pub entry_of : Tale → Turn → Entry
entry_of t x = record { session = x.look.line.newest; caller = t.caller }

-- this caller has the line, of whom nothing was read, and for whom nothing was taken
abbrev pub for_caller : Tale → ℕ → Tale
for_caller t caller = record t { caller = caller; read = []; put = []; taken = []; written = []; tried = None }

-- a caller came
abbrev pub with_caller : Tale → Tale
with_caller t = record (for_caller t (t.callers + 1)) { callers = t.callers + 1; beside = t.caller }

-- what the worker did, by what came of its mind's move
abbrev pub done_at : Tale → Phase → Turn → Fact → Tale
done_at t p x facts.Came = record (with_caller t) { away = None }
done_at t p x facts.Dialled = with_caller t
done_at t p x facts.Away = record t { away = Some x.look.moment }
done_at t p x facts.Readied = record t { ready = true }
done_at t p x facts.Unreadied = record t { ready = false }
done_at t p x (facts.Read n) = record t { hand = x.bytes; read = t.read ++ x.bytes }
done_at t p x (facts.Put n) = record t { put = t.put ++ take n (offer_at t p); hand = drop n t.hand; log = entry_of t x ∷ t.log }
done_at t p x (facts.Took n) = record t { desk = x.items; taken = t.taken ++ x.items; log = entry_of t x ∷ t.log }
done_at t p x (facts.Written n) = record t { written = t.written ++ take n (due_at t p); desk = drop n t.desk }
done_at t p x (facts.Connected n) = record t { tried = Some x.look.moment }
done_at t p x facts.Unconnected = record t { tried = Some x.look.moment }
done_at t p x facts.HungUp = for_caller t t.beside
done_at t p x _ = t

abbrev pub drawn_at : Turn → Fact → ℕ
drawn_at x (facts.Connected n) = n
drawn_at x _ = x.drawn

abbrev pub tale_at : Tale → Phase → Turn → Fact → Tale
tale_at t p x f = record (done_at t p x f) { mind = mind_told t.mind x.look f; drawn = drawn_at x f }

abbrev pub tale_next : Tale → Turn → Tale
tale_next t x = tale_at t t.mind.phase x x.fact

abbrev pub tale_of : Tale → List Turn → Tale
tale_of t [] = t
tale_of t (x ∷ xs) = tale_of (tale_next t x) xs

-- a move that is an event of the core
abbrev pub has_event : Move → Bool
has_event moves.Ready = true
has_event moves.Unready = true
has_event moves.Connect = true
has_event moves.Avoid = true
has_event moves.Attend = true
has_event moves.Close = true
has_event moves.Take = true
has_event moves.Put = true
has_event _ = false

-- the fact is of this move
abbrev pub Answers : Move → Fact → Type 0
Answers mv facts.Finished = mv ≡ moves.Finish
Answers mv facts.Came = (mv ≡ moves.Accept) ⊎ (mv ≡ moves.Attach)
Answers mv facts.Quiet = (mv ≡ moves.Accept) ⊎ ((mv ≡ moves.Read) ⊎ (mv ≡ moves.Watch))
Answers mv facts.Dialled = mv ≡ moves.Dial
Answers mv facts.Undialled = mv ≡ moves.Dial
Answers mv facts.Away = mv ≡ moves.Attach
Answers mv facts.Readied = mv ≡ moves.Ready
Answers mv facts.Unreadied = mv ≡ moves.Unready
Answers mv facts.Joined = mv ≡ moves.Join
Answers mv (facts.Connected n) = mv ≡ moves.Connect
Answers mv facts.Unconnected = mv ≡ moves.Connect
Answers mv facts.Avoided = mv ≡ moves.Avoid
Answers mv facts.Lost = mv ≡ moves.Lose
Answers mv facts.Attended = mv ≡ moves.Attend
Answers mv facts.Closed = mv ≡ moves.Close
Answers mv (facts.Took n) = mv ≡ moves.Take
Answers mv (facts.Put n) = mv ≡ moves.Put
Answers mv (facts.Read n) = mv ≡ moves.Read
Answers mv facts.Ended = (mv ≡ moves.Read) ⊎ (mv ≡ moves.Watch)
Answers mv facts.Failed = (mv ≡ moves.Read) ⊎ ((mv ≡ moves.Watch) ⊎ (mv ≡ moves.Write))
Answers mv (facts.Written n) = mv ≡ moves.Write
Answers mv facts.HungUp = mv ≡ moves.HangUp
Answers mv facts.Rested = mv ≡ moves.Rest
Answers mv facts.Lacking = has_event mv ≡ true

-- the counts of the fact are those of what was given, and at most what was offered; a session that is connected gets a number
-- above all that were given before
abbrev pub Counts : Phase → Turn → Fact → Type 0
Counts p x (facts.Read n) = length x.bytes ≡ n
Counts p x (facts.Took n) = length x.items ≡ n
Counts p x (facts.Put n) = n ≤ left_in p
Counts p x (facts.Written n) = n ≤ owed_in p
Counts p x (facts.Connected n) = x.drawn < n
Counts p x _ = Unit {0}

-- a turn that a worker can have
pub record CanBe (t : Tale) (p : Phase) (x : Turn) (f : Fact) : Type 0 where
  pub answers : Answers (next_at t.mind p x.look) f
  pub counts : Counts p x f
  pub drawn : t.drawn ≤ x.drawn
  pub newest : x.look.line.newest ≤ x.drawn

abbrev pub RunOf : Tale → List Turn → Type 0
RunOf t [] = Unit {0}
RunOf t (x ∷ xs) = CanBe t t.mind.phase x x.fact × RunOf (tale_next t x) xs
