-- What a line's worker does outside the lock.
use Rattle.std.specs.Prelude.{◌≡◌, ℕ, ◌<◌, ◌≤◌, List, [], length, take, Option, Some, None, Result, Ok, Err, IfOk}
use Rattle.lat_base.specs.declared.item.Item.{Item}
use Rattle.lat_mind.specs.declared.fact.Fact.{Fact}
use Rattle.lat_mind.specs.declared.fact.Fact.TheVariants as facts
use Rattle.lat_mind.specs.declared.fact.Move.{Move}
use Rattle.lat_mind.specs.declared.fact.Move.TheVariants as moves
use Rattle.lat_mind.specs.declared.look.Look.{Look}
use Rattle.lat_outside.specs.declared.callers.CallerGot.{CallerGot}
use Rattle.lat_outside.specs.declared.callers.CallerGot.TheVariants as gots
use Rattle.lat_outside.specs.declared.callers.Knock.{Knock}
use Rattle.lat_outside.specs.declared.callers.Knock.TheVariants as knocks
use Rattle.lat_outside.specs.declared.callers.Presence.{Presence}
use Rattle.lat_outside.specs.declared.callers.Presence.TheVariants as presences
use Rattle.lat_outside.specs.declared.outside.Failed.{Failed}
use Rattle.lat_outside.specs.Visits.{GivesAs, MayAccept, MayAnswer, StaysAs, VisitsView, accepted, dialled_at, hung_up, read_by, watched_by, with_present}
use Rattle.lat_turns.specs.Lives.{DeskView, behind, due_of, turn_of, with_turn}
use Rattle.lat_turns.specs.Written.{IsWhole, wrote_by}

-- what is told of an accept
abbrev pub knocked : Result Knock Failed → Fact
knocked (Ok knocks.Came) = facts.Came
knocked (Ok knocks.Quiet) = facts.Quiet
knocked (Err e) = facts.Quiet

-- of a dial for a session, and of one of the line's device: `None` where there is no port to be dialled
abbrev pub dialled : Option (Result Unit Failed) → Fact
dialled (Some (Ok u)) = facts.Dialled
dialled (Some (Err e)) = facts.Undialled
dialled None = facts.Undialled

abbrev pub attached : Option (Result Unit Failed) → Fact
attached (Some (Ok u)) = facts.Came
attached (Some (Err e)) = facts.Away
attached None = facts.Away

-- of a read
abbrev pub got_of : Result CallerGot Failed → Fact
got_of (Ok (gots.Bytes n)) = facts.Read n
got_of (Ok gots.Quiet) = facts.Quiet
got_of (Ok gots.Ended) = facts.Ended
got_of (Err e) = facts.Failed

-- of the bytes at hand behind a read, those that it gave
abbrev pub bytes_got : Result CallerGot Failed → List ℕ → List ℕ
bytes_got (Ok (gots.Bytes n)) hand = hand
bytes_got _ hand = []

-- these are the bytes that a read gave
abbrev pub GaveBytes : Result CallerGot Failed → List ℕ → Type 0
GaveBytes (Ok (gots.Bytes n)) bytes = (length bytes ≡ n) × (0 < n) × (n ≤ 1024)
GaveBytes _ bytes = bytes ≡ []

-- of a watch
abbrev pub watched : Result Presence Failed → Fact
watched (Ok presences.Stays) = facts.Quiet
watched (Ok presences.Leaves) = facts.Ended
watched (Err e) = facts.Failed

-- of a write
abbrev pub wrote_fact : Result ℕ Failed → Fact
wrote_fact (Ok n) = facts.Written n
wrote_fact (Err e) = facts.Failed

-- behind a dial, where a port is dialled
abbrev pub dialled_if : VisitsView → Option ℕ → Option (Result Unit Failed) → VisitsView → Type 0
dialled_if vs (Some port) (Some r) vs' = vs' ≡ dialled_at vs port r
dialled_if vs None None vs' = vs' ≡ vs
dialled_if vs _ _ vs' = ⊥

-- whoever knocks is taken
pub record Accepts (see : Look) (d d' : DeskView) (vs vs' : VisitsView) : Type 0 where
  pub result : Result Knock Failed
  pub may : MayAccept vs result
  pub visits : vs' ≡ accepted vs result
  pub told : d' ≡ behind d see (knocked result)

-- this port is dialled, and that is told so
pub record Dials (told_of : Option (Result Unit Failed) → Fact) (port : Option ℕ) (see : Look) (d d' : DeskView) (vs vs' : VisitsView) : Type 0 where
  pub result : Option (Result Unit Failed)
  pub visits : dialled_if vs port result vs'
  pub told : d' ≡ behind d see (told_of result)

-- the bytes that the caller gave are those of the turn, each once, in order
pub record Reads (see : Look) (d d' : DeskView) (vs vs' : VisitsView) : Type 0 where
  pub result : Result CallerGot Failed
  pub bytes : List ℕ
  pub gave : GaveBytes result bytes
  pub may : MayAnswer GivesAs vs result
  pub visits : vs' ≡ with_present vs (read_by result bytes)
  pub told : d' ≡ with_turn d (turn_of d see (got_of result) bytes [])

-- the first 1,024 items that are owed
abbrev pub piece_of : DeskView → List Item
piece_of d = take 1024 (due_of d)

-- of the items that are owed the first so many are told, and their bytes were written
pub record Writes (see : Look) (d d' : DeskView) (vs vs' : VisitsView) : Type 0 where
  pub result : Result ℕ Failed
  pub within : IfOk result (λ n. n ≤ length (piece_of d))
  pub whole : IfOk result (λ n. IsWhole n (piece_of d))
  pub visits : vs' ≡ with_present vs (wrote_by result (piece_of d))
  pub told : d' ≡ behind d see (wrote_fact result)

pub record Watches (see : Look) (d d' : DeskView) (vs vs' : VisitsView) : Type 0 where
  pub result : Result Presence Failed
  pub may : MayAnswer StaysAs vs result
  pub visits : vs' ≡ with_present vs (watched_by result)
  pub told : d' ≡ behind d see (watched result)

-- the caller is hung up
pub record HangsUp (see : Look) (d d' : DeskView) (vs vs' : VisitsView) : Type 0 where
  pub visits : vs' ≡ hung_up vs
  pub told : d' ≡ behind d see facts.HungUp

-- nothing is done, and this is told
pub record IsTold (fact : Fact) (see : Look) (d d' : DeskView) (vs vs' : VisitsView) : Type 0 where
  pub visits : vs' ≡ vs
  pub told : d' ≡ behind d see fact

-- What is done of a move without an event, and what is told of it
abbrev pub Acted : Move → Look → Option ℕ → DeskView → DeskView → VisitsView → VisitsView → Type 0
Acted moves.Accept see port d d' vs vs' = Accepts see d d' vs vs'
Acted moves.Dial see port d d' vs vs' = Dials dialled port see d d' vs vs'
Acted moves.Attach see port d d' vs vs' = Dials attached port see d d' vs vs'
Acted moves.Read see port d d' vs vs' = Reads see d d' vs vs'
Acted moves.Write see port d d' vs vs' = Writes see d d' vs vs'
Acted moves.Watch see port d d' vs vs' = Watches see d d' vs vs'
Acted moves.HangUp see port d d' vs vs' = HangsUp see d d' vs vs'
Acted moves.Join see port d d' vs vs' = IsTold facts.Joined see d d' vs vs'
Acted moves.Lose see port d d' vs vs' = IsTold facts.Lost see d d' vs vs'
Acted moves.Rest see port d d' vs vs' = IsTold facts.Rested see d d' vs vs'
Acted moves.Finish see port d d' vs vs' = IsTold facts.Finished see d d' vs vs'
Acted _ see port d d' vs vs' = ⊥
