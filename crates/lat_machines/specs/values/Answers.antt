-- What a core answers.
use Rattle.std.specs.Prelude.{ℕ, List}
use Rattle.lat_model.specs.sessions.Slots.{Item}
use Rattle.lat_machines.specs.values.Notices.{Kept}

pub data Heard : Type 0 where
  Running : Heard
  Taken : ℕ → Heard
  Again : Heard
  AckOnly : Heard
  Foreign : Heard
  Broke : ℕ → Heard
  Ended : ℕ → Heard

pub data Answer : Type 0 where
  Circuit : Heard → Answer
  Started : ℕ → Answer
  StartRefused : Answer
  Announced : Answer
  DirectoryFull : Answer
  KeptIs : Kept → Answer
  NotKept : Answer
  Noted : Answer
  Apart : Answer
  Solicited : Answer
  Ignored : Answer
  Bad : (field at : ℕ) → Answer
  Done : Answer
  Connected : (circuit session : ℕ) → Answer
  Accepted : ℕ → Answer
  Took : List Item → Answer
  NoLine : Answer
  Busy : Answer
  NoService : Answer
  SessionsFull : Answer
  CircuitsFull : Answer
  IdsOut : Answer
  Closed : Answer
  Full : Answer
  IdUsed : Answer
  NotHere : Answer
  Halted : Answer
