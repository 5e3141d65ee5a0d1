-- What is kept of an end of a circuit.
use Rattle.std.specs.Prelude.{◌≡◌, ℕ, ◌+◌, ◌<◌, ◌≤◌, Bool, true, false, Option}
use Rattle.lat_circuit.specs.declared.config.CircuitConfig.{CircuitConfig}
use Rattle.lat_circuit.specs.declared.moments.Moments.{Moments}
use Rattle.lat_seq.specs.declared.span.Span.{Span}
use Rattle.lat_circuit.specs.Links as link
use Rattle.lat_circuit.specs.declared.ids.Ids.{Ids}
use Rattle.lat_circuit.specs.Payloads.{head_size}
use Rattle.lat_session.specs.Table.{Table}
use Rattle.lat_frames.specs.Timings.{IsTiming}

-- what its frames bear beside their numbers
pub record Facts : Type 0 where
  pub config : CircuitConfig
  pub id : ℕ
  pub master : Bool
  pub peer : ℕ
  pub wide : Bool

pub record Kept : Type 0 where
  pub facts : Facts
  pub running : Bool
  pub heard_run : Bool
  pub owed : Bool
  pub ended : Option ℕ
  pub rounds : ℕ
  pub room : ℕ
  pub window : ℕ
  pub timer : ℕ
  pub keepalive : ℕ
  pub moments : Moments
  pub link : link.Kept
  pub sessions : Table

-- no moment is later than the latest one given
pub record InTime (m : Moments) : Type 0 where
  pub due_at : m.due_at ≤ m.now
  pub heard_at : m.heard_at ≤ m.now
  pub sent_at : m.sent_at ≤ m.now
  pub since : m.since ≤ m.now
  pub start_at : m.start_at ≤ m.now
  pub empty_at : m.empty_at ≤ m.now

-- what holds of every circuit
pub record Holds (rounds room : ℕ) (span : Span) (m : Moments) : Type 0 where
  pub few_rounds : rounds ≤ 8
  pub head_and_room : head_size span + room ≤ 1500
  pub in_time : InTime m

-- what a circuit knows of both ends: the peer's id once it runs, and none before
pub record Knows (config : CircuitConfig) (ids : Ids) (running : Bool) : Type 0 where
  pub timing : IsTiming config.timing
  pub own : 0 < ids.from
  pub peer : running ≡ true → 0 < ids.to
  pub calls : running ≡ false → (ids.master ≡ true) × (ids.to ≡ 0)
