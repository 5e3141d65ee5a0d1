-- Notices, as values.
use Rattle.std.specs.Prelude.{ℕ, List}
use Rattle.lat_machines.specs.values.Names.{Name}

pub data Kept : Type 0 where
  Waiting : ℕ → Kept  -- the place, from 1 on
  Granted : Kept
  Cancelled : Kept
  QueueFull : Kept
  NoService : Kept
  RecordsFull : Kept
  Done : Kept

pub data Outcome : Type 0 where
  KeptAs : Kept → Outcome
  Unknown : Outcome

pub data Action : Type 0 where
  Ask : Action
  Cancel : Action

pub record Service : Type 0 where
  pub rating : ℕ
  pub name : Name
  pub description : List ℕ

pub record Announcement : Type 0 where
  pub timer : ℕ
  pub incarnation : ℕ
  pub groups : List ℕ
  pub node : Name
  pub description : List ℕ
  pub services : List Service

pub record Command : Type 0 where
  pub incarnation : ℕ
  pub request : ℕ
  pub action : Action
  pub node : Name
  pub service : Name

pub record Status : Type 0 where
  pub incarnation : ℕ
  pub request : ℕ
  pub outcome : Outcome
  pub node : Name

pub record Solicit : Type 0 where
  pub id : ℕ
  pub asker : Name
  pub service : Name

pub record Response : Type 0 where
  pub id : ℕ
  pub node : Name
  pub service : Name
  pub rating : ℕ
  pub timer : ℕ

pub data Notice : Type 0 where
  AnnouncementNotice : Announcement → Notice
  CommandNotice : Command → Notice
  StatusNotice : Status → Notice
  SolicitNotice : Solicit → Notice
  ResponseNotice : Response → Notice
