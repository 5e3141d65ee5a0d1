-- Circuit messages, as values.
use Rattle.std.specs.Prelude.{ℕ, Bool, List}
use Rattle.lat_model.specs.sessions.Slots.{Slot}
use Rattle.lat_machines.specs.values.Names.{Name}

pub record Param : Type 0 where
  pub code : ℕ
  pub bytes : List ℕ

pub record Head : Type 0 where
  pub master : Bool
  pub ask : Bool
  pub to : ℕ
  pub from : ℕ
  pub seq : ℕ  -- the number fields as they stand in the frame
  pub ack : ℕ

pub record StartInfo : Type 0 where
  pub size : ℕ
  pub eco : ℕ
  pub sessions : ℕ
  pub extra : ℕ
  pub timer : ℕ
  pub keepalive : ℕ
  pub facility : ℕ
  pub product : ℕ
  pub product_version : ℕ
  pub slave : Name
  pub name : Name
  pub location : List ℕ
  pub params : List Param

pub data Message : Type 0 where
  RunMessage : Head → List Slot → Message
  WideMessage : Head → List Slot → Message
  StartMessage : (master ask : Bool) (to from : ℕ) → StartInfo → Message
  StopMessage : (master ask : Bool) (to from reason : ℕ) (text : List ℕ) → Message
