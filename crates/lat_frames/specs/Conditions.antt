-- What the fields of circuit messages must be.
use Rattle.std.specs.Prelude.{◌≡◌, ℕ, ◌<◌, ◌≤◌, Bool, true, false, length}
use Rattle.std.specs.List.{AllByRecursion}
use Rattle.lat_base.specs.Names.{IsName}
use Rattle.lat_fields.specs.Params.{IsEntry}
use Rattle.lat_frames.specs.declared.message.StartInfo.{StartInfo}

-- The master's START calls and names no circuit at the other end yet; the reply does.
abbrev pub DestinationFits : Bool → ℕ → Type 0
DestinationFits true to = to ≡ 0
DestinationFits false to = 0 < to

-- The master sets the timer, in 10 ms, and the keep-alive, in seconds.
abbrev pub TimesFit : Bool → ℕ → ℕ → Type 0
TimesFit true timer keepalive = (0 < timer) × (timer ≤ 100) × (0 < keepalive)
TimesFit false timer keepalive = Unit {0}

pub record InfoFits (master : Bool) (info : StartInfo) : Type 0 where
  pub least : 576 ≤ info.size
  pub most : info.size ≤ 1518
  pub sessions : 0 < info.sessions
  pub times : TimesFit master info.timer info.keepalive
  pub slave : IsName info.slave
  pub name : IsName info.name
  pub location : length info.location < 256
  pub params : AllByRecursion IsEntry info.params
