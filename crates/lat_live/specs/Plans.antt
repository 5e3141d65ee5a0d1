-- What a daemon of its words is to do.
use Rattle.std.specs.Prelude.{◌≡◌, ◌≢◌, ◌≤◌, ℕ, length, Option, Some, None}
use Rattle.lat_outside.specs.Openings.{OpeningsView}
use Rattle.lat_words.specs.declared.config.Role.{Role}
use Rattle.lat_words.specs.declared.config.Role.TheVariants as roles
use Rattle.lat_words.specs.declared.settings.Settings.{Settings}
use Rattle.lat_live.specs.Asked.{PlanRefused, asked_by}
use Rattle.lat_live.specs.Lines.{devices_of, lines_of, stay_of}
use Rattle.lat_live.specs.declared.opening.Refused.{Refused}
use Rattle.lat_live.specs.declared.opening.StartFault.TheVariants as faults
use Rattle.lat_live.specs.declared.plan.Plan.{Plan}
use Rattle.lat_live.specs.Openings.{first_at}

-- a server and a switch have the one, a node with a tariff or without has the other
abbrev pub by_role : {A : Type 0} → Role → A → A → A
by_role roles.Server server node = server
by_role roles.Switch server node = server
by_role roles.Node server node = node
by_role roles.Tariff server node = node

-- The lines connect their callers, offer a service, or wait for sessions, as the words say of each; a node announces its services at
-- the start and again and again. It ends after so many sessions that were live, if a number is said; waits so long then, at most, until
-- its core is drained; keeps so many entries of its history; and draws the id of its first circuit from the time of its start
pub record IsPlanOf (s : Settings) (tenths : ℕ) (plan : Plan) : Type 0 where
  pub role : plan.role ≡ s.role
  pub name : plan.name ≡ s.station.name
  pub own : plan.own ≡ s.station.address
  pub port : plan.port ≡ s.station.port
  pub peers : plan.peers.now ≡ s.station.peers.items
  pub lines : plan.lines.now ≡ lines_of s.role s.seats
  pub devices : plan.devices.now ≡ devices_of s.seats.services.items
  pub stay : plan.stay ≡ stay_of s.stay.once
  pub announce : plan.course.announce ≡ by_role s.role None (Some s.pace.announce)
  pub sessions : plan.course.sessions ≡ s.stay.sessions
  pub linger : plan.course.linger ≡ s.stay.linger
  pub timer : plan.course.timer ≡ s.pace.timer
  pub kept : plan.kept ≡ s.history
  pub level : plan.level ≡ s.log
  pub first : plan.first ≡ first_at tenths

-- a daemon has 1 to 64 lines, and keeps at most 1,000,000 entries
pub record IsPlan (plan : Plan) : Type 0 where
  pub some : 1 ≤ length plan.lines.now
  pub most : length plan.lines.now ≤ 64
  pub kept : plan.kept ≤ 1000000

-- what the opener was asked for is the plan of these words: the carrier, and then each line
abbrev pub AskedBy : Settings → ℕ → OpeningsView → OpeningsView → Type 0
AskedBy s tenths old new = (plan : Plan) × IsPlanOf s tenths plan × (new ≡ asked_by plan old)

-- the same up to the port that was refused, which is told exactly at status 4
abbrev pub RefusedBy : Settings → ℕ → OpeningsView → OpeningsView → ℕ → Option Refused → Type 0
RefusedBy s tenths old new status (Some r) =
    (status ≡ 4) × ((plan : Plan) × IsPlanOf s tenths plan × PlanRefused plan old new (faults.Refused r))
RefusedBy s tenths old new status None = status ≢ 4
