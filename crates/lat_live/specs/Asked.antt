-- What a daemon of a plan asks its opener for.
use Rattle.std.specs.Prelude.{◌≡◌, ◌≢◌, ◌⊎◌, ℕ, Option, Some, None}
use Rattle.lat_outside.specs.Openings.{OpeningsView, with_carrier}
use Rattle.lat_live.specs.Opened.{CarrierRefused, LineRefused, with_lines}
use Rattle.lat_live.specs.declared.opening.Refused.{Refused}
use Rattle.lat_live.specs.declared.opening.StartFault.{StartFault}
use Rattle.lat_live.specs.declared.opening.StartFault.TheVariants as faults
use Rattle.lat_live.specs.declared.plan.Plan.{Plan}

-- the plan's carrier: its address, its port, and all its peers
abbrev pub carrier_of : Plan → OpeningsView → OpeningsView
carrier_of plan asked = with_carrier asked plan.own plan.port plan.peers.now

-- the carrier, and then all lines by rising number: each that listens at its port, and the others to dial
abbrev pub asked_by : Plan → OpeningsView → OpeningsView
asked_by plan asked = with_lines plan.lines.now (carrier_of plan asked)

-- What was refused is the plan's carrier, and nothing else was asked for; or one of its lines, behind those before it
abbrev pub PlanRefused : Plan → OpeningsView → OpeningsView → StartFault → Type 0
PlanRefused plan old new fault =
    (CarrierRefused plan.port fault × (new ≡ carrier_of plan old))
    ⊎ LineRefused plan.lines.now (carrier_of plan old) new fault

-- a port that was refused is told exactly at status 4
abbrev pub IsRefused : Plan → OpeningsView → OpeningsView → ℕ → Option Refused → Type 0
IsRefused plan old new status (Some r) = (status ≡ 4) × PlanRefused plan old new (faults.Refused r)
IsRefused plan old new status None = status ≢ 4
