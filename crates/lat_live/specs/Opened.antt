-- What a daemon asks its opener for, and what it tells of what couldn't be opened.
use Rattle.std.specs.Prelude.{◌≡◌, ℕ, ◌+◌, List, ◌++◌, map, take, slice_get, Option, Some}
use Rattle.lat_outside.specs.Causes.{Rose}
use Rattle.lat_outside.specs.Openings.{OpeningsView}
use Rattle.lat_outside.specs.Visits.{VisitsView, no_visits}
use Rattle.lat_live.specs.declared.opening.PortOf.TheVariants as ports
use Rattle.lat_live.specs.declared.opening.StartFault.{StartFault}
use Rattle.lat_live.specs.declared.opening.StartFault.TheVariants as faults
use Rattle.lat_live.specs.declared.plan.LinePlan.{LinePlan}

-- where lines listen, if they do
abbrev pub ports_of : List LinePlan → List (Option ℕ)
ports_of lines = map (λ (l : LinePlan). l.port) lines

-- these lines were asked for, in order, each with its port or with none
abbrev pub with_lines : List LinePlan → OpeningsView → OpeningsView
with_lines lines asked = record asked { lines = asked.lines ++ ports_of lines }

-- a line that nobody has come to yet
abbrev pub IsNew : VisitsView → Type 0
IsNew vs = (port : Option ℕ) × (vs ≡ no_visits port)

-- the carrier, whose frames come to this port, couldn't be opened
abbrev pub CarrierRefused : ℕ → StartFault → Type 0
CarrierRefused port (faults.Refused r) = (r.of ≡ ports.Carrier) × (r.port ≡ port)
CarrierRefused port faults.Memory = ⊥

-- the line of this number couldn't be opened at its port
abbrev pub IsRefusedAt : ℕ → Option ℕ → StartFault → Type 0
IsRefusedAt line port (faults.Refused r) = (r.of ≡ ports.Line line) × (port ≡ Some r.port)
IsRefusedAt line port faults.Memory = ⊥

-- One of these lines couldn't be opened: it is told with its number and its port, those before it were asked for, and none behind it
abbrev pub LineRefused : List LinePlan → OpeningsView → OpeningsView → StartFault → Type 0
LineRefused lines old new (faults.Refused r) =
    (k : ℕ) × (slice_get (ports_of lines) k ≡ Some (Some r.port)) × (r.of ≡ ports.Line (k + 1)) × (new ≡ with_lines (take (k + 1) lines) old)
LineRefused lines old new faults.Memory = Unit {0}

-- what couldn't be opened is told only where the opener's count of faults rose
abbrev pub RoseIfRefused : ℕ → ℕ → StartFault → Type 0
RoseIfRefused before now (faults.Refused r) = Rose before now
RoseIfRefused before now faults.Memory = Unit {0}
