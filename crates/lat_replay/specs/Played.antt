-- Where the events of a schedule lead.
use Rattle.std.specs.Prelude.{◌≡◌, ℕ, suc, List, [], ◌∷◌, Option, Some, None, Result, Ok, Err, take}
use Rattle.lat_machines.specs.world.Machines.{Setups, Machines, happens, open_machines}
use Rattle.lat_schedule.specs.declared.event.WorldEvent.{WorldEvent}
use Rattle.lat_wire.specs.declared.fault.EventFault.{EventFault}
use Rattle.lat_wire.specs.declared.fault.EventFault.TheVariants.{Memory}
use Rattle.lat_replay.specs.declared.play.Stopped as declared
use Rattle.lat_replay.specs.Kept.{Kept, moment_of}
use Rattle.lat_replay.specs.Stands.{Stands}
use Rattle.lat_replay.specs.Moves.{move_of, moment_behind, refusal_of}

-- the two machines, and the moment of the schedule
pub record State : Type 0 where
  pub machines : Machines
  pub moment : ℕ

abbrev pub open_state : Setups → State
open_state u = record { machines = open_machines u; moment = 0 }

-- behind an event
abbrev pub next : Setups → State → WorldEvent → State
next u s e = record { machines = happens u s.machines (move_of u s.machines s.moment e); moment = moment_behind s.moment e }

abbrev pub refusal : Setups → State → WorldEvent → Option EventFault
refusal u s e = refusal_of u s.machines s.moment e

-- to the state behind all of them; or up to the first one that is refused, with its index, why, and the state before it
pub data Played : Type 0 where
  Through : State → Played
  Refused : (index : ℕ) → EventFault → State → Played

-- the event of this index is refused, or the others follow
abbrev pub unless : Option EventFault → ℕ → State → Played → Played
unless None index s others = others
unless (Some fault) index s others = Refused index fault s

abbrev pub played_from : Setups → ℕ → State → List WorldEvent → Played
played_from u index s [] = Through s
played_from u index s (e ∷ es) = unless (refusal u s e) index s (played_from u (suc index) (next u s e) es)

abbrev pub played : Setups → State → List WorldEvent → Played
played u s es = played_from u 0 s es

-- a world stands for the machines at this moment
pub record StandsAt {H : Type 0} (k : Kept H) (s : State) : Type 0 where
  pub machines : Stands k s.machines
  pub moment : moment_of k ≡ s.moment

-- Why events were played no further than to this state: the event of this index is the first that is refused; or memory
-- wanted at it, and all before it were played
abbrev pub StopsBy : Setups → State → List WorldEvent → ℕ → EventFault → State → Type 0
StopsBy u s es index Memory t = played u s (take index es) ≡ Through t
StopsBy u s es index fault t = played u s es ≡ Refused index fault t

-- A call played these events: all of them, or up to the first one that was refused. The world stands for what it came to
abbrev pub PlaysAs : {A H : Type 0} → Setups → State → List WorldEvent → Result A declared.Stopped → Kept H → Type 0
PlaysAs u s es (Ok done) k = (t : State) × (played u s es ≡ Through t) × StandsAt k t
PlaysAs u s es (Err stopped) k = (t : State) × StopsBy u s es stopped.index stopped.fault t × StandsAt k t
