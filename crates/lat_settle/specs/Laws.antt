-- What rounds bring where nothing was lost.
use Rattle.std.specs.Prelude.{◌≡◌, ℕ, ◌<◌, ◌≤◌, ◌^◌, ◌⊎◌, false, List, length}
use Rattle.lat_base.specs.declared.event.Event.TheVariants.{Halt}
use Rattle.lat_machines.specs.world.Machines.{Setups}
use Rattle.lat_machines.specs.world.Reports.{report}
use Rattle.lat_model.specs.Lists.{Each}
use Rattle.lat_replay.specs.Kept.{Kept}
use Rattle.lat_replay.specs.Played.{State, Through, open_state, played, StandsAt}
use Rattle.lat_replay.specs.Setups.{setups_shown}
use Rattle.lat_laws.specs.rounds.Lossless.{Lossless}
use Rattle.lat_laws.specs.rounds.Rounds.{rounds, Whole}
use Rattle.lat_laws.specs.rounds.Settles.{Begins, Enough, Settled}
use Rattle.lat_schedule.specs.Events.{IsEvent}
use Rattle.lat_schedule.specs.Setups.{IsSetup}
use Rattle.lat_schedule.specs.declared.event.WorldEvent.{WorldEvent}
use Rattle.lat_schedule.specs.declared.event.WorldEvent.TheVariants.{Local}
use Rattle.lat_schedule.specs.declared.setup.Setup.{Setup}
use Rattle.lat_wire.specs.declared.fault.EventFault.{EventFault}
use Rattle.lat_wire.specs.declared.fault.EventFault.TheVariants.{FramesFull, Memory}
use Rattle.lat_settle.specs.Rounds.{settled, rounds_moment}

-- rounds may begin at this state: nothing was lost before
abbrev pub BeginsAt : Setups → State → Type 0
BeginsAt u s = Begins u s.moment s.machines

-- A world stands for the state behind so many rounds; if they are enough, all that was put is taken there; and more rounds may
-- begin there, for nothing was lost in these
pub record Settles {H : Type 0} (u : Setups) (s : State) (rounds : ℕ) (k : Kept H) : Type 0 where
  pub state : State
  pub is : settled u s rounds ≡ Through state
  pub stands : StandsAt k state
  pub all : Enough rounds (report u state.machines) → Settled u state.machines
  pub again : BeginsAt u state

abbrev pub IsFullOrMemory : EventFault → Type 0
IsFullOrMemory fault = (fault ≡ FramesFull) ⊎ (fault ≡ Memory)

-- a state is behind so many whole rounds, as the laws of rounds have them
pub record Led (u : Setups) (s : State) (n : ℕ) (t : State) : Type 0 where
  pub ratings : List (List (List ℕ))
  pub count : length ratings ≡ n
  pub whole : Whole u s.moment ratings s.machines
  pub machines : t.machines ≡ rounds u s.moment ratings s.machines
  pub moment : t.moment ≡ rounds_moment u s.moment n

-- what rounds come to is behind whole rounds
abbrev pub SettledIsLed : Type 0
SettledIsLed = (u : Setups) (s : State) (n : ℕ) (t : State) → settled u s n ≡ Through t → Led u s n t

-- where nothing was lost, enough of them settle all, and an event is refused for the number of frames alone
abbrev pub EnoughSettle : Type 0
EnoughSettle =
    (u : Setups) (s : State) (n : ℕ) (t : State) →
    BeginsAt u s →
    settled u s n ≡ Through t →
    Enough n (report u t.machines) →
    Settled u t.machines

-- an event that halts nobody
abbrev pub HaltsNobody : WorldEvent → Type 0
HaltsNobody (Local server Halt) = ⊥
HaltsNobody event = Unit {0}

-- neither end is prompt, and nobody is halted
pub record IsCalm (setup : Setup) (es : List WorldEvent) : Type 0 where
  pub server : setup.server.prompt ≡ false
  pub node : setup.node.prompt ≡ false
  pub events : Each HaltsNobody es

-- a calm schedule that loses nothing leads to a state at which rounds may begin
abbrev pub SchedulesBegin : Type 0
SchedulesBegin =
    (setup : Setup) (es : List WorldEvent) (t : State) →
    IsSetup setup →
    IsCalm setup es →
    Each (IsEvent setup.server.own) es →
    played (setups_shown setup) (open_state (setups_shown setup)) es ≡ Through t →
    Lossless (setups_shown setup) t.machines →
    BeginsAt (setups_shown setup) t

-- and its moment leaves room for 100,000 rounds
abbrev pub SchedulesLeaveRoom : Type 0
SchedulesLeaveRoom =
    (setup : Setup) (es : List WorldEvent) (t : State) →
    IsSetup setup →
    Each (IsEvent setup.server.own) es →
    played (setups_shown setup) (open_state (setups_shown setup)) es ≡ Through t →
    (rounds : ℕ) →
    rounds ≤ 100000 →
    rounds_moment (setups_shown setup) t.moment rounds < 2 ^ 64
