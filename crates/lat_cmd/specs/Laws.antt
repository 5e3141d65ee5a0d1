-- What holds of what is printed of schedules, and of the world that is handed back.
use Rattle.std.specs.Prelude.{◌≡◌, ◌≢◌, ◌⊎◌, ◌≤◌, ℕ, List, length, Option, Some, Ok, IfSome, codes}
use Rattle.std.specs.Io.KnownBytes.{Appends}
use Rattle.lat_machines.specs.world.Machines.{Machines}
use Rattle.lat_machines.specs.world.Reports.{report}
use Rattle.lat_machines.specs.world.Safe.{Safe}
use Rattle.lat_captures.specs.Audit.{IsLegal}
use Rattle.lat_audit.specs.AuditOf.{verdict_text}
use Rattle.lat_laws.specs.rounds.Lossless.{Lossless}
use Rattle.lat_laws.specs.rounds.Settles.{Enough, Settled}
use Rattle.lat_schedule.specs.ScheduleText.{schedule_of}
use Rattle.lat_schedule.specs.declared.schedule.Schedule.{Schedule}
use Rattle.lat_settle.specs.Laws.{IsCalm}
use Rattle.lat_replay.specs.Kept.{Kept, setups_of}
use Rattle.lat_replay.specs.Stands.{Stands}
use Rattle.lat_replay.specs.Promises.{Promises}
use Rattle.lat_cmd.specs.declared.command.Command.{Command}
use Rattle.lat_cmd.specs.declared.command.Command.TheVariants.{Capture, Settle, Audit, Gen}
use Rattle.lat_cmd.specs.Answers.{Ended, plain, replay_of, capture_of, settle_of, gen_of, answer_of}
use Rattle.lat_cmd.specs.generate.Reread.{IsReplayed}

-- the line `none`; or a capture: where it is within the limit of an input, `audit` answers `legal` to it, with its RUNs
abbrev pub IsLegalText : List ℕ → Type 0
IsLegalText text =
    (text ≡ codes "none\n")
    ⊎ ((runs : ℕ) × (length text ≤ 16777216 → answer_of Audit text ≡ plain (0, verdict_text (IsLegal runs))))

-- what is printed of circuit p behind the schedule that an input is
abbrev pub CaptureIsLegal : (p : ℕ) → List ℕ → Type 0
CaptureIsLegal p input = (capture_of p input).status ≡ 0 → IsLegalText (capture_of p input).text

-- What so many rounds bring where nothing was lost: none is refused but for the number of frames; and where they are enough by
-- the report behind them, each open session has taken all that the other end put
pub record RoundsBring (count : ℕ) (input : List ℕ) (status : ℕ) : Type 0 where
  pub passes : status ≢ 3
  pub all :
      status ≡ 0 →
      (behind : Ended) →
      (settle_of count input).world ≡ Some behind →
      Enough count (report behind.setups behind.state.machines) →
      Settled behind.setups behind.state.machines

-- the schedule that an input is, if it is one: neither end is prompt, and nobody is halted
abbrev pub SaysCalm : List ℕ → Type 0
SaysCalm input = (s : Schedule) → schedule_of input ≡ Ok s → IsCalm s.setup s.events

-- they do so behind the schedule that an input is, if it is calm and lost nothing
abbrev pub SettleTakesAll : (count : ℕ) → List ℕ → (status : ℕ) → Type 0
SettleTakesAll count input status =
    SaysCalm input →
    (before : Ended) →
    (replay_of input).world ≡ Some before →
    Lossless before.setups before.state.machines →
    RoundsBring count input status

-- what holds of the answer to an input
abbrev pub IsLawful : Command → List ℕ → Type 0
IsLawful (Capture p) input = CaptureIsLegal p input
IsLawful (Settle count) input = SettleTakesAll count input (settle_of count input).status
IsLawful (Gen seed) input = IsReplayed seed (gen_of seed).text
IsLawful command input = Unit {0}

-- What holds of a run with this status: what it wrote of a circuit is legal; its rounds brought all that was put behind the
-- schedule that the source had left, where that is known; and `replay` leads the schedule that it generated to its world
abbrev pub ObeysLaw : Command → (left : Option (List ℕ)) → (status : ℕ) → (before now : Option (List ℕ)) → Type 0
ObeysLaw (Capture p) left status before now = status ≡ 0 → (text : List ℕ) × Appends before now text × IsLegalText text
ObeysLaw (Settle count) left status before now = IfSome left (λ input. SettleTakesAll count input status)
ObeysLaw (Gen seed) left status before now = status ≡ 0 → (text : List ℕ) × Appends before now text × IsReplayed seed text
ObeysLaw command left status before now = Unit {0}

-- A world stands for two machines; and all that it stands for keep what both ends are promised, and all laws of the machines
pub record KeepsPromises {H : Type 0} (k : Kept H) : Type 0 where
  pub machines : Machines
  pub stands : Stands k machines
  pub promises : (w : Machines) → Stands k w → Promises (setups_of k) w
  pub safe : (w : Machines) → Stands k w → Safe (setups_of k) w
