-- The text of a generated schedule, read and played again.
use Rattle.std.specs.Prelude.{◌≡◌, ℕ, List, length, Ok}
use Rattle.lat_schedule.specs.declared.schedule.Schedule.{Schedule}
use Rattle.lat_schedule.specs.ScheduleText.{schedule_of}
use Rattle.lat_replay.specs.Played.{open_state, Through, played}
use Rattle.lat_cmd.specs.declared.command.Command.TheVariants.{Replay}
use Rattle.lat_cmd.specs.Answers.{Tale, reported, answered_behind, answer_of}
use Rattle.lat_cmd.specs.generate.Front.{setup}
use Rattle.lat_cmd.specs.generate.Grown.{setups, grown, gen_text}

-- `replay` answers to this text: 0, the report of the world that `gen` and `bench` make of this number, and that world
abbrev pub IsReplayed : (seed : ℕ) → List ℕ → Type 0
IsReplayed seed text = answer_of Replay text ≡ reported setups (grown seed).state

-- The text is a schedule of as many events as were written. None of them is refused, and they lead to the world that was made with
-- the text; so what a command tells behind it is told of that world, and `replay` answers its report, with the world
pub record Rereads (seed : ℕ) : Type 0 where
  pub schedule : Schedule
  pub is : schedule_of (gen_text seed) ≡ Ok schedule
  pub setup : schedule.setup ≡ setup
  pub events : length schedule.events ≡ (grown seed).events
  pub leads : played setups (open_state setups) schedule.events ≡ Through (grown seed).state
  pub told : (tale : Tale) → answered_behind tale (gen_text seed) ≡ tale setups (grown seed).state
  pub replayed : IsReplayed seed (gen_text seed)

abbrev pub GeneratedReread : Type 0
GeneratedReread = (seed : ℕ) → Rereads seed
