-- Where a schedule leads.
use Rattle.std.specs.Prelude.{◌≡◌, ℕ, ◌<◌, ◌≤◌, ◌^◌, None}
use Rattle.lat_machines.specs.world.Machines.{Setups}
use Rattle.lat_laws.specs.rounds.Lossless.{Lossless}
use Rattle.lat_settle.specs.Laws.{BeginsAt}
use Rattle.lat_settle.specs.Rounds.{rounds_moment}
use Rattle.lat_replay.specs.Kept.{setups_of}
use Rattle.lat_replay.specs.Played.{State, StandsAt}
use Rattle.lat_cmd.specs.declared.course.Course.{Course}
use Rattle.lat_cmd.specs.declared.course.Course.TheVariants.{Through, Stopped}
use Rattle.lat_cmd.specs.Answers.{Answer, Tale}
use Rattle.lat_cmd.specs.Outcomes.{IsOutcome}

-- what a schedule leaves to rounds behind it: moments for all of them; and where it is calm and lost nothing, they may begin
pub record Leaves (calm : Type 0) (u : Setups) (t : State) : Type 0 where
  pub room : (count : ℕ) → count ≤ 100000 → rounds_moment u t.moment count < 2 ^ 64
  pub begins : calm → Lossless u t.machines → BeginsAt u t

-- The world stands for the two machines that every tale is told of; or the outcome is the answer, whatever the tale
abbrev pub Runs : {H : Type 0} → (calm : Type 0) → (Tale → Answer) → Course H → Type 0
Runs calm answer (Through k) = (t : State) × StandsAt k t × Leaves calm (setups_of k) t × ((tale : Tale) → answer tale ≡ tale (setups_of k) t)
Runs calm answer (Stopped o) = (o.world ≡ None) × ((tale : Tale) → IsOutcome (answer tale) o)
