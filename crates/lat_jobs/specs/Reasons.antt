-- Why a move is made: what holds wherever a mind makes it.
use Rattle.std.specs.Prelude.{◌≡◌, ℕ, ◌<◌, ◌&&◌, ◌||◌, ◌⊎◌, Bool, true, false, not}
use Rattle.lat_mind.specs.Looks.{is_answered, is_free, is_live}
use Rattle.lat_jobs.specs.declared.fact.Move.{Move}
use Rattle.lat_jobs.specs.declared.fact.Move.TheVariants as moves
use Rattle.lat_jobs.specs.declared.look.Look.{Look}
use Rattle.lat_jobs.specs.declared.phase.Pause.{Pause}
use Rattle.lat_jobs.specs.declared.phase.Ask.{Ask}
use Rattle.lat_jobs.specs.declared.phase.Print.{Print}
use Rattle.lat_jobs.specs.declared.phase.Phase.{Phase}
use Rattle.lat_jobs.specs.declared.phase.Phase.TheVariants as phases
use Rattle.lat_jobs.specs.declared.mind.JobMind.{JobMind}
use Rattle.lat_jobs.specs.Looks.{is_stopped}
use Rattle.lat_jobs.specs.Minds.{comes, is_due, is_lost, is_past, is_silent, is_whole, mind_next}
use Rattle.lat_jobs.specs.Phases.{breaks, here}

-- a job of which no request stands
abbrev pub WhyPausing : ℕ → Pause → Look → Bool → Move → Type 0
WhyPausing wait p see turn moves.Reset = (p.gone || see.stopping) ≡ true
WhyPausing wait p see turn moves.Ask = ((p.gone || see.stopping) ≡ false) × (turn ≡ true) × (is_past p.since wait see.moment ≡ true)
WhyPausing wait p see turn moves.Watch = (p.gone || see.stopping) ≡ false
WhyPausing wait p see turn _ = ⊥

-- a job that has asked
abbrev pub WhyAsking : Ask → Look → Bool → Move → Type 0
WhyAsking a see turn moves.Cancel = ((a.gone || see.stopping) ≡ true) ⊎ (is_silent a see ≡ true)
WhyAsking a see turn moves.Join = ((a.gone || see.stopping) ≡ false) × (comes a see ≡ true)
WhyAsking a see turn moves.Lose = ((a.gone || see.stopping) ≡ false) × (comes a see ≡ false) × (is_lost a see ≡ true)
WhyAsking a see turn moves.Repeat = ((a.gone || see.stopping) ≡ false) × (is_lost a see ≡ false) × (is_due a see turn ≡ true)
WhyAsking a see turn moves.Watch = ((a.gone || see.stopping) ≡ false) × (is_lost a see ≡ false) × (is_silent a see ≡ false)
WhyAsking a see turn _ = ⊥

-- the job's session is shown, and live
abbrev pub is_running : Print → Look → Bool
is_running g see = here g see && is_live see.line.state

-- the job's session is shown, and ended by both stops
abbrev pub was_stopped : Print → Look → Bool
was_stopped g see = here g see && is_stopped see.line.end

-- the client has gone, or the peer's device
abbrev pub has_failed : Print → Look → Bool
has_failed g see = g.failed || breaks g see

-- the session is over, and this mind didn't close it
abbrev pub IsLeft : Print → Look → Type 0
IsLeft g see = (g.shut ≡ false) × (is_running g see ≡ false)

-- a job with its session
abbrev pub WhyPrinting : Print → Look → Move → Type 0
WhyPrinting g see moves.Read = (g.shut ≡ false) × (see.stopping ≡ false) × (has_failed g see ≡ false) × (is_running g see ≡ true) × (g.left ≡ 0) × (g.ended ≡ false)
WhyPrinting g see moves.Put = (g.shut ≡ false) × (has_failed g see ≡ false) × (is_running g see ≡ true) × (0 < g.left) × (0 < see.line.room)
WhyPrinting g see moves.Take = (g.shut ≡ false) × (see.stopping ≡ false) × (has_failed g see ≡ false) × (here g see ≡ true) × (g.owed ≡ 0) × (g.deaf ≡ false)
WhyPrinting g see moves.Write = (g.failed ≡ false) × (0 < g.owed)
WhyPrinting g see moves.Close = (g.shut ≡ false) × (here g see ≡ true) × ((has_failed g see ≡ true) ⊎ ((g.left ≡ 0) ⊎ (is_live see.line.state ≡ false)))
WhyPrinting g see moves.Rest = here g see ≡ true
WhyPrinting g see moves.Watch = (g.shut ≡ false) × (see.stopping ≡ false) × (is_answered see.line.state ≡ false)
WhyPrinting g see moves.HangUp = (g.shut ≡ true) × (is_whole g ≡ true) × (breaks g see ≡ false) × ((g.owed ≡ 0) ⊎ (see.stopping ≡ true)) × ((here g see && not (is_free see.line.state)) ≡ false) × (was_stopped g see ≡ true)
WhyPrinting g see moves.Reset = (((not (is_whole g)) || breaks g see) ≡ true) ⊎ (((g.shut ≡ true) × (was_stopped g see ≡ false)) ⊎ ((g.touched ≡ true) × IsLeft g see))
WhyPrinting g see moves.Lose = (g.touched ≡ false) × (has_failed g see ≡ false) × IsLeft g see
WhyPrinting g see _ = ⊥

abbrev pub WhyOver : Move → Type 0
WhyOver moves.Stop = Unit {0}
WhyOver _ = ⊥

abbrev pub Why : ℕ → Phase → Look → Bool → Move → Type 0
Why wait (phases.Pausing p) see turn mv = WhyPausing wait p see turn mv
Why wait (phases.Asking a) see turn mv = WhyAsking a see turn mv
Why wait (phases.Printing g) see turn mv = WhyPrinting g see mv
Why wait phases.Over see turn mv = WhyOver mv

-- each move has its reason
abbrev pub MovesHaveReasons : Type 0
MovesHaveReasons = (m : JobMind) (see : Look) (turn : Bool) → Why m.wait m.phase see turn (mind_next m see turn)
