-- A generated schedule: what it comes to turn by turn, its text, and what is told of it in one line.
use Rattle.std.specs.Prelude.{ℕ, zero, suc, false, List, [], ◌∷◌, ◌++◌, length, codes, decimal, Option, Some, None}
use Rattle.lat_base.specs.declared.event.Event.TheVariants.{Announce}
use Rattle.lat_machines.specs.world.Machines.{Setups}
use Rattle.lat_machines.specs.world.Reports.{report}
use Rattle.lat_text.specs.Line.{line}
use Rattle.lat_schedule.specs.declared.event.WorldEvent.{WorldEvent}
use Rattle.lat_schedule.specs.declared.event.WorldEvent.TheVariants.{Local, Deliver}
use Rattle.lat_schedule.specs.EventText.{event_text}
use Rattle.lat_wire.specs.declared.fault.EventFault.{EventFault}
use Rattle.lat_replay.specs.declared.counts.Counts.{Counts}
use Rattle.lat_replay.specs.Counts.{counts_in}
use Rattle.lat_replay.specs.Setups.{setups_shown}
use Rattle.lat_replay.specs.Played.{State, open_state, next, refusal}
use Rattle.lat_cmd.specs.declared.generate.generator.Generator.{Generator}
use Rattle.lat_cmd.specs.generate.Draws.{Drawn}
use Rattle.lat_cmd.specs.generate.Front.{setup, vax, front_text, end_text}
use Rattle.lat_cmd.specs.generate.Turns.{turn}

-- what both machines are made of
unfoldable pub setups : Setups
setups = setups_shown setup

-- the two machines so far, the text so far, how many events it has, and the generator
pub record Grown : Type 0 where
  pub state : State
  pub text : List ℕ
  pub events : ℕ
  pub generator : Generator

-- an event that is refused isn't written
abbrev pub unless_refused : Option EventFault → WorldEvent → Grown → Grown
unless_refused None e g = record g { state = next setups g.state e; text = g.text ++ event_text e; events = suc g.events }
unless_refused (Some fault) e g = g

unfoldable pub told : WorldEvent → Grown → Grown
told e g = unless_refused (refusal setups g.state e) e g

-- what was drawn is told, and the draws go on behind it
abbrev pub told_drawn : Drawn WorldEvent → Grown → Grown
told_drawn d g = told d.0 (record g { generator = d.1 })

-- a turn: what the generator draws where so many frames were sent
unfoldable pub turned : Grown → Grown
turned g = told_drawn (turn vax (length g.state.machines.posts) g.generator) g

unfoldable pub turns : ℕ → Grown → Grown
turns zero g = g
turns (suc n) g = turned (turns n g)

-- nothing was told yet
unfoldable pub opened : ℕ → Grown
opened seed = record { state = open_state setups; text = front_text; events = 0; generator = record { drawn = seed; moment = 0 } }

-- in front of the turns the node announces itself, and the server hears it
unfoldable pub begun : ℕ → Grown
begun seed = told (Deliver 0) (told (Local false Announce) (opened seed))

unfoldable pub grown : ℕ → Grown
grown seed = turns 4000 (begun seed)

-- the whole text
unfoldable pub gen_text : ℕ → List ℕ
gen_text seed = (grown seed).text ++ end_text

-- what a world came to
unfoldable pub counts_text : Counts → List ℕ
counts_text c = line (
    codes " frames " ∷ decimal c.frames
    ∷ codes " sessions " ∷ decimal c.sessions
    ∷ codes " put " ∷ decimal c.put
    ∷ codes " taken " ∷ decimal c.taken
    ∷ []
    )

abbrev pub bench_line : (seed : ℕ) → (events : ℕ) → Counts → List ℕ
bench_line seed events c = codes "bench " ++ decimal seed ++ codes " events " ++ decimal events ++ counts_text c

unfoldable pub bench_text : ℕ → List ℕ
bench_text seed = bench_line seed (grown seed).events (counts_in (report setups (grown seed).state.machines))
