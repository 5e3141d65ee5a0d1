-- What rounds ask beside all else: that nothing is broken off but by a timer, a call on a line or a frame that comes.
use Rattle.std.specs.Prelude.{◌≡◌, false, List}
use Rattle.lat_model.specs.Lists.{Each}
use Rattle.lat_machines.specs.values.Events.{Event, Halts}
use Rattle.lat_machines.specs.world.Machines.{Setups, Move, Does, HearsFrame, HearsForeign}

-- nobody is halted
abbrev pub CalmEvent : Event → Type 0
CalmEvent Halts = ⊥
CalmEvent _ = Unit {0}

abbrev pub CalmMove : Move → Type 0
CalmMove (Does b e rates) = CalmEvent e
CalmMove (HearsFrame i now rates) = Unit {0}
CalmMove (HearsForeign b from payload now rates) = Unit {0}

-- neither end is prompt
pub record Patient (u : Setups) : Type 0 where
  pub server : u.server.prompt ≡ false
  pub node : u.node.prompt ≡ false

-- a calm world: neither end is prompt, and in its moves nobody is halted
pub record Calm (u : Setups) (moves : List Move) : Type 0 where
  pub patient : Patient u
  pub calm : Each CalmMove moves
