-- Whether a line that is typed has ended.
use Rattle.std.specs.Prelude.{Bool, true, false}
use Rattle.lat_terminal.specs.declared.key.Key.{Key}
use Rattle.lat_terminal.specs.declared.key.Key.TheVariants as keys
use Rattle.lat_terminal.specs.declared.line_state.LineState.{LineState}
use Rattle.lat_terminal.specs.declared.line_state.LineState.TheVariants as states

-- the second half of CR LF
abbrev pub joins : LineState → Key → Bool
joins states.Returned keys.Feed = true
joins _ _ = false

abbrev pub is_open : LineState → Bool
is_open states.Open = true
is_open _ = false

-- behind a key
abbrev pub state_behind : Key → LineState
state_behind keys.Return = states.Returned
state_behind keys.Feed = states.Ended
state_behind _ = states.Open
