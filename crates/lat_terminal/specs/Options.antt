-- How far an option that the line offers has come.
use Rattle.std.specs.Prelude.{ℕ, ◌==◌, Bool, true, false, if◌then◌else◌}
use Rattle.lat_terminal.specs.declared.negotiation.Verb.{Verb}
use Rattle.lat_terminal.specs.declared.negotiation.Verb.TheVariants as verbs
use Rattle.lat_terminal.specs.declared.place.Token.{Token}
use Rattle.lat_terminal.specs.declared.place.Token.TheVariants as tokens
use Rattle.lat_terminal.specs.declared.option_state.OptionState.{OptionState}
use Rattle.lat_terminal.specs.declared.option_state.OptionState.TheVariants as options

-- in use, or offered
abbrev pub is_on : OptionState → Bool
is_on options.Off = false
is_on _ = true

-- the client's last word on the option counts
abbrev pub option_said : OptionState → Verb → OptionState
option_said state verbs.Do = options.On
option_said state verbs.Dont = options.Off
option_said state _ = state

abbrev pub option_after : OptionState → ℕ → Token → OptionState
option_after state option (tokens.Request said) = if said.option == option then option_said state said.verb else state
option_after state option _ = state
