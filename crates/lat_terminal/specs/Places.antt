-- Where the filter stands in what a client sends, and what each byte means there.
use Rattle.std.specs.Prelude.{ℕ, ◌==◌, ◌||◌, if◌then◌else◌}
use Rattle.lat_terminal.specs.declared.negotiation.Verb.TheVariants as verbs
use Rattle.lat_terminal.specs.declared.place.Command.{Command}
use Rattle.lat_terminal.specs.declared.place.Command.TheVariants as commands
use Rattle.lat_terminal.specs.declared.place.Place.{Place}
use Rattle.lat_terminal.specs.declared.place.Place.TheVariants as places
use Rattle.lat_terminal.specs.declared.place.Token.{Token}
use Rattle.lat_terminal.specs.declared.place.Token.TheVariants as tokens

-- what a byte behind 255 means: BREAK is 243, INTERRUPT PROCESS 244
abbrev pub command_of : ℕ → Command
command_of b =
    if b == 243 || b == 244 then commands.Attention
    else (if b == 250 then commands.Subnegotiation
    else (if b == 251 then commands.Verb verbs.Will
    else (if b == 252 then commands.Verb verbs.Wont
    else (if b == 253 then commands.Verb verbs.Do
    else (if b == 254 then commands.Verb verbs.Dont
    else (if b == 255 then commands.Data
    else commands.Other))))))

abbrev pub place_behind : Command → Place
place_behind commands.Subnegotiation = places.Subnegotiation
place_behind (commands.Verb v) = places.Verb v
place_behind _ = places.Text

abbrev pub token_behind : Command → Token
token_behind commands.Data = tokens.Text 255
token_behind commands.Attention = tokens.Attention
token_behind _ = tokens.Part

-- where the filter stands behind a byte: a subnegotiation ends at 255 240
abbrev pub place_after : Place → ℕ → Place
place_after places.Text b = if b == 255 then places.Command else places.Text
place_after places.Command b = place_behind (command_of b)
place_after (places.Verb v) b = places.Text
place_after places.Subnegotiation b = if b == 255 then places.SubnegotiationCommand else places.Subnegotiation
place_after places.SubnegotiationCommand b = if b == 240 then places.Text else places.Subnegotiation

-- what a byte brings
abbrev pub token_at : Place → ℕ → Token
token_at places.Text b = if b == 255 then tokens.Part else tokens.Text b
token_at places.Command b = token_behind (command_of b)
token_at (places.Verb v) b = tokens.Request (record { verb = v; option = b })
token_at places.Subnegotiation b = tokens.Part
token_at places.SubnegotiationCommand b = tokens.Part
