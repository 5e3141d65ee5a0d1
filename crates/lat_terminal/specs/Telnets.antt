-- The filter of a line whose clients speak telnet.
use Rattle.std.specs.Prelude.{ℕ, ◌==◌, ◌&&◌, Bool, false, if◌then◌else◌, List, [], ◌∷◌, ◌++◌, Option, Some, None}
use Rattle.std.specs.Option.{option_map, option_to_list}
use Rattle.lat_terminal.specs.declared.negotiation.Verb.{Verb}
use Rattle.lat_terminal.specs.declared.negotiation.Verb.TheVariants as verbs
use Rattle.lat_terminal.specs.declared.negotiation.Negotiation.{Negotiation}
use Rattle.lat_terminal.specs.declared.place.Place.TheVariants as places
use Rattle.lat_terminal.specs.declared.place.Token.{Token}
use Rattle.lat_terminal.specs.declared.place.Token.TheVariants as tokens
use Rattle.lat_terminal.specs.declared.option_state.OptionState.{OptionState}
use Rattle.lat_terminal.specs.declared.option_state.OptionState.TheVariants as options
use Rattle.lat_terminal.specs.declared.telnet.Heard.{Heard}
use Rattle.lat_terminal.specs.declared.telnet.Heard.TheVariants as heards
use Rattle.lat_terminal.specs.declared.telnet.Telnet.{Telnet}
use Rattle.lat_terminal.specs.Places.{place_after, token_at}
use Rattle.lat_terminal.specs.Options.{option_after}

-- a client that was sent the offers, and has sent nothing
abbrev pub fresh_telnet : Telnet
fresh_telnet = record { place = places.Text; behind_return = false; echo = options.Offered; suppress = options.Offered }

-- ECHO is option 1, SUPPRESS-GO-AHEAD option 3
abbrev pub offers : List Negotiation
offers = record { verb = verbs.Will; option = 1 } ∷ record { verb = verbs.Will; option = 3 } ∷ []

-- the option, where it is one that the line offers
abbrev pub option_at : Telnet → ℕ → Option OptionState
option_at t option = if option == 1 then Some t.echo else (if option == 3 then Some t.suppress else None)

-- the client asks for the option: what isn't offered is refused, and what was refused is taken up again; to a client that
-- agrees, or asks again for what it has, nothing is said
abbrev pub answer_do : Option OptionState → ℕ → Option Negotiation
answer_do None option = Some (record { verb = verbs.Wont; option = option })
answer_do (Some options.Off) option = Some (record { verb = verbs.Will; option = option })
answer_do (Some _) option = None

-- the client wants the option no more
abbrev pub answer_dont : Option OptionState → ℕ → Option Negotiation
answer_dont (Some options.On) option = Some (record { verb = verbs.Wont; option = option })
answer_dont _ option = None

-- the client may use no option of its own, so it can't give one up
abbrev pub answer_verb : Telnet → Verb → ℕ → Option Negotiation
answer_verb t verbs.Will option = Some (record { verb = verbs.Dont; option = option })
answer_verb t verbs.Wont option = None
answer_verb t verbs.Do option = answer_do (option_at t option) option
answer_verb t verbs.Dont option = answer_dont (option_at t option) option

abbrev pub answer_to : Telnet → Negotiation → Option Negotiation
answer_to t said = answer_verb t said.verb said.option

-- a NUL behind a carriage return isn't typed
abbrev pub heard_text : Bool → ℕ → Option Heard
heard_text behind b = if behind && b == 0 then None else Some (heards.Byte b)

abbrev pub behind_after : Bool → Token → Bool
behind_after behind (tokens.Text b) = b == 13
behind_after behind _ = behind

abbrev pub heard_at : Telnet → Token → Option Heard
heard_at t tokens.Part = None
heard_at t (tokens.Text b) = heard_text t.behind_return b
heard_at t tokens.Attention = Some heards.Attention
heard_at t (tokens.Request said) = option_map heards.Answer (answer_to t said)

-- what comes of a byte
abbrev pub heard_of : Telnet → ℕ → Option Heard
heard_of t b = heard_at t (token_at t.place b)

-- the filter behind what a byte brought
abbrev pub telnet_told : Telnet → ℕ → Token → Telnet
telnet_told t b token = record {
  place = place_after t.place b;
  behind_return = behind_after t.behind_return token;
  echo = option_after t.echo 1 token;
  suppress = option_after t.suppress 3 token;
}

abbrev pub telnet_next : Telnet → ℕ → Telnet
telnet_next t b = telnet_told t b (token_at t.place b)

-- the filter behind a stream
abbrev pub telnet_after : Telnet → List ℕ → Telnet
telnet_after t [] = t
telnet_after t (b ∷ bs) = telnet_after (telnet_next t b) bs

-- all that comes of a stream
abbrev pub heard_all : Telnet → List ℕ → List Heard
heard_all t [] = []
heard_all t (b ∷ bs) = option_to_list (heard_of t b) ++ heard_all (telnet_next t b) bs
