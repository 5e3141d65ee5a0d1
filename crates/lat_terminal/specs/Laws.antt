-- What holds of every stream.
use Rattle.std.specs.Prelude.{◌≡◌, ℕ, ◌+◌, ◌<◌, ◌≤◌, ◌&&◌, ◌==◌, Bool, false, if◌then◌else◌, List, [], ◌∷◌, ◌++◌, length, map, flat_map, IfSome}
use Rattle.std.specs.Option.{option_map, option_to_list}
use Rattle.lat_terminal.specs.declared.negotiation.Verb.{Verb}
use Rattle.lat_terminal.specs.declared.negotiation.Verb.TheVariants as verbs
use Rattle.lat_terminal.specs.declared.negotiation.Negotiation.{Negotiation}
use Rattle.lat_terminal.specs.declared.place.Place.TheVariants as places
use Rattle.lat_terminal.specs.declared.place.Token.{Token}
use Rattle.lat_terminal.specs.declared.place.Token.TheVariants as tokens
use Rattle.lat_terminal.specs.declared.option_state.OptionState.{OptionState}
use Rattle.lat_terminal.specs.declared.option_state.OptionState.TheVariants as options
use Rattle.lat_terminal.specs.declared.telnet.Heard.{Heard}
use Rattle.lat_terminal.specs.declared.telnet.Heard.TheVariants as heards
use Rattle.lat_terminal.specs.declared.telnet.Telnet.{Telnet}
use Rattle.lat_terminal.specs.declared.key.Key.TheVariants as keys
use Rattle.lat_terminal.specs.Negotiations.{negotiation_bytes}
use Rattle.lat_terminal.specs.Places.{token_at}
use Rattle.lat_terminal.specs.Options.{option_after}
use Rattle.lat_terminal.specs.Telnets.{answer_to, heard_all, telnet_after, telnet_next}
use Rattle.lat_terminal.specs.Doubling.{doubled}
use Rattle.lat_terminal.specs.LineStates.{joins}
use Rattle.lat_terminal.specs.Editors.{Typing, echo_all, lines_all, open_line, typing_after}

-- the pieces of a stream as one
abbrev pub joined : List (List ℕ) → List ℕ
joined [] = []
joined (p ∷ ps) = p ++ joined ps

-- the filter behind one piece after another, and what came of them
abbrev pub after_pieces : Telnet → List (List ℕ) → Telnet
after_pieces t [] = t
after_pieces t (p ∷ ps) = after_pieces (telnet_after t p) ps

abbrev pub heard_pieces : Telnet → List (List ℕ) → List Heard
heard_pieces t [] = []
heard_pieces t (p ∷ ps) = heard_all t p ++ heard_pieces (telnet_after t p) ps

pub record OneStream (t : Telnet) (ps : List (List ℕ)) : Type 0 where
  pub state : after_pieces t ps ≡ telnet_after t (joined ps)
  pub heard : heard_pieces t ps ≡ heard_all t (joined ps)
  pub sent : flat_map doubled ps ≡ doubled (joined ps)

abbrev pub PiecesAreOneStream : Type 0
PiecesAreOneStream = (t : Telnet) (ps : List (List ℕ)) → OneStream t ps

-- what the filter knows behind a request
abbrev pub told_of : Telnet → Negotiation → Telnet
told_of t said = record t { echo = option_after t.echo 1 (tokens.Request said); suppress = option_after t.suppress 3 (tokens.Request said) }

pub record IsAnswered (t : Telnet) (said : Negotiation) : Type 0 where
  pub heard : heard_all t (negotiation_bytes said) ≡ option_to_list (option_map heards.Answer (answer_to t said))
  pub state : telnet_after t (negotiation_bytes said) ≡ told_of t said

abbrev pub RequestsAreAnswered : Type 0
RequestsAreAnswered = (t : Telnet) (said : Negotiation) → t.place ≡ places.Text → IsAnswered t said

-- how much a verb asks
abbrev pub rank : Verb → ℕ
rank verbs.Wont = 0
rank verbs.Dont = 1
rank verbs.Will = 2
rank verbs.Do = 3

abbrev pub AnswersFall : Type 0
AnswersFall = (t : Telnet) (said : Negotiation) → IfSome (answer_to t said) (λ answer. rank answer.verb < rank said.verb)

abbrev pub is_answer : Heard → ℕ
is_answer (heards.Answer said) = 1
is_answer _ = 0

-- how many answers come of a stream
abbrev pub answers_in : List Heard → ℕ
answers_in [] = 0
answers_in (h ∷ hs) = is_answer h + answers_in hs

abbrev pub asks_verb : Verb → ℕ
asks_verb verbs.Do = 1
asks_verb verbs.Will = 1
asks_verb _ = 0

abbrev pub asks_token : Token → ℕ
asks_token (tokens.Request said) = asks_verb said.verb
asks_token _ = 0

-- how many DOs and WILLs a stream has
abbrev pub asks_in : Telnet → List ℕ → ℕ
asks_in t [] = 0
asks_in t (b ∷ bs) = asks_token (token_at t.place b) + asks_in (telnet_next t b) bs

abbrev pub agreed : OptionState → ℕ
agreed options.On = 1
agreed _ = 0

-- how many options are agreed on
abbrev pub agreed_in : Telnet → ℕ
agreed_in t = agreed t.echo + agreed t.suppress

abbrev pub AnswersAreFew : Type 0
AnswersAreFew = (t : Telnet) (bs : List ℕ) → answers_in (heard_all t bs) ≤ (asks_in t bs + asks_in t bs) + agreed_in t

-- these bytes without each NUL behind a carriage return
abbrev pub typed : Bool → List ℕ → List ℕ
typed behind [] = []
typed behind (b ∷ bs) = if behind && b == 0 then typed false bs else b ∷ typed (b == 13) bs

abbrev pub DoublingIsUndone : Type 0
DoublingIsUndone = (t : Telnet) (bs : List ℕ) → t.place ≡ places.Text → heard_all t (doubled bs) ≡ map heards.Byte (typed t.behind_return bs)

-- what a subnegotiation says is sent doubled too
abbrev pub subnegotiation : List ℕ → List ℕ
subnegotiation body = 255 ∷ 250 ∷ (doubled body ++ 255 ∷ 240 ∷ [])

pub record IsSilent (t : Telnet) (bs : List ℕ) : Type 0 where
  pub heard : heard_all t bs ≡ []
  pub state : telnet_after t bs ≡ t

abbrev pub SkipsAreSilent : Type 0
SkipsAreSilent = (t : Telnet) (body : List ℕ) → t.place ≡ places.Text → IsSilent t (subnegotiation body)

-- the editor behind one piece after another, what was shown, and the lines that ended
abbrev pub typing_pieces : Typing → List (List ℕ) → Typing
typing_pieces e [] = e
typing_pieces e (p ∷ ps) = typing_pieces (typing_after e p) ps

abbrev pub echo_pieces : List ℕ → Typing → List (List ℕ) → List ℕ
echo_pieces prompt e [] = []
echo_pieces prompt e (p ∷ ps) = echo_all prompt e p ++ echo_pieces prompt (typing_after e p) ps

abbrev pub lines_pieces : Typing → List (List ℕ) → List (List ℕ)
lines_pieces e [] = []
lines_pieces e (p ∷ ps) = lines_all e p ++ lines_pieces (typing_after e p) ps

pub record OneTyping (prompt : List ℕ) (e : Typing) (ps : List (List ℕ)) : Type 0 where
  pub state : typing_pieces e ps ≡ typing_after e (joined ps)
  pub echo : echo_pieces prompt e ps ≡ echo_all prompt e (joined ps)
  pub lines : lines_pieces e ps ≡ lines_all e (joined ps)

abbrev pub TypedPiecesAreOneStream : Type 0
TypedPiecesAreOneStream = (prompt : List ℕ) (e : Typing) (ps : List (List ℕ)) → OneTyping prompt e ps

abbrev pub LinesAreShort : Type 0
LinesAreShort = (e : Typing) (bs : List ℕ) → length e.line ≤ 128 → length (typing_after e bs).line ≤ 128

pub record AllEnd (e : Typing) : Type 0 where
  pub cr : lines_all e (13 ∷ []) ≡ open_line e ∷ []
  pub lf : joins e.state keys.Feed ≡ false → lines_all e (10 ∷ []) ≡ open_line e ∷ []
  pub both : lines_all e (13 ∷ 10 ∷ []) ≡ open_line e ∷ []

abbrev pub EndsAgree : Type 0
EndsAgree = (e : Typing) → AllEnd e
