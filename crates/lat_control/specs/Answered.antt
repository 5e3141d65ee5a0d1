-- Lines and their answers.
use Rattle.std.specs.Prelude.{◌≡◌, ℕ, Bool, true, false, ltb, List, [], ◌∷◌, ◌++◌, length, codes}
use Rattle.std.specs.Io.{StartsWith}
use Rattle.lat_control.specs.Lines.{lines_of}

-- what a line that is too long is answered
abbrev pub long_text : List ℕ
long_text = codes "? a line of at most 256 bytes expected\n"

-- whether a line is too long to be a command
abbrev pub is_long : List ℕ → Bool
is_long line = ltb 256 (length line)

abbrev pub SaidOf : (List ℕ → List ℕ → Type 0) → Bool → List ℕ → List ℕ → Type 0
SaidOf says true line answer = answer ≡ long_text
SaidOf says false line answer = says line answer

-- this is an answer to the line
abbrev pub Said : (List ℕ → List ℕ → Type 0) → List ℕ → List ℕ → Type 0
Said says line answer = SaidOf says (is_long line) line answer

-- an answer to the line, an empty line behind it, and then the rest
pub record AnsweredFirst (says : List ℕ → List ℕ → Type 0) (line : List ℕ) (Rest : List ℕ → Type 0) (text : List ℕ) : Type 0 where
  pub answer : List ℕ
  pub rest : List ℕ
  pub said : Said says line answer
  pub whole : text ≡ answer ++ 10 ∷ rest
  pub behind : Rest rest

-- each of these lines is answered once, in order, with an empty line behind each answer
abbrev pub Answered : (List ℕ → List ℕ → Type 0) → List (List ℕ) → List ℕ → Type 0
Answered says [] text = text ≡ []
Answered says (line ∷ lines) text = AnsweredFirst says line (Answered says lines) text

-- what was owed, and behind it the answers to these lines
pub record AnsweredMore (says : List ℕ → List ℕ → Type 0) (lines : List (List ℕ)) (before now : List ℕ) : Type 0 where
  pub added : List ℕ
  pub whole : now ≡ before ++ added
  pub answered : Answered says lines added

-- what was written to a client is a beginning of the answers to lines that it gave
pub record IsTold (says : List ℕ → List ℕ → Type 0) (given written : List ℕ) : Type 0 where
  pub heard : List ℕ
  pub text : List ℕ
  pub first : StartsWith given heard
  pub answered : Answered says (lines_of heard) text
  pub told : StartsWith text written
