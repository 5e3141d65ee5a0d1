-- What the column of an explanation says, beside all texts that are valid at its place. There a text is valid if it is one line
-- with its line feed, and the line has one of the forms that may stand behind the lines in front, or is a comment or without a
-- byte where comments may stand.
use Rattle.std.specs.Prelude.{◌≡◌, ℕ, ◌+◌, ◌<◌, ◌≤◌, Bool, true, List, [], ◌∷◌, ◌++◌, length, take, None, ◌⊎◌, nat_lt, if◌then◌else◌}
use Rattle.lat_text.specs.Lines.{Lines, End, Cut, Line, lines_of}
use Rattle.lat_explain.specs.declared.awaited.Input.{Input}
use Rattle.lat_explain.specs.Awaited.{said_before}
use Rattle.lat_explain.specs.Before.{is_silent}
use Rattle.lat_explain.specs.Forms.{Taken, fits}
use Rattle.lat_explain.specs.LineExplained.{feed_in, text_behind, front_line, is_ended, taken_of, table_at, passed, may_comment, place_told}

-- words behind which no line without a byte stands are no form
abbrev pub in_front : (word : List ℕ) → List (List (List ℕ)) → List (List (List ℕ))
in_front word [] = []
in_front word (form ∷ forms) = (word ∷ form) ∷ forms

-- the forms of a table, of each the forms of its words
abbrev pub forms_in : Lines → List (List (List ℕ))
forms_in End = []
forms_in Cut = []
forms_in (Line [] more) = [] ∷ forms_in more
forms_in (Line (b ∷ word) more) = in_front (b ∷ word) (forms_in more)

-- words with a space between two
abbrev pub joined : List (List ℕ) → List ℕ
joined [] = []
joined (word ∷ []) = word
joined (word ∷ next ∷ words) = word ++ 32 ∷ joined (next ∷ words)

-- as many words as forms, and each goes with its own
abbrev pub AllFit : Taken → (form words : List (List ℕ)) → Type 0
AllFit taken [] [] = Unit {0}
AllFit taken [] (word ∷ words) = ⊥
AllFit taken (f ∷ form) [] = ⊥
AllFit taken (f ∷ form) (word ∷ words) = (fits taken f word ≡ true) × AllFit taken form words

-- a line of this form
pub record HasForm (taken : Taken) (form : List (List ℕ)) (line : List ℕ) : Type 0 where
  pub words : List (List ℕ)
  pub fit : AllFit taken form words
  pub is : line ≡ joined words

-- a line of one of these forms
abbrev pub HasSome : Taken → List (List (List ℕ)) → (line : List ℕ) → Type 0
HasSome taken [] line = ⊥
HasSome taken (form ∷ forms) line = HasForm taken form line ⊎ HasSome taken forms line

-- a comment, or a line without a byte, where comments may stand
pub record IsSilentThere (input : Input) (before : ℕ) (text line : List ℕ) : Type 0 where
  pub there : may_comment input before text ≡ true
  pub silent : is_silent line ≡ true
  pub one : feed_in line ≡ None

-- this line may stand behind the first lines of a text, so many, and silent ones or not
abbrev pub MayStand : Input → (before : ℕ) → (silent : Bool) → (text line : List ℕ) → Type 0
MayStand input before silent text line =
    HasSome (taken_of (said_before before (lines_of text))) (forms_in (lines_of (table_at input before silent text))) line
    ⊎ IsSilentThere input before text line

-- a line that may stand there, with its line feed
pub record IsValid (input : Input) (before : ℕ) (silent : Bool) (text valid : List ℕ) : Type 0 where
  pub line : List ℕ
  pub may : MayStand input before silent text line
  pub is : valid ≡ line ++ 10 ∷ []

pub record Begins (text front : List ℕ) : Type 0 where
  pub rest : List ℕ
  pub is : text ≡ front ++ rest

-- So many bytes of a text are right, and no more. What stands in front of the column some valid text begins with, if there is
-- one at all. None begins with the byte at the column too, if the text itself isn't valid. A text that ends there isn't
pub record IsRightTo (Valid : List ℕ → Type 0) (text : List ℕ) (at : ℕ) : Type 0 where
  pub within : at ≤ length text
  pub front : (some : List ℕ) → Valid some → (valid : List ℕ) × Valid valid × Begins valid (take at text)
  pub first : at < length text → ¬ (Valid text) → (valid : List ℕ) → Valid valid
      → ¬ (Begins valid (take (at + 1) text))
  pub short : at ≡ length text → ¬ (Valid text)

-- the first line of a text, with its line feed, if it has one
abbrev pub fed_line : List ℕ → List ℕ
fed_line rest = front_line rest ++ (if is_ended rest then 10 ∷ [] else [])

-- the silent lines that are passed over stand in front of the wrong line as well
abbrev pub wrong_before : Input → (before : ℕ) → (text : List ℕ) → ℕ
wrong_before input before text = before + passed input before text

-- the text from the wrong line on
abbrev pub rest_there : Input → (before : ℕ) → (text : List ℕ) → List ℕ
rest_there input before text = text_behind (wrong_before input before text) text

abbrev pub IsValidThere : Input → (before : ℕ) → (text valid : List ℕ) → Type 0
IsValidThere input before text valid = IsValid input before (nat_lt 0 (passed input before text)) text valid

-- what is told begins with the number of a line and the column of the first byte that no valid text has there; both are counted
-- from 1
pub record TellsColumn (input : Input) (before : ℕ) (text told : List ℕ) : Type 0 where
  pub at : ℕ
  pub behind : List ℕ
  pub is : told ≡ place_told (wrong_before input before text + 1) (at + 1) ++ behind
  pub right : IsRightTo (IsValidThere input before text) (fed_line (rest_there input before text)) at
