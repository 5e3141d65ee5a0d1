-- The lines of a text one after another, and what they say.
use Rattle.std.specs.Prelude.{ℕ, ◌+◌, Bool, true, false, ◌&&◌, List, [], ◌∷◌, ◌++◌, Option, Some, None, option_map, Result, Ok, Err, ok_or, bytes_eq, codes, ◌==◌, if◌then◌else◌}
use Rattle.lat_text.specs.Lines.{Lines, End, Cut, Line, lines_of}
use Rattle.lat_schedule.specs.declared.rest.Rest.{Rest}

-- what follows is read where this is right; the number of a wrong line stays
infixl 10 ◌>>=◌
abbrev pub ◌>>=◌ : {A B : Type 0} → Result A ℕ → (A → Result B ℕ) → Result B ℕ
Ok x >>= f = f x
Err number >>= f = Err number

-- the lines that are left, each with its number
pub data Place : Type 0 where
  -- no byte is left; the number of the line that is missing
  Over : (number : ℕ) → Place
  -- bytes are left that no line feed ends: the line of this number is wrong
  Unended : (number : ℕ) → Place
  -- the line of this number, and the lines behind it
  Numbered : (number : ℕ) → List ℕ → Place → Place

-- a line says nothing where it has no byte, or begins with `#`
abbrev pub is_silent : List ℕ → Bool
is_silent [] = true
is_silent (b ∷ line) = b == 35

-- The lines of which the first has this number. Silent ones are counted; where the text may have them, they are passed over
abbrev pub numbered : (silent : Bool) → ℕ → Lines → Place
numbered silent number End = Over number
numbered silent number Cut = Unended number
numbered silent number (Line line more) =
    if silent && is_silent line then numbered silent (number + 1) more
    else Numbered number line (numbered silent (number + 1) more)

-- the lines of what is left of a text
abbrev pub place : Rest → Place
place rest = numbered rest.silent rest.number (lines_of rest.text.now)

abbrev pub is_third : Place → Bool
is_third (Numbered number line more) = bytes_eq line (codes "lat 3")
is_third at = false

-- a text may have silent lines where its first line that isn't silent is that of the third version
abbrev pub may_be_silent : List ℕ → Bool
may_be_silent text = is_third (numbered true 1 (lines_of text))

-- the lines of a whole text
abbrev pub opening : List ℕ → Place
opening text = numbered (may_be_silent text) 1 (lines_of text)

-- the next line with its number, and the lines behind it; the number of the missing one where there is none that a line feed ends
abbrev pub line_at : Place → Result (ℕ × List ℕ × Place) ℕ
line_at (Over number) = Err number
line_at (Unended number) = Err number
line_at (Numbered number line more) = Ok (number, line, more)

-- what a line says that must stand here, and the lines behind it; its number where it is wrong or missing
abbrev pub must : {A : Type 0} → (List ℕ → Option A) → Place → Result (A × Place) ℕ
must read at = do
  next ← line_at at
  said ← ok_or (read next.1) next.0
  Ok (said, next.2)

-- what a line says that may stand here; else no line is passed over
abbrev pub if_said : {A : Type 0} → Option A → Place → Place → Option A × Place
if_said None at behind = (None, at)
if_said (Some said) at behind = (Some said, behind)

abbrev pub may : {A : Type 0} → (List ℕ → Option A) → Place → Option A × Place
may read (Numbered number line more) = if_said (read line) (Numbered number line more) more
may read at = (None, at)

-- what lines make of this, one after another as long as they go on with it, and the lines behind
unfoldable pub many : {S : Type 0} → (more : S → ℕ → List ℕ → Option S) → S → Place → S × Place
many more s (Over number) = (s, Over number)
many more s (Unended number) = (s, Unended number)
many more s (Numbered number line rest) = elim (more s number line) [
  | None ↦ (s, Numbered number line rest)
  | Some t ↦ many more t rest
]

-- a line goes on with a list where it can say one more
abbrev pub adds : {A : Type 0} → (List A → List ℕ → Option A) → List A → ℕ → List ℕ → Option (List A)
adds read before number line = option_map (λ said. before ++ said ∷ []) (read before line)

-- no line stands behind this place
abbrev pub nothing_at : Place → Result (Unit {0}) ℕ
nothing_at (Over number) = Ok tt
nothing_at (Unended number) = Err number
nothing_at (Numbered number line more) = Err number
