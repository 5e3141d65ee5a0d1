-- The capture that a text is, or its first wrong line.
use Rattle.std.specs.Prelude.{◌≡◌, ℕ, ◌+◌, List, [], ◌∷◌, Result, Ok, Err, ok_or}
use Rattle.lat_model.specs.Lists.{Each}
use Rattle.lat_text.specs.Lines.{Lines, End, Cut, Line, lines_of}
use Rattle.lat_captures.specs.declared.head.Title.{Title}
use Rattle.lat_audit.specs.declared.entry.Entry.{Entry}
use Rattle.lat_audit.specs.Written.{capture_text, IsTitle, IsEntry}
use Rattle.lat_audit.specs.Lines.{title_of, entry_of}

-- a capture, as it is written
pub record Capture : Type 0 where
  pub title : Title
  pub entries : List Entry

-- what follows is read where this is right
infixl 10 ◌>>=◌
abbrev pub ◌>>=◌ : {A B : Type 0} → Result A ℕ → (A → Result B ℕ) → Result B ℕ
Ok x >>= f = f x
Err number >>= f = Err number

-- the entries of lines, of which the first has this number; or the number of the first wrong line
unfoldable pub entries_of : ℕ → Lines → Result (List Entry) ℕ
entries_of number End = Ok []
entries_of number Cut = Err number
entries_of number (Line line more) = do
  entry ← ok_or (entry_of line) number
  entries ← entries_of (number + 1) more
  Ok (entry ∷ entries)

-- a first line is missing, or it is right and the entries stand behind it
abbrev pub capture_at : Lines → Result Capture ℕ
capture_at End = Err 1
capture_at Cut = Err 1
capture_at (Line line more) = do
  title ← ok_or (title_of line) 1
  entries ← entries_of 2 more
  Ok (record { title = title; entries = entries })

abbrev pub capture_of : List ℕ → Result Capture ℕ
capture_of text = capture_at (lines_of text)

-- the text that is written of a capture is read as that capture
abbrev pub WrittenIsRead : Type 0
WrittenIsRead =
    (t : Title) (es : List Entry) → IsTitle t → Each IsEntry es
    → capture_of (capture_text t es) ≡ Ok (record { title = t; entries = es })
