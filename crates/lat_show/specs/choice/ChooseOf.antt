-- What is printed of a whole input.
use Rattle.std.specs.Prelude.{ℕ, ◌+◌, List, [], ◌∷◌, ◌++◌, replicate, Option, None, Some, Result, Ok, Err, ok_or}
use Rattle.std.specs.Result.{result_map_both}
use Rattle.lat_text.specs.Lines.{Lines, End, Cut, Line, lines_of}
use Rattle.lat_text.specs.WrongLine.{wrong_line}
use Rattle.lat_machines.specs.server.Directory.{HeardAnnouncement}
use Rattle.lat_show.specs.declared.choice.entry.Entry.{Entry}
use Rattle.lat_show.specs.choice.Entries.{groups_of, moment, entry_from}
use Rattle.lat_show.specs.choice.Printed.{entry_printed, heard_after}

-- what follows is read where this is right
infixl 10 ◌>>=◌
abbrev pub ◌>>=◌ : {A B : Type 0} → Result A ℕ → (A → Result B ℕ) → Result B ℕ
Ok x >>= f = f x
Err number >>= f = Err number

-- the entries of lines, of which the first has this number and none may be below the last moment; or the number of the
-- first wrong line
unfoldable pub entries_of : ℕ → ℕ → Lines → Result (List Entry) ℕ
entries_of number last End = Ok []
entries_of number last Cut = Err number
entries_of number last (Line line more) = do
  entry ← ok_or (entry_from last line) number
  entries ← entries_of (number + 1) (moment entry) more
  Ok (entry ∷ entries)

-- what entries print, of which the first is on the line of this number, where these announcements were heard before
unfoldable pub entries_printed : List ℕ → ℕ → List HeardAnnouncement → List Entry → List ℕ
entries_printed groups number h [] = []
entries_printed groups number h (entry ∷ entries) =
    entry_printed groups number h entry
    ++ entries_printed groups (number + 1) (heard_after groups h entry) entries

-- the groups that are listened to, and the lines of the entries, of which the first has this number
pub record Opening : Type 0 where
  pub groups : List ℕ
  pub number : ℕ
  pub lines : Lines

abbrev pub opened_by : Option (List ℕ) → Lines → Lines → Opening
opened_by (Some groups) all more = record { groups = groups; number = 2; lines = more }
opened_by None all more = record { groups = replicate 32 255; number = 1; lines = all }

-- a first line may say which groups are listened to; without it all are
abbrev pub opening_of : Lines → Opening
opening_of (Line line more) = opened_by (groups_of line) (Line line more) more
opening_of lines = opened_by None lines lines

-- status 0 and the text, or status 2 and the first wrong line
abbrev pub answer_of : Result (List ℕ) ℕ → ℕ × List ℕ
answer_of (Ok text) = (0, text)
answer_of (Err number) = (2, wrong_line number)

-- what lines print after an opening; or the number of the first wrong line
abbrev pub lines_printed : List ℕ → ℕ → ℕ → List HeardAnnouncement → Lines → Result (List ℕ) ℕ
lines_printed groups number last h lines = result_map_both (entries_printed groups number h) (λ wrong. wrong) (entries_of number last lines)

abbrev pub printed_after : Opening → Result (List ℕ) ℕ
printed_after opening = lines_printed opening.groups opening.number 0 [] opening.lines

-- the status and the text for an input
abbrev pub choose_of : List ℕ → ℕ × List ℕ
choose_of input = answer_of (printed_after (opening_of (lines_of input)))
