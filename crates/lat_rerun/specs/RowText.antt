-- What a rerun prints.
use Rattle.std.specs.Prelude.{ℕ, zero, suc, List, [], ◌∷◌, ◌++◌, Option, Some, None, codes, decimal, ◌==◌, if◌then◌else◌}
use Rattle.lat_base.specs.declared.look.LineLook.{LineLook}
use Rattle.lat_base.specs.declared.state.SessionEnd.{SessionEnd}
use Rattle.lat_base.specs.declared.state.SessionEnd.TheVariants.{Closed, Rejected, Circuit}
use Rattle.lat_text.specs.Line.{line}

-- how a session ended, as a report has it
abbrev pub end_words : Option SessionEnd → List ℕ
end_words None = codes "open"
end_words (Some Closed) = codes "closed"
end_words (Some (Rejected reason)) = codes "rejected " ++ decimal reason
end_words (Some (Circuit reason)) = codes "circuit " ++ decimal reason

-- the row of a line's newest session; none where it never had one
abbrev pub row_text : (number : ℕ) → LineLook → List ℕ
row_text number look =
    if look.newest == 0 then [] else line (codes "line " ∷ decimal number ∷ codes " session " ∷ decimal look.newest ∷ codes " end " ∷ end_words look.end ∷ [])

-- the rows of the lines from 1 to this one
abbrev pub rows_of : (ℕ → LineLook) → (lines : ℕ) → List ℕ
rows_of look zero = []
rows_of look (suc k) = rows_of look k ++ row_text (suc k) (look (suc k))

-- so many answers agree
abbrev pub agrees_text : (count : ℕ) → (rows : List ℕ) → List ℕ
agrees_text count rows = codes "agrees " ++ (decimal count ++ (codes "\n" ++ rows))

-- the answer of the event on this line is another one
abbrev pub differs_text : (number : ℕ) → List ℕ
differs_text number = line (codes "line " ∷ decimal number ∷ codes " answer" ∷ [])
