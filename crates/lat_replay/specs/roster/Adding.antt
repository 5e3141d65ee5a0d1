-- What an answer adds to the items of a line's session.
use Rattle.std.specs.Prelude.{◌≡◌, ℕ, Bool, List}
use Rattle.lat_base.specs.declared.answer.Answer.{Answer}
use Rattle.lat_model.specs.sessions.Slots.{Item}
use Rattle.lat_machines.specs.values.Answers as machines
use Rattle.lat_lines.specs.AnswerValues.{answer_of}
use Rattle.lat_laws.specs.tales.Keeping.{adds}
use Rattle.lat_laws.specs.tales.Rows.{RowsAfter}
use Rattle.lat_replay.specs.roster.Roster as rosters
use Rattle.lat_replay.specs.roster.Roster.{HasRows}

-- the rows that the roster shows get the items that the line's session puts and takes by the answer
abbrev pub HasAdded : rosters.Kept → rosters.Kept → Bool → ℕ → Answer → (machines.Answer → List Item) → (machines.Answer → List Item) → Type 0
HasAdded old new server line answer put taken =
    (a : machines.Answer) (k : RowsAfter)
    → answer ≡ answer_of a
    → HasRows old k
    → HasRows new (adds server line (put a) (taken a) k)
