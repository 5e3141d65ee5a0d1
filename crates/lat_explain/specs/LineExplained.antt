-- Why a line of an input is wrong: how far some line that may stand there goes with it, what could follow, and what was found.
use Rattle.std.specs.Prelude.{ℕ, zero, suc, ◌+◌, ◌-◌, Bool, false, not, ◌&&◌, ◌||◌, List, [], ◌∷◌, ◌++◌, length, take, drop, Option, Some, None, is_some, position, unwrap_or, nat_lt, bytes_eq, codes, decimal, ◌==◌, if◌then◌else◌}
use Rattle.lat_text.specs.Lines.{lines_of}
use Rattle.lat_explain.specs.declared.awaited.Input.{Input}
use Rattle.lat_explain.specs.declared.awaited.Input.TheVariants.{Payloads, Choice, Capture, Schedule}
use Rattle.lat_explain.specs.declared.walk.Way.TheVariants.{Stuck}
use Rattle.lat_explain.specs.Awaited.{payload_forms, choice_forms, capture_forms, schedule_forms, Said, said_before}
use Rattle.lat_explain.specs.Before.{last_behind, last_line, silent_lines}
use Rattle.lat_explain.specs.Forms.{Taken}
use Rattle.lat_explain.specs.Found.{found, start_of}
use Rattle.lat_explain.specs.Walks.{Walk, walked, front_word}
use Rattle.lat_explain.specs.Wanted.{wanted}

abbrev pub feed_in : List ℕ → Option ℕ
feed_in text = position (λ b. b == 10) text

abbrev pub behind_feed : List ℕ → Option ℕ → List ℕ
behind_feed text None = text
behind_feed text (Some end) = drop (end + 1) text

-- the text behind its first lines, so many
unfoldable pub text_behind : ℕ → List ℕ → List ℕ
text_behind zero text = text
text_behind (suc n) text = text_behind n (behind_feed text (feed_in text))

-- the first line of a text, and whether a line feed ends it
abbrev pub front_line : List ℕ → List ℕ
front_line text = take (unwrap_or (feed_in text) (length text)) text

abbrev pub is_ended : List ℕ → Bool
is_ended text = is_some (feed_in text)

abbrev pub begins_comment : List ℕ → Bool
begins_comment [] = false
begins_comment (b ∷ line) = b == 35

-- the last line that says something among the first ones
abbrev pub before_line : (before : ℕ) → List ℕ → List ℕ
before_line before text = last_line before (lines_of text) []

-- the address of the server, which is the first word behind `server`
abbrev pub taken_of : Said → Taken
taken_of s = record { server = front_word s.server; services = s.services }

-- the lines that may stand behind the first ones, so many, and silent ones or not
abbrev pub table_at : Input → (before : ℕ) → (silent : Bool) → List ℕ → List ℕ
table_at Payloads before silent text = payload_forms
table_at Choice before silent text = choice_forms before (before_line before text)
table_at Capture before silent text = capture_forms before
table_at Schedule before silent text = schedule_forms silent (before_line before text) (said_before before (lines_of text))

-- The silent lines that are passed over: those in front of the first line of a schedule
abbrev pub passed : Input → (before : ℕ) → List ℕ → ℕ
passed Schedule before text = if length (before_line before text) == 0 then silent_lines (lines_of (text_behind before text)) else 0
passed input before text = 0

-- comments may stand here
abbrev pub may_comment : Input → (before : ℕ) → List ℕ → Bool
may_comment Schedule before text =
    length (before_line before text) == 0 || bytes_eq (last_behind (codes "lat") before (lines_of text) []) (codes "3")
may_comment input before text = false

-- a comment that no line feed ends wants one
abbrev pub is_open_comment : Input → (before : ℕ) → (text rest : List ℕ) → Bool
is_open_comment input before text rest = not (is_ended rest) && begins_comment rest && may_comment input before text

abbrev pub comment_walk : List ℕ → Walk
comment_walk line = record { best = length line; wanted = 10 ∷ []; way = Stuck }

-- how far the line goes
abbrev pub walk_at : Input → (before : ℕ) → (silent : Bool) → (text rest : List ℕ) → Walk
walk_at input before silent text rest =
    if is_open_comment input before text rest then comment_walk (front_line rest)
    else walked (taken_of (said_before before (lines_of text))) (front_line rest) (table_at input before silent text)

-- the line that says it, by the number of the wrong line, the column of the first byte that no line has there, both counted from 1
abbrev pub place_told : (number column : ℕ) → List ℕ
place_told number column = codes "lat: line " ++ (decimal number ++ (codes ", column " ++ (decimal column ++ codes ": ")))

abbrev pub line_told : (ended : Bool) → (line : List ℕ) → (at : ℕ) → (forms : List ℕ) → List ℕ
line_told ended line at forms =
    wanted ended (at - start_of line at) (lines_of forms) ++ (codes " expected, found " ++ found ended line at)

unfoldable pub walk_explained : (number : ℕ) → (rest : List ℕ) → Walk → List ℕ
walk_explained number rest w = place_told number (w.best + 1) ++ (line_told (is_ended rest) (front_line rest) w.best w.wanted ++ codes "\n")

abbrev pub rest_explained : Input → (before passed : ℕ) → List ℕ → List ℕ
rest_explained input before passed text =
    let rest = text_behind (before + passed) text in
    walk_explained (before + passed + 1) rest (walk_at input before (nat_lt 0 passed) text rest)

-- of an input whose line behind the first ones is wrong
unfoldable pub line_explained : Input → (before : ℕ) → List ℕ → List ℕ
line_explained input before text = rest_explained input before (passed input before text) text
