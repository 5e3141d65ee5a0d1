-- Why an event of a schedule is refused, or a limit passed, by the line that says so.
use Rattle.std.specs.Prelude.{ℕ, ◌+◌, List, [], ◌∷◌, ◌++◌, take, drop, Option, Some, None, position, bytes_eq, codes, decimal, ◌==◌, if◌then◌else◌}
use Rattle.lat_text.specs.Lines.{Lines, End, Cut, Line, lines_of}
use Rattle.lat_explain.specs.declared.refused.Why.{Why}
use Rattle.lat_explain.specs.declared.refused.Why.TheVariants.{Backward, NoFrame, Old, Limit, OwnStation}
use Rattle.lat_explain.specs.Awaited.{behind_space}
use Rattle.lat_explain.specs.Found.{shown}
use Rattle.lat_explain.specs.Walks.{front_word}

-- a word behind this text
unfoldable pub said : (before word : List ℕ) → List ℕ
said before word = before ++ shown word

-- a frame has a number that is too far behind the last
abbrev pub too_far_explained : (which last number : List ℕ) → List ℕ
too_far_explained which last number =
    said (codes "a frame whose ") which ++ (said (codes " isn't too far behind ") last ++ said (codes " expected, found ") number)

-- behind `old`: which number, and the two
abbrev pub old_explained : List ℕ → List ℕ
old_explained text =
    too_far_explained (front_word text) (front_word (behind_space (behind_space text))) (front_word (behind_space text))

-- two numbers, the first too small or too great beside the second
abbrev pub beside : (before between : List ℕ) → List ℕ → List ℕ
beside before between text =
    said before (front_word (behind_space text)) ++ said between (front_word text)

-- behind `limit`, of so many events
abbrev pub limit_explained : (events : ℕ) → List ℕ → List ℕ
limit_explained events word =
    if bytes_eq word (codes "events") then codes "at most " ++ (decimal events ++ codes " events expected, found more")
    else codes "at most 199744 sent frames expected, found more"

unfoldable pub own_station : List ℕ
own_station = codes "the address of another station expected, found that of an end"

-- the word that says why
abbrev pub why_of : List ℕ → Why
why_of word =
    if bytes_eq word (codes "backward") then Backward
    else if bytes_eq word (codes "noframe") then NoFrame
    else if bytes_eq word (codes "old") then Old
    else if bytes_eq word (codes "limit") then Limit
    else OwnStation

abbrev pub why_explained : (events : ℕ) → Why → (rest : List ℕ) → List ℕ
why_explained events Backward rest = beside (codes "a moment from ") (codes " on expected, found ") rest
why_explained events NoFrame rest = beside (codes "the number of a frame below ") (codes " expected, found ") rest
why_explained events Old rest = old_explained rest
why_explained events Limit rest = limit_explained events (front_word rest)
why_explained events OwnStation rest = own_station

-- of the line or the round of this number
abbrev pub parts_explained : (events : ℕ) → (thing number why rest : List ℕ) → List ℕ
parts_explained events thing number why rest =
    said (codes "lat: ") thing ++ (said (codes " ") number ++ (codes ": " ++ (why_explained events (why_of why) rest ++ codes "\n")))

abbrev pub words_explained : (events : ℕ) → List ℕ → List ℕ
words_explained events text =
    let number = behind_space text in
    let why = behind_space number in
    parts_explained events (front_word text) (front_word number) (front_word why) (behind_space why)

unfoldable pub bytes_explained : List ℕ
bytes_explained = codes "lat: at most 16777216 bytes of input expected, found more\n"

-- the last line of a text but that which ends a picture
unfoldable pub final_line : Lines → (found : List ℕ) → List ℕ
final_line End found = found
final_line Cut found = found
final_line (Line line more) found = final_line more (if bytes_eq line (codes "</svg>") then found else line)

-- what stands within the tags of a line of a picture
abbrev pub front_at : List ℕ → Option ℕ → List ℕ
front_at text None = text
front_at text (Some end) = take end text

abbrev pub behind_at : List ℕ → Option ℕ → List ℕ
behind_at text None = text
behind_at text (Some end) = drop (end + 1) text

abbrev pub within_tags : List ℕ → List ℕ
within_tags line =
    let rest = behind_at line (position (λ b. b == 62) line) in
    front_at rest (position (λ b. b == 60) rest)

abbrev pub untagged : List ℕ → List ℕ
untagged [] = []
untagged (b ∷ line) = if b == 60 then within_tags (b ∷ line) else b ∷ line

-- by the text that was written, whose last line says it, of a command that plays so many events at most
unfoldable pub refused_explained : (events : ℕ) → List ℕ → List ℕ
refused_explained events text =
    if bytes_eq text (codes "limit bytes\n") then bytes_explained else words_explained events (untagged (final_line (lines_of text) []))
