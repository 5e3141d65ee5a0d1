-- The text behind lines, and what stands between forms.
use Rattle.std.proofs.Common.{◌≡◌, ℕ, ◌+◌, ◌-◌, ◌<◌, Bool, true, false, List, [], ◌∷◌, length, refl}
use Rattle.std.specs.Prelude.{codes, ◌==◌}
use Rattle.lat_text.specs.Lines.{Lines, End, Cut, Line, lines_of, byte_before, line_feed}
use Rattle.lat_explain.specs.LineExplained.{text_behind}
use Rattle.lat_explain.specs.Wanted.{separator}
use Rattle.lat_explain.proofs.Counts.{one_more}

pub behind_more : (n k : ℕ) (rest next : List ℕ) → k < n → next ≡ text_behind 1 rest → text_behind (n - k) rest ≡ text_behind (n - (k + 1)) next
unfolding text_behind
behind_more n k rest next lt is = rw (one_more n k lt, is) refl

before_comma : (b : ℕ) (lines : Lines) → codes ", " ≡ separator (byte_before b lines)
before_comma b End = refl
before_comma b Cut = refl
before_comma b (Line line more) = refl

some_comma : (b : ℕ) (text : List ℕ) (test : Bool) → (b == line_feed) ≡ test → codes ", " ≡ separator (lines_of (b ∷ text))
some_comma b text true is = rw is refl
some_comma b text false is = rw is (before_comma b (lines_of text))

-- in front of a text with a byte stands a comma
pub comma : (text : List ℕ) → (length text == 0) ≡ false → codes ", " ≡ separator (lines_of text)
comma [] some = absurd (let no : true ≡ false = some in cc)
comma (b ∷ text) some = some_comma b text (b == line_feed) refl
