-- How far a line goes with the forms that it may have. A table has the words of all forms, each ended by a line feed, and behind
-- the last word of a form a line without a byte.
use Rattle.std.specs.Prelude.{ℕ, ◌+◌, ◌-◌, ◌≤◌, List, [], ◌∷◌, ◌++◌, length, take, drop, Bool, true, false, nat_lt, position, unwrap_or, bytes_eq, ◌==◌, if◌then◌else◌}
use Rattle.lat_text.specs.Lines.{Lines, End, Cut, Line, lines_of}
use Rattle.lat_explain.specs.declared.walk.Way.{Way}
use Rattle.lat_explain.specs.declared.walk.Way.TheVariants.{Open, Over, Stuck}
use Rattle.lat_explain.specs.declared.walk.Walk as declared
use Rattle.lat_explain.specs.Forms.{Taken, fits, begun}

-- how far a line goes with some form, which words could stand there, each ended by a line feed, and where the next word is read
pub record Walk : Type 0 where
  pub best : ℕ
  pub wanted : List ℕ
  pub way : Way

abbrev pub shown : declared.Walk → Walk
shown w = record { best = w.best; wanted = w.wanted.items; way = w.way }

-- a word is read within a line of so many bytes
abbrev pub reads_within : ℕ → Way → Type 0
reads_within most (Open at) = at ≤ most
reads_within most Over = Unit {0}
reads_within most Stuck = Unit {0}

-- nothing lies behind its end
pub record IsWithin (most : ℕ) (w : declared.Walk) : Type 0 where
  pub best : w.best ≤ most
  pub way : reads_within most w.way

abbrev pub beginning : Walk
beginning = record { best = 0; wanted = []; way = Open 0 }

unfoldable pub has_line : List ℕ → Lines → Bool
has_line form End = false
has_line form Cut = false
has_line form (Line line more) = if bytes_eq line form then true else has_line form more

-- one more form among those that could stand there, unless it is there
abbrev pub with_form : List ℕ → List ℕ → List ℕ
with_form form wanted = if has_line form (lines_of wanted) then wanted else wanted ++ (form ++ 10 ∷ [])

-- the line goes up to here with a form, and this would follow
abbrev pub stops : Walk → (at : ℕ) → (form : List ℕ) → Walk
stops w at form =
    if nat_lt at w.best then record { best = w.best; wanted = w.wanted; way = Stuck }
    else if nat_lt w.best at then record { best = at; wanted = form ++ 10 ∷ []; way = Stuck }
    else record { best = w.best; wanted = with_form form w.wanted; way = Stuck }

-- the word in front of a text's first space, or all of it
abbrev pub front_word : List ℕ → List ℕ
front_word text = take (unwrap_or (position (λ b. b == 32) text) (length text)) text

-- where the next word of a line begins behind one that ends here
abbrev pub way_behind : (line : List ℕ) → (end : ℕ) → Way
way_behind line end = if nat_lt end (length line) then Open (end + 1) else Over

-- the word that begins here goes with this form, or the line stops in it
abbrev pub goes : Taken → (line form : List ℕ) → (at : ℕ) → (word : List ℕ) → Walk → Walk
goes taken line form at word w =
    if fits taken form word then record { best = w.best; wanted = w.wanted; way = way_behind line (at + length word) }
    else stops w (at + begun taken form word) form

-- one more word of a form
abbrev pub meets : Taken → (line form : List ℕ) → Walk → Way → Walk
meets taken line form w (Open at) = goes taken line form at (front_word (drop at line)) w
meets taken line form w Over = stops w (length line) form
meets taken line form w Stuck = w

-- behind the last word of a form nothing follows: a word without a byte stands for that
abbrev pub ends : (line : List ℕ) → Walk → Way → Walk
ends line w (Open at) = stops w (at - 1) []
ends line w Over = stops w (length line) []
ends line w Stuck = w

-- the next form is read from the beginning of the line
abbrev pub again : Walk → Walk
again w = record { best = w.best; wanted = w.wanted; way = Open 0 }

abbrev pub step : Taken → (line form : List ℕ) → Walk → Walk
step taken line [] w = again (ends line w w.way)
step taken line (b ∷ form) w = meets taken line (b ∷ form) w w.way

unfoldable pub walk : Taken → (line : List ℕ) → Walk → Lines → Walk
walk taken line w End = w
walk taken line w Cut = w
walk taken line w (Line form more) = walk taken line (step taken line form w) more

abbrev pub walked : Taken → (line table : List ℕ) → Walk
walked taken line table = walk taken line beginning (lines_of table)
