-- Silent lines, and what stands behind them.
use Rattle.std.proofs.Common.{◌≡◌, ℕ, ◌+◌, Bool, true, false, ◌&&◌, List, [], ◌∷◌, length, refl, sym, ap}
use Rattle.std.specs.Prelude.{Err, ◌==◌}
use Rattle.std.proofs.lemmas.Bool.{true≢false}
use Rattle.lat_text.specs.Lines.{Lines, End, Cut, Line, lines_of, line_feed, byte_before}
use Rattle.lat_schedule.specs.Places.{Numbered, is_silent, numbered, nothing_at}
use Rattle.lat_schedule.specs.Rests.{Says}

-- a line that isn't passed over
said : (silent : Bool) (number : ℕ) (line : List ℕ) (more : Lines)
    → (silent && is_silent line) ≡ false → numbered silent number (Line line more) ≡ Numbered number line (numbered silent (number + 1) more)
said silent number line more loud = rw loud refl

-- what is left of a text without a line that is passed over in front is one too many, if it has a byte
some_left : (silent : Bool) (number : ℕ) (lines : Lines) → (lines ≡ End → ⊥) → Says silent lines → Err number ≡ nothing_at (numbered silent number lines)
some_left silent number End some says = absurd (some refl)
some_left silent number Cut some says = refl
some_left silent number (Line line more) some says = sym (ap nothing_at (said silent number line more says))

not_end : (b : ℕ) (text : List ℕ) → lines_of (b ∷ text) ≡ End → ⊥
not_end b text e = go (b == line_feed) refl
  where
    before : (lines : Lines) → byte_before b lines ≡ End → ⊥
    before End q = cc
    before Cut q = cc
    before (Line line more) q = cc

    go : (test : Bool) → (b == line_feed) ≡ test → ⊥
    go true is = let q : Line [] (lines_of text) ≡ End = rw is at e in cc
    go false is = before (lines_of text) (rw is at e)

pub not_over : (silent : Bool) (number : ℕ) (text : List ℕ) → (length text == 0) ≡ false → Says silent (lines_of text) → Err number ≡ nothing_at (numbered silent number (lines_of text))
not_over silent number [] some says = absurd (true≢false some)
not_over silent number (b ∷ text) some says = some_left silent number (lines_of (b ∷ text)) (not_end b text) says
