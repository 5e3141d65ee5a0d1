-- Lines that go on with what those before them have made.
use Rattle.std.proofs.Common.{◌≡◌, ℕ, List, refl, sym, ap, ◌∙◌}
use Rattle.std.specs.Prelude.{Option, Some, None, Ok, Err}
use Rattle.lat_schedule.specs.Places.{Place, Over, Unended, Numbered, line_at, many}

-- a line that goes on
pub said_more : {S : Type 0} (more : S → ℕ → List ℕ → Option S) (before after : S) (number : ℕ) (line : List ℕ) (rest : Place)
    → more before number line ≡ Some after → many more before (Numbered number line rest) ≡ many more after rest
unfolding many
said_more more before after number line rest is = rw (is, many) refl

-- a line that doesn't
pub said_none : {S : Type 0} (more : S → ℕ → List ℕ → Option S) (before : S) (number : ℕ) (line : List ℕ) (rest : Place)
    → more before number line ≡ None → many more before (Numbered number line rest) ≡ (before, Numbered number line rest)
unfolding many
said_none more before number line rest is = rw (is, many) refl

-- no line is left
no_line_more : {S : Type 0} (more : S → ℕ → List ℕ → Option S) (before : S) (n : ℕ) (at : Place) → Err n ≡ line_at at → many more before at ≡ (before, at)
unfolding many
no_line_more more before n (Over number) h = refl
no_line_more more before n (Unended number) h = refl
no_line_more more before n (Numbered number line rest) h = absurd (cc)

-- the next line goes on
pub goes_on : {S : Type 0} (more : S → ℕ → List ℕ → Option S) (before after : S) (at : Place) (number : ℕ) (line : List ℕ) (behind : Place)
    → Ok (number, line, behind) ≡ line_at at → Some after ≡ more before number line → many more before at ≡ many more after behind
goes_on more before after (Over n) number line behind next is = absurd (cc)
goes_on more before after (Unended n) number line behind next is = absurd (cc)
goes_on more before after (Numbered n l rest) number line behind next is =
    let e : (number, line, behind) ≡ (n, l, rest) = cc in
    let found : more before n l ≡ Some after = ap (λ (p : ℕ × List ℕ × Place). more before p.0 p.1) (sym e) ∙ sym is in
    said_more more before after n l rest found ∙ ap (λ (p : ℕ × List ℕ × Place). many more after p.2) (sym e)

-- the next line doesn't
pub stops : {S : Type 0} (more : S → ℕ → List ℕ → Option S) (before : S) (at : Place) (number : ℕ) (line : List ℕ) (behind : Place)
    → Ok (number, line, behind) ≡ line_at at → None ≡ more before number line → (before, at) ≡ many more before at
stops more before (Over n) number line behind next is = absurd (cc)
stops more before (Unended n) number line behind next is = absurd (cc)
stops more before (Numbered n l rest) number line behind next is =
    let e : (number, line, behind) ≡ (n, l, rest) = cc in
    sym (said_none more before n l rest (ap (λ (p : ℕ × List ℕ × Place). more before p.0 p.1) (sym e) ∙ sym is))

-- there is none
pub ends : {S : Type 0} (more : S → ℕ → List ℕ → Option S) (before : S) (n : ℕ) (at : Place) → Err n ≡ line_at at → (before, at) ≡ many more before at
ends more before n at h = sym (no_line_more more before n at h)
