-- What is printed of the first lines of an input, and of those that follow.
use Rattle.std.proofs.Common.{◌≡◌, ℕ, ◌+◌, true, false, List, [], ◌∷◌, ◌++◌, length, append_assoc, refl, sym, ap, ◌∙◌, arith}
use Rattle.std.proofs.lemmas.List.{append-nil}
use Rattle.std.proofs.lemmas.Bool.Decides.{nat_tests}
use Rattle.std.specs.Prelude.{None, Some, Result, Ok, Err, ◌==◌}
use Rattle.lat_text.specs.Lines.{Lines, End, Cut, Line, lines_of, no_line}
use Rattle.lat_text.specs.WrongLine.{wrong_line}
use Rattle.lat_show.specs.PayloadPrinted.{payload_printed}
use Rattle.lat_show.specs.ShowOf.{payload_of, shown_before, lines_printed, answer_of, show_of}

before_both : (a b : List ℕ) (more : Result (List ℕ) ℕ) → shown_before a (shown_before b more) ≡ shown_before (a ++ b) more
before_both a b (Ok text) = ap Ok (sym (append_assoc a b text))
before_both a b (Err number) = refl

line_adds : (text : List ℕ) (number : ℕ) (line payload : List ℕ) (rest more : Lines) → rest ≡ Line line more → payload_of line ≡ Some payload
    → shown_before text (lines_printed number rest) ≡ shown_before (text ++ payload_printed payload) (lines_printed (number + 1) more)
unfolding lines_printed
line_adds text number line payload rest more is found =
    rw (is, found) (before_both text (payload_printed payload) (lines_printed (number + 1) more))

-- a right line adds what is printed of its payload
pub line_added : (all : Result (List ℕ) ℕ) (text new : List ℕ) (number : ℕ) (line payload given : List ℕ) (rest more : Lines) → all ≡ shown_before text (lines_printed number rest)
    → rest ≡ Line line more → payload_of line ≡ Some payload → given ≡ payload → new ≡ text ++ payload_printed given → all ≡ shown_before new (lines_printed (number + 1) more)
line_added all text new number line payload given rest more so_far is found same added =
    so_far ∙ line_adds text number line payload rest more is found
    ∙ ap (λ t. shown_before t (lines_printed (number + 1) more)) (sym (added ∙ ap (λ p. text ++ payload_printed p) same))

answers_wrong : (input printed : List ℕ) (number : ℕ) → lines_printed 1 (lines_of input) ≡ Err number → printed ≡ wrong_line number → (2, printed) ≡ show_of input
answers_wrong input printed number whole is = ap (λ (t : List ℕ). (2, t)) is ∙ sym (ap answer_of whole)

-- a line without a payload is the first wrong one
pub line_is_wrong : (input text printed : List ℕ) (number : ℕ) (line : List ℕ) (rest more : Lines) → lines_printed 1 (lines_of input) ≡ shown_before text (lines_printed number rest)
    → rest ≡ Line line more → payload_of line ≡ None → printed ≡ wrong_line number → (2, printed) ≡ show_of input
unfolding lines_printed
line_is_wrong input text printed number line rest more so_far is none print =
    let here : shown_before text (lines_printed number rest) ≡ Err number = rw (is, none) refl in
    answers_wrong input printed number (so_far ∙ here) print

is_cut : (rest : List ℕ) → (length rest == 0) ≡ false → no_line rest ≡ Cut
is_cut [] some = absurd (let no : true ≡ false = some in cc)
is_cut (b ∷ rest) some = refl

is_end : (rest : List ℕ) → (length rest == 0) ≡ true → no_line rest ≡ End
is_end [] none = refl
is_end (b ∷ rest) none = absurd (grind (arith, nat_tests))

-- so are bytes that no line feed ends
pub cut_is_wrong : (input text printed : List ℕ) (number : ℕ) (rest : List ℕ) → lines_printed 1 (lines_of input) ≡ shown_before text (lines_printed number (lines_of rest))
    → lines_of rest ≡ no_line rest → (length rest == 0) ≡ false → printed ≡ wrong_line number → (2, printed) ≡ show_of input
unfolding lines_printed
cut_is_wrong input text printed number rest so_far is some print =
    let cut : lines_of rest ≡ Cut = is ∙ is_cut rest some in
    let here : shown_before text (lines_printed number (lines_of rest)) ≡ Err number = ap (λ (l : Lines). shown_before text (lines_printed number l)) cut in
    answers_wrong input printed number (so_far ∙ here) print

-- behind the last line the text is whole
pub end_is_right : (input text : List ℕ) (number : ℕ) (rest : List ℕ) → lines_printed 1 (lines_of input) ≡ shown_before text (lines_printed number (lines_of rest))
    → lines_of rest ≡ no_line rest → (length rest == 0) ≡ true → (0, text) ≡ show_of input
unfolding lines_printed
end_is_right input text number rest so_far is none =
    let end : lines_of rest ≡ End = is ∙ is_end rest none in
    let here : shown_before text (lines_printed number (lines_of rest)) ≡ Ok (text ++ []) = ap (λ (l : Lines). shown_before text (lines_printed number l)) end in
    sym (ap answer_of (so_far ∙ here ∙ ap Ok (append-nil text)))
