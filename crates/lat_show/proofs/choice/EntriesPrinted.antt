-- What is printed of the first lines of an input, and of those that follow.
use Rattle.std.proofs.Common.{◌≡◌, ℕ, ◌+◌, true, false, List, [], ◌∷◌, ◌++◌, length, append_assoc, refl, sym, ap, ◌∙◌, arith}
use Rattle.std.proofs.lemmas.List.{append-nil}
use Rattle.std.proofs.lemmas.Bool.Decides.{nat_tests}
use Rattle.std.specs.Prelude.{None, Some, Result, Ok, Err, ◌==◌}
use Rattle.std.specs.Result.{result_map_both}
use Rattle.lat_text.specs.Lines.{Lines, End, Cut, Line, lines_of, no_line}
use Rattle.lat_text.specs.WrongLine.{wrong_line}
use Rattle.lat_machines.specs.server.Directory.{HeardAnnouncement}
use Rattle.lat_dir.specs.Stands.{Kept, Stands}
use Rattle.lat_show.specs.declared.choice.entry.Entry.{Entry}
use Rattle.lat_show.specs.choice.Entries.{moment, entry_from}
use Rattle.lat_show.specs.choice.Printed.{entry_printed, heard_after}
use Rattle.lat_show.specs.choice.ChooseOf.{◌>>=◌, entries_of, entries_printed, lines_printed, answer_of, printed_after, opening_of, choose_of}

-- a text in front of what further lines print
abbrev pub behind : List ℕ → Result (List ℕ) ℕ → Result (List ℕ) ℕ
behind text more = result_map_both (λ t. text ++ t) (λ wrong. wrong) more

behind_both : (a b : List ℕ) (more : Result (List ℕ) ℕ) → behind a (behind b more) ≡ behind (a ++ b) more
behind_both a b (Ok text) = ap Ok (sym (append_assoc a b text))
behind_both a b (Err number) = refl

-- a line that is an entry prints what the entry does
line_prints : (groups : List ℕ) (number last : ℕ) (h : List HeardAnnouncement) (line : List ℕ) (entry : Entry) (more : Lines) → entry_from last line ≡ Some entry
    → lines_printed groups number last h (Line line more)
    ≡ behind (entry_printed groups number h entry) (lines_printed groups (number + 1) (moment entry) (heard_after groups h entry) more)
unfolding entries_of entries_printed
line_prints groups number last h line entry more found = rw found (rest (entries_of (number + 1) (moment entry) more))
  where
    rest : (entries : Result (List Entry) ℕ) → result_map_both (entries_printed groups number h) (λ wrong. wrong) (entries >>= (λ es. Ok (entry ∷ es)))
        ≡ behind (entry_printed groups number h entry) (result_map_both (entries_printed groups (number + 1) (heard_after groups h entry)) (λ wrong. wrong) entries)
    rest (Ok es) = refl
    rest (Err wrong) = refl

-- What was printed so far stands in front of what the lines left print, over what was heard so far
pub record Walks (all : Result (List ℕ) ℕ) (directory : Kept) (last number : ℕ) (text rest : List ℕ) : Type 0 where
  pub heard : List HeardAnnouncement
  pub stands : Stands directory heard
  pub shown : all ≡ behind text (lines_printed directory.groups number last heard (lines_of rest))

behind_none : (more : Result (List ℕ) ℕ) → more ≡ behind [] more
behind_none (Ok text) = refl
behind_none (Err number) = refl

pub walks_start : (input rest groups : List ℕ) (number : ℕ) (directory : Kept) → record { groups = groups; number = number; lines = lines_of rest } ≡ opening_of (lines_of input)
    → directory.groups ≡ groups → Stands directory [] → Walks (printed_after (opening_of (lines_of input))) directory 0 number [] rest
walks_start input rest groups number directory opens same stands =
    record {
      heard = [];
      stands = stands;
      shown = sym (ap printed_after opens) ∙ ap (λ gs. lines_printed gs number 0 [] (lines_of rest)) (sym same) ∙ behind_none (lines_printed directory.groups number 0 [] (lines_of rest));
    }

pub walks_on : (all : Result (List ℕ) ℕ) (before after : Kept) (last number : ℕ) (text new line rest more : List ℕ) (entry : Entry)
    → Walks all before last number text rest → lines_of rest ≡ Line line (lines_of more) → entry_from last line ≡ Some entry
    → ((h : List HeardAnnouncement) → Stands before h → new ≡ text ++ entry_printed before.groups number h entry)
    → ((h : List HeardAnnouncement) → Stands before h → Stands after (heard_after before.groups h entry))
    → after.groups ≡ before.groups → Walks all after (moment entry) (number + 1) new more
walks_on all before after last number text new line rest more entry walks is found prints hears same =
    let h = walks.heard in
    let next = heard_after before.groups h entry in
    let printed = entry_printed before.groups number h entry in
    let rests = lines_printed before.groups (number + 1) (moment entry) next (lines_of more) in
    record {
      heard = next;
      stands = hears h walks.stands;
      shown = walks.shown
          ∙ ap (λ lines. behind text (lines_printed before.groups number last h lines)) is
          ∙ ap (behind text) (line_prints before.groups number last h line entry (lines_of more) found)
          ∙ behind_both text printed rests
          ∙ ap (λ t. behind t rests) (sym (prints h walks.stands))
          ∙ ap (λ gs. behind new (lines_printed gs (number + 1) (moment entry) next (lines_of more))) (sym same);
    }

answers_wrong : (input printed : List ℕ) (number : ℕ) → printed_after (opening_of (lines_of input)) ≡ Err number → printed ≡ wrong_line number → (2, printed) ≡ choose_of input
answers_wrong input printed number whole is = ap (λ (t : List ℕ). (2, t)) is ∙ sym (ap answer_of whole)

-- a line that is no entry is the first wrong one
pub line_is_wrong : (input text printed line rest more : List ℕ) (directory : Kept) (last number : ℕ) → Walks (printed_after (opening_of (lines_of input))) directory last number text rest
    → lines_of rest ≡ Line line (lines_of more) → entry_from last line ≡ None → printed ≡ wrong_line number → (2, printed) ≡ choose_of input
unfolding entries_of
line_is_wrong input text printed line rest more directory last number walks is none print =
    let here : behind text (lines_printed directory.groups number last walks.heard (lines_of rest)) ≡ Err number = rw (is, none) refl in
    answers_wrong input printed number (walks.shown ∙ here) print

is_cut : (rest : List ℕ) → (length rest == 0) ≡ false → no_line rest ≡ Cut
is_cut [] some = absurd (let differ : true ≡ false = some in cc)
is_cut (b ∷ rest) some = refl

is_end : (rest : List ℕ) → (length rest == 0) ≡ true → no_line rest ≡ End
is_end [] none = refl
is_end (b ∷ rest) none = absurd (grind (arith, nat_tests))

-- so are bytes that no line feed ends
pub cut_is_wrong : (input text printed rest : List ℕ) (directory : Kept) (last number : ℕ) → Walks (printed_after (opening_of (lines_of input))) directory last number text rest
    → lines_of rest ≡ no_line rest → (length rest == 0) ≡ false → printed ≡ wrong_line number → (2, printed) ≡ choose_of input
unfolding entries_of
cut_is_wrong input text printed rest directory last number walks is some print =
    let cut : lines_of rest ≡ Cut = is ∙ is_cut rest some in
    let here : behind text (lines_printed directory.groups number last walks.heard (lines_of rest)) ≡ Err number =
    ap (λ (lines : Lines). behind text (lines_printed directory.groups number last walks.heard lines)) cut in
    answers_wrong input printed number (walks.shown ∙ here) print

-- behind the last line the text is whole
pub end_is_right : (input text rest : List ℕ) (directory : Kept) (last number : ℕ) → Walks (printed_after (opening_of (lines_of input))) directory last number text rest
    → lines_of rest ≡ no_line rest → (length rest == 0) ≡ true → (0, text) ≡ choose_of input
unfolding entries_of entries_printed
end_is_right input text rest directory last number walks is none =
    let end : lines_of rest ≡ End = is ∙ is_end rest none in
    let here : behind text (lines_printed directory.groups number last walks.heard (lines_of rest)) ≡ Ok (text ++ []) =
    ap (λ (lines : Lines). behind text (lines_printed directory.groups number last walks.heard lines)) end in
    sym (ap answer_of (walks.shown ∙ here ∙ ap Ok (append-nil text)))
