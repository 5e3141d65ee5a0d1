-- What is known behind the first lines of an input, and what those that follow make of it.
use Rattle.std.proofs.Common.{◌≡◌, ℕ, ◌+◌, true, false, List, [], ◌∷◌, length, map, refl, sym, ap, ◌∙◌, arith}
use Rattle.std.proofs.lemmas.Bool.Decides.{nat_tests}
use Rattle.std.specs.Prelude.{None, Some, Result, Ok, Err, ◌==◌}
use Rattle.std.specs.Result.{result_map_both}
use Rattle.lat_text.specs.Lines.{Lines, End, Cut, Line, lines_of, no_line}
use Rattle.lat_text.specs.WrongLine.{wrong_line}
use Rattle.lat_captures.specs.Audit.{Verdict}
use Rattle.lat_captures.specs.declared.head.Title.{Title}
use Rattle.lat_captures.specs.Rules.{title_shown}
use Rattle.lat_audit.specs.declared.entry.Entry.{Entry}
use Rattle.lat_audit.specs.Lines.{title_of, entry_of}
use Rattle.lat_audit.specs.CaptureText.{◌>>=◌, entries_of}
use Rattle.lat_audit.specs.declared.auditor.Auditor.{Auditor}
use Rattle.lat_audit.specs.Shown.{entry_shown}
use Rattle.lat_audit.specs.Steps.{Progress, start, progressed, progressed_all, verdict_of}
use Rattle.lat_audit.specs.Follows.{FollowsCapture}
use Rattle.lat_audit.specs.AuditOf.{verdict_text, answer_of, audit_of}
use Rattle.lat_audit.proofs.Verdicts.{verdict_by_steps}

-- the verdict on entries behind those that led so far
abbrev verdict_behind : Title → Progress → List Entry → Verdict
verdict_behind t q es = verdict_of (progressed_all (title_shown t) q (map entry_shown es))

abbrev verdict_on : Title → Progress → Result (List Entry) ℕ → Result Verdict ℕ
verdict_on t q entries = result_map_both (verdict_behind t q) (λ wrong. wrong) entries

abbrev printed : Result Verdict ℕ → ℕ × List ℕ
printed (Ok v) = (0, verdict_text v)
printed (Err number) = (2, wrong_line number)

-- An audit knows what the lines so far have shown; the lines that are left lead from there to the answer
pub record Walks (input : List ℕ) (a : Auditor) (number : ℕ) (rest : List ℕ) : Type 0 where
  pub title : Title
  pub progress : Progress
  pub follows : FollowsCapture title a progress
  pub answer : audit_of input ≡ printed (verdict_on title progress (entries_of number (lines_of rest)))

title_first : (t : Title) (entries : Result (List Entry) ℕ) → answer_of (entries >>= (λ es. Ok (record { title = t; entries = es }))) ≡ printed (verdict_on t start entries)
title_first t (Ok es) = ap (λ (v : Verdict). (0, verdict_text v)) (verdict_by_steps (title_shown t) _ (map entry_shown es))
title_first t (Err number) = refl

pub walks_start : (input first lines : List ℕ) (t : Title) (a : Auditor) → lines_of input ≡ Line first (lines_of lines) → title_of first ≡ Some t → FollowsCapture t a start → Walks input a 2 lines
walks_start input first lines t a is found follows = record {
  title = t;
  progress = start;
  follows = follows;
  answer = rw (is, found) (title_first t (entries_of 2 (lines_of lines)));
}

entry_next : (t : Title) (q : Progress) (e : Entry) (entries : Result (List Entry) ℕ) → verdict_on t q (entries >>= (λ es. Ok (e ∷ es))) ≡ verdict_on t (progressed (title_shown t) q (entry_shown e)) entries
entry_next t q e (Ok es) = refl
entry_next t q e (Err number) = refl

pub walks_on : (input line more rest : List ℕ) (a b : Auditor) (number : ℕ) (e : Entry) → Walks input a number rest → lines_of rest ≡ Line line (lines_of more) → entry_of line ≡ Some e
    → ((t : Title) (q : Progress) → FollowsCapture t a q → FollowsCapture t b (progressed (title_shown t) q (entry_shown e))) → Walks input b (number + 1) more
unfolding entries_of
walks_on input line more rest a b number e walks is found hears = record {
  title = walks.title;
  progress = progressed (title_shown walks.title) walks.progress (entry_shown e);
  follows = hears walks.title walks.progress walks.follows;
  answer = walks.answer ∙ rw (is, found) (ap printed (entry_next walks.title walks.progress e (entries_of (number + 1) (lines_of more))));
}

-- the first wrong line

pub no_first : (input : List ℕ) → lines_of input ≡ no_line input → answer_of (Err 1) ≡ audit_of input
no_first [] is = refl
no_first (b ∷ input) is = rw is refl

pub no_title : (input first lines : List ℕ) → lines_of input ≡ Line first (lines_of lines) → title_of first ≡ None → answer_of (Err 1) ≡ audit_of input
no_title input first lines is none = rw (is, none) refl

pub line_is_wrong : (input line more rest : List ℕ) (a : Auditor) (number : ℕ) → Walks input a number rest → lines_of rest ≡ Line line (lines_of more) → entry_of line ≡ None
    → answer_of (Err number) ≡ audit_of input
unfolding entries_of
line_is_wrong input line more rest a number walks is none = sym (walks.answer ∙ rw (is, none) refl)

is_cut : (rest : List ℕ) → (length rest == 0) ≡ false → no_line rest ≡ Cut
is_cut [] some = absurd (let differ : true ≡ false = some in cc)
is_cut (b ∷ rest) some = refl

is_end : (rest : List ℕ) → (length rest == 0) ≡ true → no_line rest ≡ End
is_end [] none = refl
is_end (b ∷ rest) none = absurd (grind (arith, nat_tests))

pub cut_is_wrong : (input rest : List ℕ) (a : Auditor) (number : ℕ) → Walks input a number rest → lines_of rest ≡ no_line rest → (length rest == 0) ≡ false
    → answer_of (Err number) ≡ audit_of input
unfolding entries_of
cut_is_wrong input rest a number walks is some =
    let cut : lines_of rest ≡ Cut = is ∙ is_cut rest some in
    sym (walks.answer ∙ ap (λ (lines : Lines). printed (verdict_on walks.title walks.progress (entries_of number lines))) cut)

pub end_is_right : (input rest text : List ℕ) (a : Auditor) (number : ℕ) → Walks input a number rest → lines_of rest ≡ no_line rest → (length rest == 0) ≡ true
    → ((t : Title) (q : Progress) → FollowsCapture t a q → text ≡ verdict_text (verdict_of q)) → (0, text) ≡ audit_of input
unfolding entries_of
end_is_right input rest text a number walks is none told =
    let end : lines_of rest ≡ End = is ∙ is_end rest none in
    sym (walks.answer ∙ ap (λ (lines : Lines). printed (verdict_on walks.title walks.progress (entries_of number lines))) end ∙ ap (λ (words : List ℕ). (0, words)) (sym (told walks.title walks.progress walks.follows)))
