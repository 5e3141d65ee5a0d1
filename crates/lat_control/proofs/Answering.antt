-- Answers, one after another.
use Rattle.std.proofs.Common.{◌≡◌, ℕ, ◌+◌, ◌<◌, ◌==◌, true, false, if◌then◌else◌, List, [], ◌∷◌, ◌++◌, length, take, refl, sym, ap, ◌∙◌, subst, append_assoc, get_or}
use Rattle.std.proofs.lemmas.List.{append-nil}
use Rattle.std.specs.Prelude.{Result, Ok, Err, OnOk, is_err}
use Rattle.std.proofs.lemmas.Bool.{true≢false}
use Rattle.lat_control.specs.Answered.{Answered, AnsweredFirst, AnsweredMore, Said}
use Rattle.lat_control.specs.Lines.{begun_after, line_at, lines_after, without_return}
use Rattle.lat_control.proofs.Cuts.{lines_more}

pub answered_append : (says : List ℕ → List ℕ → Type 0) (ls ms : List (List ℕ)) (t u : List ℕ) →
    Answered says ls t → Answered says ms u → Answered says (ls ++ ms) (t ++ u)
answered_append says [] ms t u none more = subst (λ w. Answered says ms (w ++ u)) (sym none) more
answered_append says (l ∷ ls) ms t u first more = record {
  answer = first.answer;
  rest = first.rest ++ u;
  said = first.said;
  whole = ap (λ w. w ++ u) first.whole ∙ append_assoc first.answer (10 ∷ first.rest) u;
  behind = answered_append says ls ms first.rest u first.behind more;
}

-- one line was answered
pub one_more : (says : List ℕ → List ℕ → Type 0) (line answer before now : List ℕ) → Said says line answer →
    now ≡ before ++ (answer ++ 10 ∷ []) → AnsweredMore says (line ∷ []) before now
one_more says line answer before now said whole = record {
  added = answer ++ 10 ∷ [];
  whole = whole;
  answered = record { answer = answer; rest = []; said = said; whole = refl; behind = refl };
}

-- none was
pub none_more : (says : List ℕ → List ℕ → Type 0) (before : List ℕ) → AnsweredMore says [] before before
none_more says before = record { added = []; whole = sym (append-nil before); answered = refl }

pub more_append : (says : List ℕ → List ℕ → Type 0) (ls ms : List (List ℕ)) (before mid now : List ℕ) →
    AnsweredMore says ls before mid → AnsweredMore says ms mid now → AnsweredMore says (ls ++ ms) before now
more_append says ls ms before mid now first second = record {
  added = first.added ++ second.added;
  whole = second.whole ∙ ap (λ w. w ++ second.added) first.whole ∙ append_assoc before first.added second.added;
  answered = answered_append says ls ms first.added second.added first.answered second.answered;
}

-- behind one more byte
pub owed_kept : (says : List ℕ → List ℕ → Type 0) (line now xs : List ℕ) (i : ℕ) (before mid next : List ℕ) → i < length xs →
    now ≡ begun_after line (take i xs) → AnsweredMore says (lines_after line (take i xs)) before mid →
    AnsweredMore says (line_at now (get_or xs i 0)) mid next → AnsweredMore says (lines_after line (take (i + 1) xs)) before next
owed_kept says line now xs i before mid next lt is first second =
    let lines = lines_after line (take i xs) in
    let same : lines ++ line_at now (get_or xs i 0) ≡ lines_after line (take (i + 1) xs) =
    ap (λ w. lines ++ line_at w (get_or xs i 0)) is ∙ sym (lines_more line xs i 0 lt) in
    subst (λ ls. AnsweredMore says ls before next) same (more_append says lines (line_at now (get_or xs i 0)) before mid next first second)

-- a byte that ends the line, and one that doesn't
pub line_ends : (says : List ℕ → List ℕ → Type 0) (begun before now : List ℕ) (b : ℕ) → (b == 10) ≡ true →
    AnsweredMore says (without_return begun ∷ []) before now → AnsweredMore says (line_at begun b) before now
line_ends says begun before now b is more =
    subst (λ c. AnsweredMore says (if c then without_return begun ∷ [] else []) before now) (sym is) more

pub line_goes_on : (says : List ℕ → List ℕ → Type 0) (begun before : List ℕ) (b : ℕ) → (b == 10) ≡ false →
    AnsweredMore says (line_at begun b) before before
line_goes_on says begun before b is =
    subst (λ c. AnsweredMore says (if c then without_return begun ∷ [] else []) before before) (sym is) (none_more says before)

-- what holds where there is no error
pub then_ok : {T E : Type 0} (P : Type 0) (r : Result T E) → is_err r ≡ false → OnOk r P → P
then_ok P (Ok x) none p = p
then_ok P (Err e) none p = absurd (true≢false none)
