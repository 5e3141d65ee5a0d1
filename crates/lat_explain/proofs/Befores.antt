-- What the lines in front said, line by line.
use Rattle.std.proofs.Common.{◌≡◌, ℕ, zero, suc, ◌+◌, ◌-◌, ◌<◌, List, [], ◌∷◌, ◌++◌, refl, sym, append_assoc}
use Rattle.lat_text.specs.Lines.{Line, lines_of, no_line}
use Rattle.lat_text.specs.Words.{behind_word}
use Rattle.lat_explain.specs.Before.{last_behind, last_line, said_or, second_said, seconds, unless_silent}
use Rattle.lat_explain.proofs.Counts.{one_more}

pub behind_on : (word : List ℕ) (n k : ℕ) (rest line behind found next : List ℕ) → k < n → lines_of rest ≡ Line line (lines_of behind)
    → next ≡ said_or (behind_word word line) found
    → last_behind word (n - k) (lines_of rest) found ≡ last_behind word (n - (k + 1)) (lines_of behind) next
unfolding last_behind
behind_on word n k rest line behind found next lt is new = rw (one_more n k lt, is, new) refl

pub last_on : (n k : ℕ) (rest line behind found next : List ℕ) → k < n → lines_of rest ≡ Line line (lines_of behind)
    → next ≡ unless_silent line found
    → last_line (n - k) (lines_of rest) found ≡ last_line (n - (k + 1)) (lines_of behind) next
unfolding last_line
last_on n k rest line behind found next lt is new = rw (one_more n k lt, is, new) refl

pub seconds_on : (word : List ℕ) (n k : ℕ) (rest line behind all next : List ℕ) → k < n → lines_of rest ≡ Line line (lines_of behind)
    → next ≡ all ++ second_said (behind_word word line)
    → all ++ seconds word (n - k) (lines_of rest) ≡ next ++ seconds word (n - (k + 1)) (lines_of behind)
unfolding seconds
seconds_on word n k rest line behind all next lt is new =
    rw (one_more n k lt, is, new) (sym (append_assoc all (second_said (behind_word word line)) (seconds word (n - (k + 1)) (lines_of behind))))

-- behind the last line there is none
pub seconds_end : (word : List ℕ) (n : ℕ) (rest : List ℕ) → lines_of rest ≡ no_line rest → seconds word n (lines_of rest) ≡ []
unfolding seconds
seconds_end word zero rest is = refl
seconds_end word (suc n) [] is = refl
seconds_end word (suc n) (b ∷ rest) is = rw is refl
