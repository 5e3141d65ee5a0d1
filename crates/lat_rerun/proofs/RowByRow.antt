-- The rows of lines, one after another.
use Rattle.std.proofs.Common.{◌≡◌, ℕ, suc, ◌+◌, List, ◌++◌, sym, ap, ap₂, ◌∙◌, append_assoc, add-one}
use Rattle.lat_base.specs.declared.look.LineLook.{LineLook}
use Rattle.lat_rerun.specs.RowText.{row_text, rows_of}

-- one row more
pub rows_more : (look : ℕ → LineLook) (k : ℕ) (here : LineLook) (old text text' : List ℕ) → text ≡ old ++ rows_of look k → here ≡ look (k + 1) →
    text' ≡ text ++ row_text (k + 1) here → text' ≡ old ++ rows_of look (k + 1)
rows_more look k here old text text' is shown more =
    more
    ∙ ap₂ (λ (t u : List ℕ). t ++ u) is (ap (row_text (k + 1)) shown)
    ∙ append_assoc old (rows_of look k) (row_text (k + 1) (look (k + 1)))
    ∙ ap (λ n. old ++ (rows_of look k ++ row_text n (look n))) (add-one k)
    ∙ ap (λ n. old ++ rows_of look n) (sym (add-one k))
