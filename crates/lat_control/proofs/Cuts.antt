-- What a client gives may be cut anywhere.
use Rattle.std.proofs.Common.{◌≡◌, ℕ, ◌+◌, ◌<◌, List, [], ◌∷◌, ◌++◌, length, take, refl, sym, ap, ◌∙◌, append_assoc, get_or}
use Rattle.std.proofs.lemmas.List.{append-nil, take_more}
use Rattle.lat_control.specs.Lines.{begun_after, begun_next, line_at, lines_after}

pub begun_append : (line a b : List ℕ) → begun_after line (a ++ b) ≡ begun_after (begun_after line a) b
begun_append line [] b = refl
begun_append line (x ∷ xs) b = begun_append (begun_next line x) xs b

pub lines_append : (line a b : List ℕ) → lines_after line (a ++ b) ≡ lines_after line a ++ lines_after (begun_after line a) b
lines_append line [] b = refl
lines_append line (x ∷ xs) b =
    let first = line_at line x in
    let rest = lines_after (begun_next line x) xs in
    ap (λ w. first ++ w) (lines_append (begun_next line x) xs b)
    ∙ sym (append_assoc first rest (lines_after (begun_after (begun_next line x) xs) b))

-- a byte more
pub begun_more : (line xs : List ℕ) (i d : ℕ) → i < length xs →
    begun_after line (take (i + 1) xs) ≡ begun_next (begun_after line (take i xs)) (get_or xs i d)
begun_more line xs i d lt = ap (begun_after line) (take_more xs i d lt) ∙ begun_append line (take i xs) (get_or xs i d ∷ [])

pub lines_more : (line xs : List ℕ) (i d : ℕ) → i < length xs →
    lines_after line (take (i + 1) xs) ≡ lines_after line (take i xs) ++ line_at (begun_after line (take i xs)) (get_or xs i d)
lines_more line xs i d lt =
    let before = lines_after line (take i xs) in
    let last = line_at (begun_after line (take i xs)) (get_or xs i d) in
    ap (lines_after line) (take_more xs i d lt)
    ∙ lines_append line (take i xs) (get_or xs i d ∷ [])
    ∙ ap (λ w. before ++ w) (append-nil last)

pub begun_kept : (line now next xs : List ℕ) (i : ℕ) → i < length xs → now ≡ begun_after line (take i xs) →
    next ≡ begun_next now (get_or xs i 0) → next ≡ begun_after line (take (i + 1) xs)
begun_kept line now next xs i lt is step = step ∙ ap (λ w. begun_next w (get_or xs i 0)) is ∙ sym (begun_more line xs i 0 lt)
