-- What is typed may be cut anywhere.
use Rattle.std.proofs.Common.{◌≡◌, ℕ, ◌+◌, ◌<◌, List, [], ◌∷◌, ◌++◌, length, take, refl, sym, ap, ◌∙◌, append_assoc, get_or}
use Rattle.std.specs.Prelude.{true, false}
use Rattle.std.proofs.lemmas.Bool.{cond-true, cond-false}
use Rattle.std.proofs.lemmas.List.{append-nil, take_more}
use Rattle.lat_terminal.specs.Editors.{Typing, echo_all, echo_bytes, ends_at, line_at, lines_all, typing_after, typing_next}

pub typing_append : (e : Typing) (a b : List ℕ) → typing_after e (a ++ b) ≡ typing_after (typing_after e a) b
typing_append e [] b = refl
typing_append e (x ∷ xs) b = typing_append (typing_next e x) xs b

pub echo_append : (prompt : List ℕ) (e : Typing) (a b : List ℕ) →
    echo_all prompt e (a ++ b) ≡ echo_all prompt e a ++ echo_all prompt (typing_after e a) b
echo_append prompt e [] b = refl
echo_append prompt e (x ∷ xs) b =
    let first = echo_bytes prompt e x in
    let next = typing_next e x in
    ap (λ w. first ++ w) (echo_append prompt next xs b)
    ∙ sym (append_assoc first (echo_all prompt next xs) (echo_all prompt (typing_after next xs) b))

pub lines_append : (e : Typing) (a b : List ℕ) → lines_all e (a ++ b) ≡ lines_all e a ++ lines_all (typing_after e a) b
lines_append e [] b = refl
lines_append e (x ∷ xs) b =
    let first = line_at e x in
    let next = typing_next e x in
    ap (λ w. first ++ w) (lines_append next xs b)
    ∙ sym (append_assoc first (lines_all next xs) (lines_all (typing_after next xs) b))

-- a byte more of what is typed
pub typing_kept : (e s s' : Typing) (xs : List ℕ) (i : ℕ) → i < length xs → s ≡ typing_after e (take i xs) →
    s' ≡ typing_next s (get_or xs i 0) → s' ≡ typing_after e (take (i + 1) xs)
typing_kept e s s' xs i lt is next =
    next
    ∙ ap (λ z. typing_next z (get_or xs i 0)) is
    ∙ sym (ap (typing_after e) (take_more xs i 0 lt) ∙ typing_append e (take i xs) (get_or xs i 0 ∷ []))

pub echo_kept : (prompt : List ℕ) (e s : Typing) (xs : List ℕ) (i : ℕ) (old out out' : List ℕ) → i < length xs →
    s ≡ typing_after e (take i xs) → out ≡ old ++ echo_all prompt e (take i xs) →
    out' ≡ out ++ echo_bytes prompt s (get_or xs i 0) → out' ≡ old ++ echo_all prompt e (take (i + 1) xs)
echo_kept prompt e s xs i old out out' lt is before step =
    let byte = get_or xs i 0 in
    let head = echo_all prompt e (take i xs) in
    let last = echo_bytes prompt (typing_after e (take i xs)) byte in
    let whole : echo_all prompt e (take (i + 1) xs) ≡ head ++ last =
    ap (echo_all prompt e) (take_more xs i 0 lt)
    ∙ echo_append prompt e (take i xs) (byte ∷ [])
    ∙ ap (λ w. head ++ w) (append-nil last) in
    step
    ∙ ap (λ w. w ++ echo_bytes prompt s byte) before
    ∙ ap (λ z. (old ++ head) ++ echo_bytes prompt z byte) is
    ∙ append_assoc old head last
    ∙ ap (λ w. old ++ w) (sym whole)

lines_more : (e s : Typing) (xs : List ℕ) (i : ℕ) → i < length xs → s ≡ typing_after e (take i xs) →
    lines_all e (take i xs) ≡ [] → lines_all e (take (i + 1) xs) ≡ line_at s (get_or xs i 0)
lines_more e s xs i lt is none =
    let byte = get_or xs i 0 in
    ap (lines_all e) (take_more xs i 0 lt)
    ∙ lines_append e (take i xs) (byte ∷ [])
    ∙ ap (λ w. w ++ lines_all (typing_after e (take i xs)) (byte ∷ [])) none
    ∙ append-nil (line_at (typing_after e (take i xs)) byte)
    ∙ ap (λ z. line_at z byte) (sym is)

pub lines_end : (e s s' : Typing) (xs : List ℕ) (i : ℕ) → i < length xs → s ≡ typing_after e (take i xs) →
    lines_all e (take i xs) ≡ [] → s' ≡ typing_next s (get_or xs i 0) → ends_at s (get_or xs i 0) ≡ true →
    lines_all e (take (i + 1) xs) ≡ s'.line ∷ []
lines_end e s s' xs i lt is none next ends =
    lines_more e s xs i lt is none
    ∙ cond-true _ _ _ ends
    ∙ ap (λ z. z.line ∷ []) (sym next)

pub lines_go_on : (e s : Typing) (xs : List ℕ) (i : ℕ) → i < length xs → s ≡ typing_after e (take i xs) →
    lines_all e (take i xs) ≡ [] → ends_at s (get_or xs i 0) ≡ false → lines_all e (take (i + 1) xs) ≡ []
lines_go_on e s xs i lt is none ends = lines_more e s xs i lt is none ∙ cond-false _ _ _ ends
