-- A stream may be cut anywhere.
use Rattle.std.proofs.Common.{◌≡◌, ℕ, ◌+◌, ◌<◌, ◌≤◌, List, [], ◌∷◌, ◌++◌, length, take, refl, arith, sym, ap, ◌∙◌, append_assoc, length-append, get_or}
use Rattle.std.specs.Prelude.{Option, Some, None}
use Rattle.std.specs.Option.{option_to_list}
use Rattle.std.proofs.lemmas.List.{append-nil, take_more}
use Rattle.lat_terminal.specs.declared.telnet.Telnet.{Telnet}
use Rattle.lat_terminal.specs.declared.telnet.Heard.{Heard}
use Rattle.lat_terminal.specs.Telnets.{heard_all, heard_of, telnet_after, telnet_next}

pub after_append : (t : Telnet) (a b : List ℕ) → telnet_after t (a ++ b) ≡ telnet_after (telnet_after t a) b
after_append t [] b = refl
after_append t (x ∷ xs) b = after_append (telnet_next t x) xs b

pub heard_append : (t : Telnet) (a b : List ℕ) → heard_all t (a ++ b) ≡ heard_all t a ++ heard_all (telnet_after t a) b
heard_append t [] b = refl
heard_append t (x ∷ xs) b =
    let first = option_to_list (heard_of t x) in
    let rest = heard_all (telnet_next t x) xs in
    ap (λ w. first ++ w) (heard_append (telnet_next t x) xs b) ∙ sym (append_assoc first rest (heard_all (telnet_after (telnet_next t x) xs) b))

at_most_one : {A : Type 0} (o : Option A) → length (option_to_list o) ≤ 1
at_most_one None = omega arith
at_most_one (Some x) = omega arith

pub heard_fits : (t : Telnet) (bs : List ℕ) → length (heard_all t bs) ≤ length bs
heard_fits t [] = omega arith
heard_fits t (x ∷ xs) =
    let first = option_to_list (heard_of t x) in
    let rest = heard_all (telnet_next t x) xs in
    omega (arith, length-append first rest, at_most_one (heard_of t x), heard_fits (telnet_next t x) xs)

-- a byte more of a stream
pub after_more : (t : Telnet) (xs : List ℕ) (i d : ℕ) → i < length xs →
    telnet_after t (take (i + 1) xs) ≡ telnet_next (telnet_after t (take i xs)) (get_or xs i d)
after_more t xs i d lt = ap (telnet_after t) (take_more xs i d lt) ∙ after_append t (take i xs) (get_or xs i d ∷ [])

pub heard_more : (t : Telnet) (xs : List ℕ) (i d : ℕ) → i < length xs →
    heard_all t (take (i + 1) xs) ≡ heard_all t (take i xs) ++ option_to_list (heard_of (telnet_after t (take i xs)) (get_or xs i d))
heard_more t xs i d lt =
    let before = heard_all t (take i xs) in
    let last = option_to_list (heard_of (telnet_after t (take i xs)) (get_or xs i d)) in
    ap (heard_all t) (take_more xs i d lt)
    ∙ heard_append t (take i xs) (get_or xs i d ∷ [])
    ∙ ap (λ w. before ++ w) (append-nil last)

pub state_kept : (t s s' : Telnet) (xs : List ℕ) (i : ℕ) → i < length xs → s ≡ telnet_after t (take i xs) →
    s' ≡ telnet_next s (get_or xs i 0) → s' ≡ telnet_after t (take (i + 1) xs)
state_kept t s s' xs i lt is next = next ∙ ap (λ z. telnet_next z (get_or xs i 0)) is ∙ sym (after_more t xs i 0 lt)

pub heard_kept : (t s : Telnet) (xs : List ℕ) (i : ℕ) (old out out' : List Heard) (h : Option Heard) → i < length xs →
    s ≡ telnet_after t (take i xs) → out ≡ old ++ heard_all t (take i xs) → h ≡ heard_of s (get_or xs i 0) →
    out' ≡ out ++ option_to_list h → out' ≡ old ++ heard_all t (take (i + 1) xs)
heard_kept t s xs i old out out' h lt is before new step =
    let head = heard_all t (take i xs) in
    let last = option_to_list (heard_of (telnet_after t (take i xs)) (get_or xs i 0)) in
    let same : option_to_list h ≡ last = ap option_to_list new ∙ ap (λ z. option_to_list (heard_of z (get_or xs i 0))) is in
    step
    ∙ ap (λ w. w ++ option_to_list h) before
    ∙ ap (λ w. (old ++ head) ++ w) same
    ∙ append_assoc old head last
    ∙ ap (λ w. old ++ w) (sym (heard_more t xs i 0 lt))
