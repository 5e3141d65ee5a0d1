-- How far words go: names byte by byte, and words of a form.
use Rattle.std.proofs.Common.{◌≡◌, ℕ, ◌+◌, ◌-◌, ◌<◌, ◌≤◌, true, List, length, take, drop, refl, sym, subst, drop-cons, arith}
use Rattle.std.specs.Prelude.{Option, Some, None, nat_eq}
use Rattle.std.proofs.lemmas.Bool.Decides.{nat_tests}
use Rattle.lat_explain.specs.Forms.{Taken, begins_name, begins_digits, behind_byte, begins, begun_from}
use Rattle.lat_explain.specs.Found.{word_start}
use Rattle.lat_explain.proofs.Counts.{one_more}

pub name_on : (n k : ℕ) (word behind : List ℕ) → k < n → behind_byte word ≡ Some behind → begins_name (n - k) word ≡ begins_name (n - (k + 1)) behind
unfolding begins_name
name_on n k word behind lt is =
    let left = n - (k + 1) in
    rw (one_more n k lt) (subst (λ (o : Option (List ℕ)). elim o [ None ↦ begins_digits word | Some b ↦ begins_name left b ] ≡ begins_name left behind) (sym is) refl)

pub name_ends : (n k : ℕ) (word : List ℕ) → k < n → behind_byte word ≡ None → begins_name (n - k) word ≡ begins_digits word
unfolding begins_name
name_ends n k word lt is =
    let left = n - (k + 1) in
    rw (one_more n k lt) (subst (λ (o : Option (List ℕ)). elim o [ None ↦ begins_digits word | Some b ↦ begins_name left b ] ≡ begins_digits word) (sym is) refl)

pub name_full : (n k : ℕ) (word : List ℕ) → n ≤ k → begins_name (n - k) word ≡ nat_eq (length word) 0
unfolding begins_name
name_full n k word le = let none : n - k ≡ 0 = omega arith in rw none refl

pub begun_on : (taken : Taken) (form word : List ℕ) (n k : ℕ) → k < n → begins taken form (take (k + 1) word) ≡ true
    → begun_from taken form word (n - k) k ≡ begun_from taken form word (n - (k + 1)) (k + 1)
unfolding begun_from
begun_on taken form word n k lt is = rw (one_more n k lt, is) refl

-- the word at a place begins where it did
pub start_here : (line : List ℕ) (place start at : ℕ) → place < length line → place ≡ at → word_start (drop place line) place start at ≡ start
unfolding word_start
start_here line place start at lt is =
    let here : nat_eq place at ≡ true = grind (arith, nat_tests) in
    rw (drop-cons line place 0, here) refl
