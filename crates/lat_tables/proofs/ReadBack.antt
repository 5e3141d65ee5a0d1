-- Commands are read as they are typed.
use Rattle.std.proofs.Common.{◌≡◌, ℕ, suc, ◌+◌, ◌^◌, ◌<◌, ◌≤◌, true, false, List, [], ◌∷◌, ◌++◌, length, take, drop, refl, ap, ◌∙◌, arith}
use Rattle.std.specs.Prelude.{Option, Some, None, Ok, nat_lt, nat_le, codes, decimal, position, ◌==◌}
use Rattle.std.specs.List.{position_from}
use Rattle.std.specs.Char.{digit_value}
use Rattle.std.specs.Str.Parse.{AllDigits, digits_value}
use Rattle.std.proofs.Math.Seq.{take-length, drop-length, take-append_seam, drop-append_seam}
use Rattle.std.proofs.lemmas.Str.Parse.{IsNumeralModel, numerals_by_value, tells_digits}
use Rattle.std.proofs.lemmas.Fmt.{digits_decimal, digits_value-decimal}
use Rattle.std.proofs.lemmas.Iterator.Adapters.{position_from-zero}
use Rattle.std.proofs.lemmas.Bool.Decides.{nat_tests}
use Rattle.std.proofs.lemmas.Slice.Eq.{bytes_eq-Decides}
use Rattle.lat_text.specs.Numbers.{number_of, number_within}
use Rattle.lat_text.specs.Words.{space}
use Rattle.lat_tables.specs.Commands.{command_of, command_text, if_verb, next_word, numbered, shown_by, unblanked, verb_of}
use Rattle.lat_tables.specs.Laws.{IsCommand}
use Rattle.lat_tables.specs.declared.command.Command.{Command}
use Rattle.lat_tables.specs.declared.command.Command.TheVariants.{Show, ShowCounters, ShowHistory, HangUp, Stop, Help}
use Rattle.lat_tables.specs.declared.command.Listing.TheVariants.{Lines, Services, Circuits, Requests}
use Rattle.lat_tables.specs.declared.fault.CommandFault.{CommandFault}
use Rattle.lat_tables.specs.declared.fault.CommandFault.TheVariants as faults

-- ---- words

-- no blank in it
abbrev IsWord : List ℕ → Type 0
IsWord [] = Unit {0}
IsWord (b ∷ word) = ((b == space) ≡ false) × IsWord word

none_from : (k : ℕ) (word : List ℕ) → IsWord word → position_from (λ b. b == space) k word ≡ None
none_from k [] w = refl
none_from k (b ∷ word) w = rw w.0 (none_from (k + 1) word w.1)

found_from : (k : ℕ) (word rest : List ℕ) → IsWord word → position_from (λ b. b == space) k (word ++ space ∷ rest) ≡ Some (k + length word)
found_from k [] rest w = ap Some (omega arith)
found_from k (b ∷ word) rest w =
    let here : k + 1 + length word ≡ k + suc (length word) = omega arith in
    rw w.0 (found_from (k + 1) word rest w.1 ∙ ap Some here)

begins : (word : List ℕ) → IsWord word → unblanked word ≡ word
begins [] w = refl
begins (b ∷ word) w = rw w.0 refl

begins_before : (b : ℕ) (word rest : List ℕ) → IsWord (b ∷ word) → unblanked (b ∷ word ++ rest) ≡ b ∷ word ++ rest
begins_before b word rest w = rw w.0 refl

-- the last word of a line
last_word : (word : List ℕ) → IsWord word → next_word word ≡ (word, [])
last_word word w =
    let none : position (λ b. b == space) word ≡ None = position_from-zero (λ b. b == space) word ∙ none_from 0 word w in
    rw (begins word w, none, take-length word, drop-length word) refl

-- a word before a blank
first_word : (b : ℕ) (word rest : List ℕ) → IsWord (b ∷ word) → next_word (b ∷ word ++ space ∷ rest) ≡ (b ∷ word, space ∷ rest)
first_word b word rest w =
    let found : position (λ b. b == space) (b ∷ word ++ space ∷ rest) ≡ Some (suc (length word)) =
    position_from-zero (λ b. b == space) (b ∷ word ++ space ∷ rest) ∙ found_from 0 (b ∷ word) rest w ∙ ap Some (omega arith) in
    let front : take (suc (length word)) (b ∷ word ++ space ∷ rest) ≡ b ∷ word = take-append_seam (b ∷ word) (space ∷ rest) in
    let back : drop (suc (length word)) (b ∷ word ++ space ∷ rest) ≡ space ∷ rest = drop-append_seam (b ∷ word) (space ∷ rest) in
    rw (begins_before b word (space ∷ rest) w, found) (rw (front, back) refl)

-- ---- numbers

own : IsNumeralModel (AllDigits 10) (digits_value 10)
own = numerals_by_value (AllDigits 10) tells_digits

digit_visible : (c : ℕ) → digit_value c < 10 → 32 < c
digit_visible c h = grind (arith, nat_tests)

digit_unblank : (c : ℕ) → 32 < c → (c == space) ≡ false
digit_unblank c h = grind (arith, nat_tests)

digits_word : (cs : List ℕ) → AllDigits 10 cs → IsWord cs
digits_word [] h = tt
digits_word (c ∷ cs) h = (digit_unblank c (digit_visible c h.0), digits_word cs h.1)

decimal_read : (n : ℕ) → n < 2 ^ 64 → number_of (decimal n) ≡ Some n
decimal_read n h =
    let value : digits_value 10 (decimal n) ≡ n = digits_value-decimal own n h in
    let small : nat_lt n (2 ^ 64) ≡ true = grind (arith, nat_tests) in
    rw (value, small, (bytes_eq-Decides (decimal n) (decimal n)).1 refl) refl

within_read : (least most n : ℕ) → least ≤ n → n ≤ most → n < 2 ^ 64 → number_within least most (decimal n) ≡ Some n
within_read least most n low high small =
    let a : nat_le least n ≡ true = grind (arith, nat_tests) in
    let b : nat_le n most ≡ true = grind (arith, nat_tests) in
    rw (decimal_read n small, a, b) refl

numbered_read : (make : ℕ → Command) (fault : CommandFault) (least most n : ℕ) → least ≤ n → n ≤ most → n < 2 ^ 64
    → numbered make fault (number_within least most (next_word (decimal n)).0) (next_word (decimal n)).1 ≡ Ok (make n)
numbered_read make fault least most n low high small =
    let alone : next_word (decimal n) ≡ (decimal n, []) = last_word (decimal n) (digits_word (decimal n) (digits_decimal own n small)) in
    ap (λ (z : List ℕ × List ℕ). numbered make fault (number_within least most z.0) z.1) alone
    ∙ ap (λ (r : Option ℕ). numbered make fault r []) (within_read least most n low high small)

-- ---- commands

show_word : IsWord (codes "show")
show_word = (refl, (refl, (refl, (refl, tt))))

history_word : IsWord (codes "history")
history_word = (refl, (refl, (refl, (refl, (refl, (refl, (refl, tt)))))))

hang_up_word : IsWord (codes "hang-up")
hang_up_word = (refl, (refl, (refl, (refl, (refl, (refl, (refl, tt)))))))

pub commands_read : (command : Command) → IsCommand command → command_of (command_text command) ≡ Ok command
commands_read (Show Lines) is = refl
commands_read (Show Services) is = refl
commands_read (Show Circuits) is = refl
commands_read (Show Requests) is = refl
commands_read ShowCounters is = refl
commands_read (ShowHistory n) is =
    ap (λ (z : List ℕ × List ℕ). if_verb (verb_of z.0) z.1) (first_word 115 (codes "how") (codes "history" ++ space ∷ decimal n) show_word)
    ∙ (ap (λ (z : List ℕ × List ℕ). shown_by z.0 z.1) (first_word 104 (codes "istory") (decimal n) history_word)
    ∙ numbered_read ShowHistory faults.Count 1 1_000_000 n is.0 is.1 (omega (arith, is.1)))
commands_read (HangUp n) is =
    ap (λ (z : List ℕ × List ℕ). if_verb (verb_of z.0) z.1) (first_word 104 (codes "ang-up") (decimal n) hang_up_word)
    ∙ numbered_read HangUp faults.Line 1 255 n is.0 is.1 (omega (arith, is.1))
commands_read Stop is = refl
commands_read Help is = refl
