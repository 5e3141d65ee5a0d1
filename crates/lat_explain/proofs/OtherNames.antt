-- Names that aren't offered yet: that there is one behind each beginning that a longer name has.
use Rattle.std.proofs.Common.{◌≡◌, ℕ, zero, suc, ◌+◌, ◌-◌, ◌*◌, ◌/◌, ◌%◌, ◌<◌, ◌≤◌, Bool, true, false, not, List, [], ◌∷◌, ◌++◌, length, take, get_or, map, append_assoc, append-nil, refl, sym, ap, ◌∙◌, arith, length-append}
use Rattle.std.specs.Prelude.{Option, Some, None, is_some, option_map, option_and_then, nat_le, nat_lt, nat_eq, bytes_eq, codes, ◌&&◌, ◌||◌, if◌then◌else◌}
use Rattle.std.specs.List.{list_all, list_any}
use Rattle.std.specs.Result.{result_ok}
use Rattle.std.proofs.Math.Seq.{take-append_seam}
use Rattle.std.proofs.lemmas.List.{map_push, nil_from_length}
use Rattle.std.proofs.lemmas.List.Folds.{list_all-append}
use Rattle.std.proofs.lemmas.Slice.Eq.{bytes_eq-Decides}
use Rattle.std.proofs.lemmas.Bool.Decides.{nat_tests}
use Rattle.hex.specs.Hex.{hex_digit_value}
use Rattle.lat_base.specs.Names.{name_byte, name_read, folded, upper}
use Rattle.lat_text.specs.Digits.{byte_of}
use Rattle.lat_text.specs.Lines.{Lines, End, Cut, Line, lines_of}
use Rattle.lat_text.specs.NameText.{is_plain}
use Rattle.lat_text.specs.NameWritten.{name_of, bytes_written, unless_plain}
use Rattle.lat_explain.specs.Awaited.{count_lines}
use Rattle.lat_explain.specs.Forms.{Taken, begins_byte, begins_name, begins_service, ends_so, is_among, is_escaped, isnt_among, may_be_another, may_end, same_name}
use Rattle.lat_explain.proofs.Tests.{both, and_so, or_so, or_here, other_one, true_lt, false_lt, lt_true, lt_false, true_eq, eq_true, false_true}
use Rattle.lat_explain.proofs.NameShapes.{some_same, none_some, byte_from, digit_below, named_escaped, nothing_read, one_named, plain_piece, escaped_piece, Wrote, Shape, Whole, Sign, Digit, shape, name_from, is_name, IsWritten, name_written, LastDigit, last_digit, last_read, one_read, none_on, none_left, nothing_begins, written_begins}

-- a number that some don't have

abbrev has : ℕ → List ℕ → Bool
has k [] = false
has k (x ∷ xs) = nat_eq x k || has k xs

abbrev without : ℕ → List ℕ → List ℕ
without k [] = []
without k (x ∷ xs) = if nat_eq x k then xs else x ∷ without k xs

shorter : (k : ℕ) (xs : List ℕ) → has k xs ≡ true → length xs ≡ suc (length (without k xs))
shorter k [] h = false_true h
shorter k (x ∷ xs) h = by (nat_eq x k) refl h (shorter k xs)
  where
    by : (t : Bool) → nat_eq x k ≡ t → (t || has k xs) ≡ true → (has k xs ≡ true → length xs ≡ suc (length (without k xs))) → length (x ∷ xs) ≡ suc (length (if nat_eq x k then xs else x ∷ without k xs))
    by true e h more = rw e refl
    by false e h more = let less = more h in rw e (omega (arith, less))

still : (j k : ℕ) (xs : List ℕ) → j < k → has j (without k xs) ≡ false → has j xs ≡ false
still j k [] lt h = refl
still j k (x ∷ xs) lt h = by (nat_eq x k) refl h (still j k xs lt)
  where
    other : (t : Bool) → nat_eq x j ≡ t → (t || has j (without k xs)) ≡ false → (has j (without k xs) ≡ false → has j xs ≡ false) → (nat_eq x j || has j xs) ≡ false
    other true e h more = false_true (sym h)
    other false e h more = rw e (more h)

    by : (t : Bool) → nat_eq x k ≡ t → has j (if t then xs else x ∷ without k xs) ≡ false → (has j (without k xs) ≡ false → has j xs ≡ false) → (nat_eq x j || has j xs) ≡ false
    by true e h more =
        let is = true_eq x k e in
        let no : nat_eq x j ≡ false = grind (arith, nat_tests) in
        rw no h
    by false e h more = other (nat_eq x j) refl h more

hole : (n : ℕ) (xs : List ℕ) → length xs < n → (k : ℕ) × (k < n) × (has k xs ≡ false)
hole zero xs lt = absurd (omega (arith, lt))
hole (suc n) xs lt = by (has n xs) refl (hole n (without n xs))
  where
    by : (t : Bool) → has n xs ≡ t → (length (without n xs) < n → (k : ℕ) × (k < n) × (has k (without n xs) ≡ false)) → (k : ℕ) × (k < suc n) × (has k xs ≡ false)
    by false e more = (n, omega arith, e)
    by true e more =
        let less = shorter n xs e in
        let k = more (omega (arith, less, lt)) in
        let below = k.1 in
        (k.0, omega (arith, below), still k.0 n xs below k.2)

-- the last bytes of names

abbrev pub last_of : List ℕ → ℕ
last_of [] = 0
last_of (x ∷ []) = x
last_of (x ∷ y ∷ xs) = last_of (y ∷ xs)

last_push : (xs : List ℕ) (x : ℕ) → last_of (xs ++ x ∷ []) ≡ x
last_push [] x = refl
last_push (y ∷ []) x = refl
last_push (y ∷ z ∷ xs) x = last_push (z ∷ xs) x

abbrev last_taken : (low : ℕ) → Option (List ℕ) → ℕ
last_taken low None = 0
last_taken low (Some name) = last_of (folded name) - low

abbrev lasts : (low : ℕ) → Lines → List ℕ
lasts low End = []
lasts low Cut = []
lasts low (Line line more) = last_taken low (name_of line) ∷ lasts low more

lasts_long : (low : ℕ) (lines : Lines) → length (lasts low lines) ≡ count_lines lines
unfolding count_lines
lasts_long low End = refl
lasts_long low Cut = refl
lasts_long low (Line line more) = let rest = lasts_long low more in omega (arith, rest)

-- a name whose last byte none of these has is another
not_among : (low k : ℕ) (name : List ℕ) (lines : Lines) → upper (low + k) ≡ low + k → has k (lasts low lines) ≡ false → is_among (name ++ (low + k) ∷ []) lines ≡ false
unfolding is_among
not_among low k name End same h = refl
not_among low k name Cut same h = refl
not_among low k name (Line line more) same h = by (name_of line) refl (nat_eq (last_taken low (name_of line)) k) refl h (not_among low k name more same)
  where
    equal : (other : List ℕ) (t : Bool) → bytes_eq (folded other) (folded (name ++ (low + k) ∷ [])) ≡ t → nat_eq (last_of (folded other) - low) k ≡ false → t ≡ false
    equal other false e differs = refl
    equal other true e differs =
        let is = (bytes_eq-Decides (folded other) (folded (name ++ (low + k) ∷ []))).0 e in
        let last : last_of (folded other) ≡ low + k = ap last_of (is ∙ map_push upper name (low + k)) ∙ last_push (map upper name) (upper (low + k)) ∙ same in
        false_true (sym differs ∙ eq_true (last_of (folded other) - low) k (omega (arith, last)))

    by : (o : Option (List ℕ)) → name_of line ≡ o → (t : Bool) → nat_eq (last_taken low (name_of line)) k ≡ t → (t || has k (lasts low more)) ≡ false
        → (has k (lasts low more) ≡ false → is_among (name ++ (low + k) ∷ []) more ≡ false)
        → (if same_name (name ++ (low + k) ∷ []) (name_of line) then true else is_among (name ++ (low + k) ∷ []) more) ≡ false
    by o e true et h ih = false_true (sym h)
    by None e false et h ih = rw e (ih h)
    by (Some other) e false et h ih =
        let no : nat_eq (last_taken low (Some other)) k ≡ false = ap (λ (p : Option (List ℕ)). nat_eq (last_taken low p) k) (sym e) ∙ et in
        let differs : same_name (name ++ (low + k) ∷ []) (name_of line) ≡ false =
        ap (same_name (name ++ (low + k) ∷ [])) e ∙ equal other (bytes_eq (folded other) (folded (name ++ (low + k) ∷ []))) refl no in
        ap (λ (t : Bool). if t then true else is_among (name ++ (low + k) ∷ []) more) differs ∙ ih h

-- of 32 bytes that upper case leaves as they are, one ends another name than these
record Free (low : ℕ) (name : List ℕ) (lines : Lines) : Type 0 where
  pub k : ℕ
  pub below : k < 32
  pub another : is_among (name ++ (low + k) ∷ []) lines ≡ false

free : (low : ℕ) (name : List ℕ) (lines : Lines) → count_lines lines < 32 → ((k : ℕ) → k < 32 → upper (low + k) ≡ low + k) → Free low name lines
free low name lines few same =
    let long = lasts_long low lines in
    let k = hole 32 (lasts low lines) (omega (arith, long, few)) in
    record { k = k.0; below = k.1; another = not_among low k.0 name lines (same k.0 k.1) k.2 }

low_upper : (k : ℕ) → k < 32 → upper (48 + k) ≡ 48 + k
low_upper k lt = let no : (nat_le 0x61 (48 + k) && nat_le (48 + k) 0x7a) ≡ false = grind (arith, nat_tests) in rw no refl

high_upper : (k : ℕ) → k < 32 → upper (161 + k) ≡ 161 + k
high_upper k lt = let no : (nat_le 0x61 (161 + k) && nat_le (161 + k) 0x7a) ≡ false = grind (arith, nat_tests) in rw no refl

low_plain : (k : ℕ) → k < 32 → is_plain (48 + k) ≡ true
low_plain k lt = grind (arith, nat_tests)

high_escaped : (k : ℕ) → k < 32 → is_escaped (Some (161 + k)) ≡ true
high_escaped k lt = grind (arith, nat_tests)

-- the digit of a number below 16
abbrev glyph : ℕ → ℕ
glyph n = if nat_lt n 10 then 48 + n else 87 + n

glyph_value : (n : ℕ) → n < 16 → hex_digit_value (glyph n) ≡ Some n
glyph_value n lt = by (nat_lt n 10) refl
  where
    small : n < 10 → hex_digit_value (48 + n) ≡ Some n
    small below =
        let a : (nat_le 65 (48 + n) && nat_le (48 + n) 70) ≡ false = grind (arith, nat_tests) in
        let b : (nat_le 97 (48 + n) && nat_le (48 + n) 102) ≡ false = grind (arith, nat_tests) in
        let c : (nat_le 48 (48 + n) && nat_le (48 + n) 57) ≡ true = grind (arith, nat_tests) in
        let d : (48 + n) - 48 ≡ n = omega arith in
        rw (a, b, c) (ap Some d)

    great : 10 ≤ n → hex_digit_value (87 + n) ≡ Some n
    great above =
        let a : (nat_le 65 (87 + n) && nat_le (87 + n) 70) ≡ false = grind (arith, nat_tests) in
        let b : (nat_le 97 (87 + n) && nat_le (87 + n) 102) ≡ true = grind (arith, nat_tests) in
        let d : (87 + n) - 87 ≡ n = omega arith in
        rw (a, b) (ap Some d)

    by : (t : Bool) → nat_lt n 10 ≡ t → hex_digit_value (if nat_lt n 10 then 48 + n else 87 + n) ≡ Some n
    by true e = ap (λ (t : Bool). hex_digit_value (if t then 48 + n else 87 + n)) e ∙ small (true_lt n 10 e)
    by false e = ap (λ (t : Bool). hex_digit_value (if t then 48 + n else 87 + n)) e ∙ great (false_lt n 10 e)

glyphs_byte : (v : ℕ) → v < 256 → byte_of (glyph (v / 16)) (glyph (v % 16)) ≡ Some v
glyphs_byte v lt =
    let sum : v / 16 * 16 + v % 16 ≡ v = omega arith in
    byte_from (glyph (v / 16)) (glyph (v % 16)) (v / 16) (v % 16) (glyph_value (v / 16) (omega (arith, lt))) (glyph_value (v % 16) (omega arith)) ∙ ap Some sum

glyph_at : (l : ℕ) → l < 16 → get_or (codes "0123456789abcdef") l 0 ≡ glyph l
glyph_at zero lt = refl
glyph_at (suc zero) lt = refl
glyph_at (suc (suc zero)) lt = refl
glyph_at (suc (suc (suc zero))) lt = refl
glyph_at (suc (suc (suc (suc zero)))) lt = refl
glyph_at (suc (suc (suc (suc (suc zero))))) lt = refl
glyph_at (suc (suc (suc (suc (suc (suc zero)))))) lt = refl
glyph_at (suc (suc (suc (suc (suc (suc (suc zero))))))) lt = refl
glyph_at (suc (suc (suc (suc (suc (suc (suc (suc zero)))))))) lt = refl
glyph_at (suc (suc (suc (suc (suc (suc (suc (suc (suc zero))))))))) lt = refl
glyph_at (suc (suc (suc (suc (suc (suc (suc (suc (suc (suc zero)))))))))) lt = refl
glyph_at (suc (suc (suc (suc (suc (suc (suc (suc (suc (suc (suc zero))))))))))) lt = refl
glyph_at (suc (suc (suc (suc (suc (suc (suc (suc (suc (suc (suc (suc zero)))))))))))) lt = refl
glyph_at (suc (suc (suc (suc (suc (suc (suc (suc (suc (suc (suc (suc (suc zero))))))))))))) lt = refl
glyph_at (suc (suc (suc (suc (suc (suc (suc (suc (suc (suc (suc (suc (suc (suc zero)))))))))))))) lt = refl
glyph_at (suc (suc (suc (suc (suc (suc (suc (suc (suc (suc (suc (suc (suc (suc (suc zero))))))))))))))) lt = refl
glyph_at (suc (suc (suc (suc (suc (suc (suc (suc (suc (suc (suc (suc (suc (suc (suc (suc l)))))))))))))))) lt = absurd (omega (arith, lt))

any_at : (p : ℕ → Bool) (xs : List ℕ) (i : ℕ) → i < length xs → p (get_or xs i 0) ≡ true → list_any p xs ≡ true
any_at p [] i lt h = absurd (omega (arith, lt))
any_at p (x ∷ xs) zero lt h = or_here (p x) (list_any p xs) h
any_at p (x ∷ xs) (suc i) lt h = or_so (p x) (list_any p xs) (any_at p xs i (omega (arith, lt)) h)

any_found : (p : ℕ → Bool) (xs : List ℕ) → list_any p xs ≡ true → (x : ℕ) × (p x ≡ true)
any_found p [] h = false_true h
any_found p (x ∷ xs) h = by (p x) refl h (any_found p xs)
  where
    by : (t : Bool) → p x ≡ t → (t || list_any p xs) ≡ true → (list_any p xs ≡ true → (x : ℕ) × (p x ≡ true)) → (x : ℕ) × (p x ≡ true)
    by true e h more = (x, e)
    by false e h more = more h

-- what may begin another name goes on to one

isnt_so : (services name : List ℕ) (o : Option (List ℕ)) → o ≡ Some name → is_among name (lines_of services) ≡ false → isnt_among services o ≡ true
isnt_so services name o is another = ap (isnt_among services) is ∙ ap not another

-- one byte more
plain_on : (services c n : List ℕ) → count_lines (lines_of services) < 32 → Wrote c n → length n < 16 → (x : List ℕ) × (isnt_among services (name_of (c ++ x)) ≡ true)
plain_on services c n few wrote lt =
    let f = free 48 n (lines_of services) few low_upper in
    let b = 48 + f.k in
    let of = plain_piece b (low_plain f.k f.below) in
    let named = name_from c n (b ∷ []) (b ∷ []) (suc (15 - length n)) wrote (omega (arith, lt)) (last_read (b ∷ []) b (15 - length n) of)
    (is_name n (b ∷ []) wrote.each (one_named b of.named) (omega arith) (omega (arith, lt))) in
    (b ∷ [], isnt_so services (n ++ b ∷ []) (name_of (c ++ b ∷ [])) named f.another)

-- both digits of a byte
sign_on : (services c w n : List ℕ) → count_lines (lines_of services) < 32 → Wrote w n → c ≡ w ++ 37 ∷ [] → length n < 16 → (x : List ℕ) × (isnt_among services (name_of (c ++ x)) ≡ true)
sign_on services c w n few wrote is lt =
    let f = free 161 n (lines_of services) few high_upper in
    let below = f.below in
    let v = 161 + f.k in
    let high = glyph (v / 16) in
    let low = glyph (v % 16) in
    let of = escaped_piece high low v (glyphs_byte v (omega (arith, below))) (high_escaped f.k below) in
    let named = name_from w n (37 ∷ high ∷ low ∷ []) (v ∷ []) (suc (15 - length n)) wrote (omega (arith, lt)) (last_read (37 ∷ high ∷ low ∷ []) v (15 - length n) of)
    (is_name n (v ∷ []) wrote.each (one_named v of.named) (omega arith) (omega (arith, lt))) in
    let all : c ++ high ∷ low ∷ [] ≡ w ++ 37 ∷ high ∷ low ∷ [] = ap (λ (l : List ℕ). l ++ high ∷ low ∷ []) is ∙ append_assoc w (37 ∷ []) (high ∷ low ∷ []) in
    (high ∷ low ∷ [], isnt_so services (n ++ v ∷ []) (name_of (c ++ high ∷ low ∷ [])) (ap name_of all ∙ named) f.another)

-- the second digit of a byte, and one byte more
digit_on : (services c w n : List ℕ) (d : ℕ) → count_lines (lines_of services) < 32 → Wrote w n → c ≡ w ++ 37 ∷ d ∷ [] → LastDigit d → length n < 15
    → (x : List ℕ) × (isnt_among services (name_of (c ++ x)) ≡ true)
digit_on services c w n d few wrote is last lt =
    let v = last.value in
    let e = last.digit in
    let f = free 48 (n ++ v ∷ []) (lines_of services) few low_upper in
    let b = 48 + f.k in
    let of = escaped_piece d e v last.is last.so in
    let plain = plain_piece b (low_plain f.k f.below) in
    let read : bytes_written (suc (suc (14 - length n))) (37 ∷ d ∷ e ∷ b ∷ []) ≡ Some (v ∷ b ∷ []) =
    one_read (37 ∷ d ∷ e ∷ []) v (suc (14 - length n)) (b ∷ []) of ∙ ap (option_map (λ (m : List ℕ). v ∷ m)) (last_read (b ∷ []) b (14 - length n) plain) in
    let named = name_from w n (37 ∷ d ∷ e ∷ b ∷ []) (v ∷ b ∷ []) (suc (suc (14 - length n))) wrote (omega (arith, lt)) read
    (is_name n (v ∷ b ∷ []) wrote.each (and_so (name_byte v) (list_all name_byte (b ∷ [])) of.named (one_named b plain.named)) (omega arith) (omega (arith, lt))) in
    let all : c ++ e ∷ b ∷ [] ≡ w ++ 37 ∷ d ∷ e ∷ b ∷ [] = ap (λ (l : List ℕ). l ++ e ∷ b ∷ []) is ∙ append_assoc w (37 ∷ d ∷ []) (e ∷ b ∷ []) in
    let name : (n ++ v ∷ []) ++ b ∷ [] ≡ n ++ v ∷ b ∷ [] = append_assoc n (v ∷ []) (b ∷ []) in
    (e ∷ b ∷ [], isnt_so services ((n ++ v ∷ []) ++ b ∷ []) (name_of (c ++ e ∷ b ∷ [])) (ap name_of all ∙ named ∙ ap Some (sym name)) f.another)

-- a text that is no name where a part of one more byte stands
part_none : (c w n t : List ℕ) (k : ℕ) → Wrote w n → c ≡ w ++ t → length n + k ≡ 16 → bytes_written k t ≡ None → name_of c ≡ None
part_none c w n t k wrote is sum none =
    ap (option_and_then (λ (bytes : List ℕ). result_ok (name_read bytes)))
    (ap (bytes_written 16) is ∙ ap (λ (j : ℕ). bytes_written j (w ++ t)) (sym sum) ∙ wrote.reads k t ∙ ap (option_map (λ (bytes : List ℕ). n ++ bytes)) none)

-- a word without its last byte
shortened : (c front : List ℕ) (last : ℕ) → c ≡ front ++ last ∷ [] → take (length c - 1) c ≡ front
shortened c front last is =
    let long : length c - 1 ≡ length front = let all = ap length is in omega (arith, all, length-append front (last ∷ [])) in
    ap (λ (k : ℕ). take k c) long ∙ ap (take (length front)) is ∙ take-append_seam front (last ∷ [])

digit_front : (c w : List ℕ) (d : ℕ) → c ≡ w ++ 37 ∷ d ∷ [] → take (length c - 1) c ≡ w ++ 37 ∷ []
digit_front c w d is = shortened c (w ++ 37 ∷ []) d (is ∙ sym (append_assoc w (37 ∷ []) (d ∷ [])))

full_digit : (services c w n : List ℕ) (d : ℕ) → Wrote w n → c ≡ w ++ 37 ∷ d ∷ [] → length n ≡ 15 → may_be_another services c (name_of c) ≡ true
    → (x : List ℕ) × (isnt_among services (name_of (c ++ x)) ≡ true)
unfolding may_end ends_so
full_digit services c w n d wrote is full h =
    let none = part_none c w n (37 ∷ d ∷ []) 1 wrote is (omega (arith, full)) refl in
    let may : (begins_name 15 (take (length c - 1) c) || may_end services c) ≡ true = ap (may_be_another services c) (sym none) ∙ h in
    let sum : 15 ≡ length n + 0 = omega (arith, full) in
    let no : begins_name 15 (take (length c - 1) c) ≡ false =
    ap (begins_name 15) (digit_front c w d is) ∙ ap (λ (k : ℕ). begins_name k (w ++ 37 ∷ [])) sum ∙ wrote.begins 0 (37 ∷ []) ∙ none_left (37 ∷ []) in
    let ends = other_one (begins_name 15 (take (length c - 1) c)) (may_end services c) may no in
    let found = any_found (ends_so services c) (codes "0123456789abcdef") (both (nat_lt (length c) 48) (list_any (ends_so services c) (codes "0123456789abcdef")) ends).1 in
    (found.0 ∷ [], found.1)

full_name : (services c n : List ℕ) → Wrote c n → length n ≡ 16 → may_be_another services c (name_of c) ≡ true → (x : List ℕ) × (isnt_among services (name_of (c ++ x)) ≡ true)
full_name services c n wrote full h =
    let all = append-nil c in
    let named : name_of c ≡ Some n =
    ap name_of (sym all) ∙ name_from c n [] [] 0 wrote (omega (arith, full)) refl (is_name n [] wrote.each refl (omega (arith, full)) (omega (arith, full))) ∙ ap Some (append-nil n) in
    let may : (nat_lt (length n) 16 || not (is_among n (lines_of services))) ≡ true = ap (may_be_another services c) (sym named) ∙ h in
    let another = other_one (nat_lt (length n) 16) (not (is_among n (lines_of services))) may (lt_false (length n) 16 (omega (arith, full))) in
    ([], ap (λ (l : List ℕ). isnt_among services (name_of l)) all ∙ ap (isnt_among services) named ∙ another)

pub service_goes_on : (taken : Taken) (c : List ℕ) → count_lines (lines_of taken.services) < 32 → begins_service taken c ≡ true → (x : List ℕ) × (isnt_among taken.services (name_of (c ++ x)) ≡ true)
service_goes_on taken c few h =
    let parts = both (begins_name 16 c) (may_be_another taken.services c (name_of c)) h in
    by (shape 16 c parts.0) parts.1
  where
    whole : (n : List ℕ) → Wrote c n → length n ≤ 16 → may_be_another taken.services c (name_of c) ≡ true → (t : Bool) → nat_lt (length n) 16 ≡ t → (x : List ℕ) × (isnt_among taken.services (name_of (c ++ x)) ≡ true)
    whole n wrote le may true e = plain_on taken.services c n few wrote (true_lt (length n) 16 e)
    whole n wrote le may false e = let past = false_lt (length n) 16 e in full_name taken.services c n wrote (omega (arith, past, le)) may

    digit : (w n : List ℕ) (d : ℕ) → Wrote w n → c ≡ w ++ 37 ∷ d ∷ [] → begins_byte d ≡ true → length n < 16 → may_be_another taken.services c (name_of c) ≡ true
        → (t : Bool) → nat_lt (length n) 15 ≡ t → (x : List ℕ) × (isnt_among taken.services (name_of (c ++ x)) ≡ true)
    digit w n d wrote is begun lt may true e = digit_on taken.services c w n d few wrote is (last_digit d begun) (true_lt (length n) 15 e)
    digit w n d wrote is begun lt may false e = let past = false_lt (length n) 15 e in full_digit taken.services c w n d wrote is (omega (arith, past, lt)) may

    by : Shape 16 c → may_be_another taken.services c (name_of c) ≡ true → (x : List ℕ) × (isnt_among taken.services (name_of (c ++ x)) ≡ true)
    by (Whole n wrote le) may = whole n wrote le may (nat_lt (length n) 16) refl
    by (Sign w n wrote is lt) may = sign_on taken.services c w n few wrote is lt
    by (Digit w n d wrote is begun lt) may = digit w n d wrote is begun lt may (nat_lt (length n) 15) refl

-- and what another name begins with, one may begin with

whole_may : (services c x m n : List ℕ) → Wrote c n → length n ≤ 16 → bytes_written 16 (c ++ x) ≡ Some m → is_among m (lines_of services) ≡ false → may_be_another services c (name_of c) ≡ true
whole_may services c x m [] wrote le read another =
    let long = wrote.long in
    let none : c ≡ [] = nil_from_length c (omega (arith, long)) in
    let all : name_of c ≡ None = ap name_of none in
    ap (may_be_another services c) all
    ∙ or_here (begins_name 15 (take (length c - 1) c)) (may_end services c) (ap (λ (l : List ℕ). begins_name 15 (take (length l - 1) l)) none ∙ nothing_begins 15)
whole_may services c x m (b ∷ n) wrote le read another =
    let all = append-nil c in
    let k : length (b ∷ n) + (16 - length (b ∷ n)) ≡ 16 = omega (arith, le) in
    let named : name_of c ≡ Some (b ∷ n) =
    ap name_of (sym all) ∙ name_from c (b ∷ n) [] [] (16 - length (b ∷ n)) wrote k (nothing_read (16 - length (b ∷ n))) (is_name (b ∷ n) [] wrote.each refl (omega arith) (omega (arith, le)))
    ∙ ap Some (append-nil (b ∷ n)) in
    ap (may_be_another services c) named ∙ by (nat_lt (length (b ∷ n)) 16) refl
  where
    same : (x : List ℕ) → option_map (λ (bytes : List ℕ). (b ∷ n) ++ bytes) (bytes_written 0 x) ≡ Some m → (b ∷ n) ++ [] ≡ m
    same [] k = some_same ((b ∷ n) ++ []) m k
    same (y ∷ x) k = none_some m k

    by : (t : Bool) → nat_lt (length (b ∷ n)) 16 ≡ t → (nat_lt (length (b ∷ n)) 16 || not (is_among (b ∷ n) (lines_of services))) ≡ true
    by true e = or_here (nat_lt (length (b ∷ n)) 16) (not (is_among (b ∷ n) (lines_of services))) e
    by false e =
        let past = false_lt (length (b ∷ n)) 16 e in
        let sum : length (b ∷ n) + 0 ≡ 16 = omega (arith, past, le) in
        let name = same x (sym (wrote.reads 0 x) ∙ ap (λ (k : ℕ). bytes_written k (c ++ x)) sum ∙ read) in
        let is : b ∷ n ≡ m = sym (append-nil (b ∷ n)) ∙ name in
        or_so (nat_lt (length (b ∷ n)) 16) (not (is_among (b ∷ n) (lines_of services))) (ap (λ (l : List ℕ). not (is_among l (lines_of services))) is ∙ ap not another)

sign_may : (services c w n : List ℕ) → Wrote w n → c ≡ w ++ 37 ∷ [] → length n < 16 → may_be_another services c (name_of c) ≡ true
sign_may services c w n wrote is lt =
    let none = part_none c w n (37 ∷ []) (suc (15 - length n)) wrote is (omega (arith, lt)) refl in
    let sum : 15 ≡ length n + (15 - length n) = omega (arith, lt) in
    ap (may_be_another services c) none
    ∙ or_here (begins_name 15 (take (length c - 1) c)) (may_end services c)
    (ap (begins_name 15) (shortened c w 37 is ∙ sym (append-nil w)) ∙ ap (λ (k : ℕ). begins_name k (w ++ [])) sum ∙ wrote.begins (15 - length n) [] ∙ nothing_begins (15 - length n))

-- of the last byte of a name its first digit stands there
record SecondDigit (d : ℕ) (x bytes : List ℕ) : Type 0 where
  pub digit : ℕ
  pub value : ℕ
  pub is : byte_of d digit ≡ Some value
  pub other : is_plain value ≡ false
  pub bytes_are : bytes ≡ value ∷ []

second_digit : (d : ℕ) (x bytes : List ℕ) → bytes_written 1 (37 ∷ d ∷ x) ≡ Some bytes → SecondDigit d x bytes
second_digit d [] bytes h = none_some bytes h
second_digit d (e ∷ x) bytes h = by (byte_of d e) refl h
  where
    rest : (v : ℕ) → byte_of d e ≡ Some v → is_plain v ≡ false → (x : List ℕ) → option_map (λ (m : List ℕ). v ∷ m) (bytes_written 0 x) ≡ Some bytes → SecondDigit d (e ∷ x) bytes
    rest v is other [] k = record { digit = e; value = v; is = is; other = other; bytes_are = sym (some_same (v ∷ []) bytes k) }
    rest v is other (y ∷ x) k = none_some bytes k

    so : (v : ℕ) → byte_of d e ≡ Some v → (p : Bool) → is_plain v ≡ p
        → option_and_then (λ (first : ℕ × List ℕ). option_map (λ (m : List ℕ). first.0 ∷ m) (bytes_written 0 first.1)) (option_map {U = ℕ × List ℕ} (λ (b : ℕ). (b, x)) (if p then None else Some v)) ≡ Some bytes
        → SecondDigit d (e ∷ x) bytes
    so v is true ep k = none_some bytes k
    so v is false ep k = rest v is ep x k

    by : (o : Option ℕ) → byte_of d e ≡ o
        → option_and_then (λ (first : ℕ × List ℕ). option_map (λ (m : List ℕ). first.0 ∷ m) (bytes_written 0 first.1)) (option_map {U = ℕ × List ℕ} (λ (b : ℕ). (b, x)) (option_and_then unless_plain o)) ≡ Some bytes
        → SecondDigit d (e ∷ x) bytes
    by None is k = none_some bytes k
    by (Some v) is k = so v is (is_plain v) refl k

-- the same byte with a lower-case digit
record LowerDigit (d v : ℕ) : Type 0 where
  pub l : ℕ
  pub below : l < 16
  pub is : byte_of d (glyph l) ≡ Some v

lower_digit : (d e v : ℕ) → byte_of d e ≡ Some v → LowerDigit d v
lower_digit d e v is = by (hex_digit_value d) refl (hex_digit_value e) refl is
  where
    by : (a : Option ℕ) → hex_digit_value d ≡ a → (b : Option ℕ) → hex_digit_value e ≡ b → option_and_then (λ (h : ℕ). option_map (λ (l : ℕ). h * 16 + l) b) a ≡ Some v → LowerDigit d v
    by None ea b eb k = none_some v k
    by (Some h) ea None eb k = none_some v k
    by (Some h) ea (Some l) eb k =
        let below = digit_below e l eb in
        record { l = l; below = below; is = byte_from d (glyph l) h l ea (glyph_value l below) ∙ k }

full_may : (services c w n x m : List ℕ) (d : ℕ) → Wrote w n → c ≡ w ++ 37 ∷ d ∷ [] → length n ≡ 15 → bytes_written 16 (c ++ x) ≡ Some m → list_all name_byte m ≡ true
    → is_among m (lines_of services) ≡ false → may_end services c ≡ true
unfolding may_end ends_so
full_may services c w n x m d wrote is full read each another =
    let all : c ++ x ≡ w ++ 37 ∷ d ∷ x = ap (λ (l : List ℕ). l ++ x) is ∙ append_assoc w (37 ∷ d ∷ []) x in
    let sum : length n + 1 ≡ 16 = omega (arith, full) in
    by (bytes_written 1 (37 ∷ d ∷ x)) refl (sym (wrote.reads 1 (37 ∷ d ∷ x)) ∙ ap (λ (k : ℕ). bytes_written k (w ++ 37 ∷ d ∷ x)) sum ∙ ap (bytes_written 16) (sym all) ∙ read)
  where
    so : (bytes : List ℕ) → n ++ bytes ≡ m → SecondDigit d x bytes → (nat_lt (length c) 48 && list_any (ends_so services c) (codes "0123456789abcdef")) ≡ true
    so bytes name second =
        let v = second.value in
        let lower = lower_digit d second.digit v second.is in
        let e = glyph lower.l in
        let name_is : n ++ v ∷ [] ≡ m = ap (λ (l : List ℕ). n ++ l) (sym second.bytes_are) ∙ name in
        let parts = both (list_all name_byte n) (list_all name_byte (v ∷ [])) (sym (list_all-append name_byte n (v ∷ [])) ∙ ap (list_all name_byte) name_is ∙ each) in
        let named_byte = (both (name_byte v) true parts.1).0 in
        let of = escaped_piece d e v lower.is (named_escaped v second.other named_byte) in
        let named = name_from w n (37 ∷ d ∷ e ∷ []) (v ∷ []) 1 wrote (omega (arith, full)) (last_read (37 ∷ d ∷ e ∷ []) v 0 of)
        (is_name n (v ∷ []) wrote.each parts.1 (omega arith) (omega (arith, full))) in
        let text : c ++ e ∷ [] ≡ w ++ 37 ∷ d ∷ e ∷ [] = ap (λ (l : List ℕ). l ++ e ∷ []) is ∙ append_assoc w (37 ∷ d ∷ []) (e ∷ []) in
        let ends : ends_so services c e ≡ true = isnt_so services m (name_of (c ++ e ∷ [])) (ap name_of text ∙ named ∙ ap Some name_is) another in
        let glyph_is = glyph_at lower.l lower.below in
        let long = wrote.long in
        let len = ap length is in
        let few : length c < 48 = omega (arith, long, full, len, length-append w (37 ∷ d ∷ [])) in
        and_so (nat_lt (length c) 48) (list_any (ends_so services c) (codes "0123456789abcdef")) (lt_true (length c) 48 few)
        (any_at (ends_so services c) (codes "0123456789abcdef") lower.l lower.below (ap (ends_so services c) glyph_is ∙ ends))

    by : (o : Option (List ℕ)) → bytes_written 1 (37 ∷ d ∷ x) ≡ o → option_map (λ (bytes : List ℕ). n ++ bytes) o ≡ Some m → (nat_lt (length c) 48 && list_any (ends_so services c) (codes "0123456789abcdef")) ≡ true
    by None e k = none_some m k
    by (Some bytes) e k = so bytes (some_same (n ++ bytes) m k) (second_digit d x bytes e)

digit_may : (services c w n x m : List ℕ) (d : ℕ) → Wrote w n → c ≡ w ++ 37 ∷ d ∷ [] → length n < 16 → bytes_written 16 (c ++ x) ≡ Some m → list_all name_byte m ≡ true
    → is_among m (lines_of services) ≡ false → may_be_another services c (name_of c) ≡ true
digit_may services c w n x m d wrote is lt read each another =
    let none = part_none c w n (37 ∷ d ∷ []) (suc (15 - length n)) wrote is (omega (arith, lt)) refl in
    ap (may_be_another services c) none ∙ by (nat_lt (length n) 15) refl
  where
    by : (t : Bool) → nat_lt (length n) 15 ≡ t → (begins_name 15 (take (length c - 1) c) || may_end services c) ≡ true
    by true e =
        let below = true_lt (length n) 15 e in
        let sum : 15 ≡ length n + suc (14 - length n) = omega (arith, below) in
        or_here (begins_name 15 (take (length c - 1) c)) (may_end services c)
        (ap (begins_name 15) (digit_front c w d is) ∙ ap (λ (k : ℕ). begins_name k (w ++ 37 ∷ [])) sum ∙ wrote.begins (suc (14 - length n)) (37 ∷ []) ∙ none_on (14 - length n) (37 ∷ []) refl)
    by false e =
        let past = false_lt (length n) 15 e in
        or_so (begins_name 15 (take (length c - 1) c)) (may_end services c) (full_may services c w n x m d wrote is (omega (arith, past, lt)) read each another)

pub service_begins : (taken : Taken) (c x : List ℕ) → isnt_among taken.services (name_of (c ++ x)) ≡ true → begins_service taken c ≡ true
service_begins taken c x h = by (name_of (c ++ x)) refl h
  where
    isnt : (m : List ℕ) (t : Bool) → is_among m (lines_of taken.services) ≡ t → not t ≡ true → is_among m (lines_of taken.services) ≡ false
    isnt m true e k = false_true k
    isnt m false e k = e

    may : (m : List ℕ) → IsWritten (c ++ x) m → is_among m (lines_of taken.services) ≡ false → Shape 16 c → may_be_another taken.services c (name_of c) ≡ true
    may m w another (Whole n wrote le) = whole_may taken.services c x m n wrote le w.read another
    may m w another (Sign v n wrote is lt) = sign_may taken.services c v n wrote is lt
    may m w another (Digit v n d wrote is begun lt) = digit_may taken.services c v n x m d wrote is lt w.read w.is.each another

    by : (o : Option (List ℕ)) → name_of (c ++ x) ≡ o → isnt_among taken.services o ≡ true → begins_service taken c ≡ true
    by None e k = false_true k
    by (Some m) e k =
        let w = name_written (c ++ x) m e in
        let begins = written_begins 16 c x m w.read w.is.each in
        and_so (begins_name 16 c) (may_be_another taken.services c (name_of c)) begins (may m w (isnt m (is_among m (lines_of taken.services)) refl k) (shape 16 c begins))

pub service_named : (services : List ℕ) (o : Option (List ℕ)) → isnt_among services o ≡ true → is_some o ≡ true
service_named services None h = false_true h
service_named services (Some name) h = refl
