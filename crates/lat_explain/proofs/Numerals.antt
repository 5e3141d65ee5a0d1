-- Numbers within bounds, and what their texts begin with.
use Rattle.std.proofs.Common.{◌≡◌, ℕ, zero, suc, ◌+◌, ◌-◌, ◌*◌, ◌/◌, ◌%◌, ◌^◌, ◌<◌, ◌≤◌, Bool, true, false, List, [], ◌∷◌, ◌++◌, length, append_assoc, append-nil, refl, sym, ap, ◌∙◌, subst, arith, length-append}
use Rattle.std.specs.Prelude.{Option, Some, None, is_some, nat_le, nat_lt, nat_eq, bytes_eq, decimal, option_and_then, ◌==◌, if◌then◌else◌}
use Rattle.std.specs.Str.Parse.{digits_value}
use Rattle.std.proofs.lemmas.List.{same_from_push}
use Rattle.std.proofs.lemmas.Fmt.{decimal_is_IsNumeral, decimal_step, decimal_digit, length-decimal-le}
use Rattle.std.proofs.lemmas.Slice.Eq.{bytes_eq-Decides}
use Rattle.std.proofs.lemmas.Bool.Decides.{nat_tests}
use Rattle.lat_text.specs.Numbers.{if_decimal, if_within, number_of, number_within}
use Rattle.lat_explain.specs.Forms.{is_front, is_within, begins_within, begins_number, fits_number}
use Rattle.lat_explain.proofs.Tests.{both, other_one, or_so, and_so, le_true, true_le, false_le, lt_true, true_lt, true_eq, eq_true, not_zero, false_true}

-- a number within bounds whose text begins with that of this one
pub record More (least most n : ℕ) : Type 0 where
  pub behind : List ℕ
  pub number : ℕ
  pub is : decimal n ++ behind ≡ decimal number
  pub low : least ≤ number
  pub high : number ≤ most
  pub above : n ≤ number

-- with one digit more
digit_more : (least most n m : ℕ) (more : More (least / 10) (most / 10) n) → 0 < n → most < 2 ^ 64 → least ≤ m → m ≤ most → m / 10 ≡ more.number → More least most n
digit_more least most n m more some small low high tenth =
    let above = more.above in
    record {
      behind = more.behind ++ (48 + m % 10) ∷ [];
      number = m;
      is = sym (append_assoc (decimal n) more.behind ((48 + m % 10) ∷ []))
          ∙ ap (λ (front : List ℕ). front ++ (48 + m % 10) ∷ []) (more.is ∙ ap decimal (sym tenth))
          ∙ sym (decimal_step m (omega (arith, tenth, above, some)) (omega (arith, high, small)));
      low = low;
      high = high;
      above = omega (arith, tenth, above);
    }

tenth_more : (least most n : ℕ) (more : More (least / 10) (most / 10) n) → 0 < n → least ≤ most → most < 2 ^ 64 → More least most n
tenth_more least most n more some ordered small = by (nat_le least (more.number * 10)) refl
  where
    by : (b : Bool) → nat_le least (more.number * 10) ≡ b → More least most n
    by true is =
        let high = more.high in
        digit_more least most n (more.number * 10) more some small (true_le least (more.number * 10) is) (omega (arith, high)) (omega arith)
    by false is =
        let low = more.low in
        let less = false_le least (more.number * 10) is in
        digit_more least most n least more some small (omega arith) ordered (omega (arith, low, less))

-- a number with which one within bounds begins goes on to it
front_goes_on : (fuel least most n : ℕ) → 0 < n → least ≤ most → most < 2 ^ 64 → is_front fuel least most n ≡ true → More least most n
unfolding is_front
front_goes_on zero least most n some ordered small h = false_true h
front_goes_on (suc fuel) least most n some ordered small h = by (is_within least most n) refl (front_goes_on fuel (least / 10) (most / 10) n some (omega arith) (omega arith)) h
  where
    by : (b : Bool) → is_within least most n ≡ b → (is_front fuel (least / 10) (most / 10) n ≡ true → More (least / 10) (most / 10) n)
        → (if b then true else is_front fuel (least / 10) (most / 10) n) ≡ true → More least most n
    by true within less k =
        let bounds = both (nat_le least n) (nat_le n most) within in
        record {
          behind = [];
          number = n;
          is = append-nil (decimal n);
          low = true_le least n bounds.0;
          high = true_le n most bounds.1;
          above = omega arith;
        }
    by false within less k = tenth_more least most n (less k) some ordered small

within_true : (least most n : ℕ) → least ≤ n → n ≤ most → is_within least most n ≡ true
within_true least most n low high = and_so (nat_le least n) (nat_le n most) (le_true least n low) (le_true n most high)

-- more tries do no harm
front_kept : (fuel least most n : ℕ) → is_front fuel least most n ≡ true → is_front (suc fuel) least most n ≡ true
unfolding is_front
front_kept zero least most n h = false_true h
front_kept (suc fuel) least most n h = by (is_within least most n) refl (front_kept fuel (least / 10) (most / 10) n) h
  where
    by : (b : Bool) → is_within least most n ≡ b → (is_front fuel (least / 10) (most / 10) n ≡ true → is_front (suc fuel) (least / 10) (most / 10) n ≡ true)
        → (if b then true else is_front fuel (least / 10) (most / 10) n) ≡ true
        → (if is_within least most n then true else is_front (suc fuel) (least / 10) (most / 10) n) ≡ true
    by true within less k = rw within refl
    by false within less k = rw within (less k)

front_upto : (d fuel least most n : ℕ) → is_front fuel least most n ≡ true → is_front (d + fuel) least most n ≡ true
front_upto zero fuel least most n h =
    let same : fuel ≡ 0 + fuel = omega arith in
    subst (λ (k : ℕ). is_front k least most n ≡ true) same h
front_upto (suc d) fuel least most n h =
    let same : suc (d + fuel) ≡ suc d + fuel = omega arith in
    subst (λ (k : ℕ). is_front k least most n ≡ true) same (front_kept (d + fuel) least most n (front_upto d fuel least most n h))

front_twenty : (fuel least most n : ℕ) → fuel ≤ 20 → is_front fuel least most n ≡ true → is_front 20 least most n ≡ true
front_twenty fuel least most n few h =
    let same : (20 - fuel) + fuel ≡ 20 = omega arith in
    subst (λ (k : ℕ). is_front k least most n ≡ true) same (front_upto (20 - fuel) fuel least most n h)

front_now : (fuel least most n : ℕ) → least ≤ n → n ≤ most → is_front (suc fuel) least most n ≡ true
unfolding is_front
front_now fuel least most n low high = rw (within_true least most n low high) refl

front_tenth : (fuel least most n : ℕ) → is_front fuel (least / 10) (most / 10) n ≡ true → is_front (suc fuel) least most n ≡ true
unfolding is_front
front_tenth fuel least most n h = by (is_within least most n) refl
  where
    by : (b : Bool) → is_within least most n ≡ b → (if is_within least most n then true else is_front fuel (least / 10) (most / 10) n) ≡ true
    by true within = rw within refl
    by false within = rw within h

-- a list without its last element
pub record LastOff (xs : List ℕ) (n : ℕ) : Type 0 where
  pub front : List ℕ
  pub last : ℕ
  pub is : xs ≡ front ++ last ∷ []
  pub long : length front ≡ n

pub last_off : (xs : List ℕ) (n : ℕ) → length xs ≡ suc n → LastOff xs n
last_off [] n many = absurd (omega (arith, many))
last_off (x ∷ []) n many = record { front = []; last = x; is = refl; long = omega (arith, many) }
last_off (x ∷ y ∷ xs) n many =
    let off = last_off (y ∷ xs) (length xs) refl in
    let long = off.long in
    record { front = x ∷ off.front; last = off.last; is = ap (λ (l : List ℕ). x ∷ l) off.is; long = omega (arith, long, many) }

two_digits : (m : ℕ) (word behind : List ℕ) → word ++ behind ≡ decimal m → 0 < length word → 0 < length behind → 10 ≤ m
two_digits m word behind is some more = by (nat_le 10 m) refl
  where
    by : (b : Bool) → nat_le 10 m ≡ b → 10 ≤ m
    by true h = true_le 10 m h
    by false h =
        let one : length (word ++ behind) ≡ 1 = ap length (is ∙ decimal_digit m (false_le 10 m h)) in
        absurd (omega (arith, one, length-append word behind, some, more))

-- what stands in front of the last digits of a number, so many, is a number with which it begins
record FrontOf (least most : ℕ) (word : List ℕ) (digits m : ℕ) : Type 0 where
  pub number : ℕ
  pub is : word ≡ decimal number
  pub upto : number ≤ m
  pub some : 0 < m → 0 < number
  pub front : is_front (suc digits) least most number ≡ true

front_of : (digits : ℕ) (behind word : List ℕ) (m least most : ℕ) → length behind ≡ digits → word ++ behind ≡ decimal m → 0 < length word → m < 2 ^ 64 → least ≤ m → m ≤ most
    → FrontOf least most word digits m
front_of zero [] word m least most long is some small low high =
    record { number = m; is = sym (append-nil word) ∙ is; upto = omega arith; some = λ h. h; front = front_now 0 least most m low high }
front_of zero (b ∷ behind) word m least most long is some small low high = absurd (omega (arith, long))
front_of (suc digits) behind word m least most long is some small low high =
    let off = last_off behind digits long in
    let two = two_digits m word behind is some (omega (arith, long)) in
    let all : (word ++ off.front) ++ off.last ∷ [] ≡ decimal (m / 10) ++ (48 + m % 10) ∷ [] =
    append_assoc word off.front (off.last ∷ []) ∙ ap (λ (b : List ℕ). word ++ b) (sym off.is) ∙ is ∙ decimal_step m two small in
    let same = (same_from_push (word ++ off.front) (decimal (m / 10)) off.last (48 + m % 10) all).0 in
    let f = front_of digits off.front word (m / 10) (least / 10) (most / 10) off.long same some (omega (arith, small)) (omega (arith, low)) (omega (arith, high)) in
    let upto = f.upto in
    record { number = f.number; is = f.is; upto = omega (arith, upto); some = λ h. f.some (omega (arith, two)); front = front_tenth (suc digits) least most f.number f.front }

pub record IsNumber (text : List ℕ) (n : ℕ) : Type 0 where
  pub small : n < 2 ^ 64
  pub is : text ≡ decimal n

number_of_decimal : (n : ℕ) → n < 2 ^ 64 → number_of (decimal n) ≡ Some n
number_of_decimal n small =
    let value : digits_value 10 (decimal n) ≡ n = (decimal_is_IsNumeral n small).1 in
    let below : nat_lt n (2 ^ 64) ≡ true = lt_true n (2 ^ 64) small in
    let same : bytes_eq (decimal n) (decimal n) ≡ true = (bytes_eq-Decides (decimal n) (decimal n)).1 refl in
    ap (if_decimal (decimal n)) value ∙ rw (below, same) refl

pub number_read : (text : List ℕ) (n : ℕ) → number_of text ≡ Some n → IsNumber text n
number_read text n h = by (digits_value 10 text) (nat_lt (digits_value 10 text) (2 ^ 64)) refl (bytes_eq text (decimal (digits_value 10 text))) refl h
  where
    by : (v : ℕ) (a : Bool) → nat_lt v (2 ^ 64) ≡ a → (b : Bool) → bytes_eq text (decimal v) ≡ b → if_decimal text v ≡ Some n → IsNumber text n
    by v true ea true eb k =
        let some : Some v ≡ Some n = rw (ea, eb) at k in
        let same : v ≡ n = cc in
        let below = true_lt v (2 ^ 64) ea in
        record { small = omega (arith, below, same); is = (bytes_eq-Decides text (decimal v)).0 eb ∙ ap decimal same }
    by v true ea false eb k = absurd (let no : None ≡ Some n = rw (ea, eb) at k in cc)
    by v false ea b eb k = absurd (let no : None ≡ Some n = rw ea at k in cc)

pub within_some : (least most n : ℕ) (text : List ℕ) → text ≡ decimal n → n < 2 ^ 64 → least ≤ n → n ≤ most → number_within least most text ≡ Some n
within_some least most n text is small low high =
    let read : number_of text ≡ Some n = ap number_of is ∙ number_of_decimal n small in
    let now : if_within least most n ≡ Some n = rw (within_true least most n low high) refl in
    ap (λ (o : Option ℕ). option_and_then (if_within least most) o) read ∙ now

-- a text is that of a number within bounds
pub record IsBounded (least most : ℕ) (text : List ℕ) (n : ℕ) : Type 0 where
  pub small : n < 2 ^ 64
  pub is : text ≡ decimal n
  pub low : least ≤ n
  pub high : n ≤ most

pub within_is : (least most : ℕ) (text : List ℕ) (n : ℕ) → number_within least most text ≡ Some n → IsBounded least most text n
within_is least most text n h = by (number_of text) refl h
  where
    bounded : (m : ℕ) (b : Bool) → is_within least most m ≡ b → IsNumber text m → (if b then Some m else None) ≡ Some n → IsBounded least most text n
    bounded m true eb number k =
        let same : m ≡ n = cc in
        let bounds = both (nat_le least m) (nat_le m most) eb in
        let small = number.small in
        record {
          small = omega (arith, small, same);
          is = number.is ∙ ap decimal same;
          low = omega (arith, true_le least m bounds.0, same);
          high = omega (arith, true_le m most bounds.1, same);
        }
    bounded m false eb number k = absurd (let no : None ≡ Some n = k in cc)

    by : (o : Option ℕ) → number_of text ≡ o → option_and_then (if_within least most) o ≡ Some n → IsBounded least most text n
    by None e k = absurd (let no : None ≡ Some n = k in cc)
    by (Some m) e k = bounded m (is_within least most m) refl (number_read text m e) k

pub record HasBounded (least most : ℕ) (text : List ℕ) : Type 0 where
  pub number : ℕ
  pub is : IsBounded least most text number

pub within_read : (least most : ℕ) (text : List ℕ) → is_some (number_within least most text) ≡ true → HasBounded least most text
within_read least most text h = by (number_within least most text) refl h
  where
    by : (o : Option ℕ) → number_within least most text ≡ o → is_some o ≡ true → HasBounded least most text
    by None e k = false_true k
    by (Some n) e k = record { number = n; is = within_is least most text n e }

fits_from : (least most n : ℕ) (text : List ℕ) → text ≡ decimal n → n < 2 ^ 64 → least ≤ n → n ≤ most → fits_number (least, most) text ≡ true
unfolding fits_number
fits_from least most n text is small low high = ap is_some (within_some least most n text is small low high)

-- what a number within bounds may begin with goes on to one
pub number_goes_on : (least most : ℕ) (word : List ℕ) → least ≤ most → most < 2 ^ 64 → begins_number (least, most) word ≡ true → (behind : List ℕ) × (fits_number (least, most) (word ++ behind) ≡ true)
unfolding begins_number
number_goes_on least most [] ordered small h = (decimal least, fits_from least most least (decimal least) refl (omega arith) (omega arith) ordered)
number_goes_on least most (b ∷ word) ordered small h =
    by (number_within 0 most (b ∷ word)) refl (other_one (nat_eq (length (b ∷ word)) 0) (begins_within least most (number_within 0 most (b ∷ word))) h (not_zero (length (b ∷ word)) (omega arith)))
  where
    read : (n : ℕ) (zero_so : Bool) → (n == 0) ≡ zero_so → IsBounded 0 most (b ∷ word) n → (if zero_so then nat_eq least 0 else is_front 20 least most n) ≡ true
        → (behind : List ℕ) × (fits_number (least, most) ((b ∷ word) ++ behind) ≡ true)
    read n true e is k =
        let none = true_eq n 0 e in
        let low = true_eq least 0 k in
        let text = is.is in
        let small = is.small in
        let high = is.high in
        ([], fits_from least most n ((b ∷ word) ++ []) (append-nil (b ∷ word) ∙ text) small (omega (arith, low)) high)
    read n false e is k =
        let some : 0 < n = grind (arith, nat_tests) in
        let m = front_goes_on 20 least most n some ordered small k in
        let high = m.high in
        (m.behind, fits_from least most m.number ((b ∷ word) ++ m.behind) (ap (λ (w : List ℕ). w ++ m.behind) is.is ∙ m.is) (omega (arith, high, small)) m.low high)

    by : (o : Option ℕ) → number_within 0 most (b ∷ word) ≡ o → begins_within least most o ≡ true → (behind : List ℕ) × (fits_number (least, most) ((b ∷ word) ++ behind) ≡ true)
    by None e k = false_true k
    by (Some n) e k = read n (n == 0) refl (within_is 0 most (b ∷ word) n e) k

-- and what a number within bounds begins with, one may begin with
pub number_begins : (least most : ℕ) (word behind : List ℕ) → fits_number (least, most) (word ++ behind) ≡ true → begins_number (least, most) word ≡ true
unfolding begins_number fits_number
number_begins least most [] behind h = refl
number_begins least most (b ∷ word) behind h =
    let read = within_read least most ((b ∷ word) ++ behind) h in
    let m = read.number in
    let bounded = read.is in
    let small = bounded.small in
    let high = bounded.high in
    let low = bounded.low in
    let f = front_of (length behind) behind (b ∷ word) m least most refl bounded.is (omega arith) small low high in
    let upto = f.upto in
    let n = f.number in
    let here : number_within 0 most (b ∷ word) ≡ Some n = within_some 0 most n (b ∷ word) f.is (omega (arith, upto, small)) (omega arith) (omega (arith, upto, high)) in
    let long = length-decimal-le 20 m (omega arith) (omega (arith, small)) small in
    let all = ap length bounded.is in
    let few : suc (length behind) ≤ 20 = omega (arith, all, long, length-append (b ∷ word) behind) in
    or_so (nat_eq (length (b ∷ word)) 0) (begins_within least most (number_within 0 most (b ∷ word)))
    (ap (begins_within least most) here ∙ tested n m (n == 0) refl f.some (front_twenty (suc (length behind)) least most n few f.front) low)
  where
    tested : (n m : ℕ) (zero_so : Bool) → (n == 0) ≡ zero_so → (0 < m → 0 < n) → is_front 20 least most n ≡ true → least ≤ m → (if n == 0 then nat_eq least 0 else is_front 20 least most n) ≡ true
    tested n m true e some front low =
        let none = true_eq n 0 e in
        rw e (eq_true least 0 (by_zero m some low none))
      where
        by_zero : (k : ℕ) → (0 < k → 0 < n) → least ≤ k → n ≡ 0 → least ≡ 0
        by_zero zero some low none = omega (arith, low)
        by_zero (suc k) some low none = absurd (omega (arith, some (omega arith), none))
    tested n m false e some front low = rw e front
