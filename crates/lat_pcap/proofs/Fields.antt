-- A number's text is read as the number, and what is read of a number is its text.
use Rattle.std.proofs.Common.{◌≡◌, ℕ, ◌+◌, ◌^◌, ◌<◌, ◌≤◌, Bool, true, false, cond, ltb, List, ◌++◌, length, get_or, take, drop, Option, Some, None, Result, Ok, Err, refl, sym, subst, arith, inl, inr}
use Rattle.std.specs.Int.{Width, w16, w32, byte_len}
use Rattle.std.proofs.lemmas.Bool.{cases_lt, ltb-false, le-ltb}
use Rattle.std.proofs.lemmas.List.{take_at, drop_at, take-append-drop, length-append, length-take, get_or-drop, get_or-take, get_or_past}
use Rattle.std.proofs.lemmas.Nat.{le_bytes_2, be_bytes_2, le_bytes_4, be_bytes_4, from_le_bytes-to_le_bytes_2, from_be_bytes-to_be_bytes_2, from_le_bytes-to_le_bytes_4, from_be_bytes-to_be_bytes_4}
use Rattle.lat_pcap.specs.declared.fault.Part.{Part}
use Rattle.lat_pcap.specs.declared.fault.Wrong.{Wrong}
use Rattle.lat_pcap.specs.declared.head.Order.{Order}
use Rattle.lat_pcap.specs.declared.head.Order.TheVariants.{Little, Big}
use Rattle.lat_pcap.specs.Texts.{number}
use Rattle.lat_pcap.specs.Reading.{◌>>=◌, wrong, wanted, known, value, number_at}

abbrev pub IsBytes : List ℕ → Type 0
IsBytes bytes = (i : ℕ) → get_or bytes i 0 < 256

pub IsBytes-drop : (n : ℕ) (bytes : List ℕ) → IsBytes bytes → IsBytes (drop n bytes)
IsBytes-drop n bytes h i = rw get_or-drop (h (n + i))

pub IsBytes-take : (n : ℕ) (bytes : List ℕ) → IsBytes bytes → IsBytes (take n bytes)
IsBytes-take n bytes h i =
    elim (cases_lt i n) [
      | inl lt ↦ rw (get_or-take n bytes i 0 lt) (h i)
      | inr le ↦ rw (get_or_past (take n bytes) i 0 (omega (arith, length-take n bytes))) (omega arith)
    ]

pub bind_ok : {A B : Type 0} (r : Result A Wrong) (f : A → Result B Wrong) (y : B) → (r >>= f) ≡ Ok y → (x : A) × (r ≡ Ok x) × (f x ≡ Ok y)
bind_ok (Ok x) f y e = (x, refl, e)
bind_ok (Err d) f y e = absurd (let no : Err d ≡ Ok y = e in cc)

abbrev done : {A : Type 0} → A → Result A Wrong
done x = Ok x

pub ok_is : {A : Type 0} (x y : A) → done x ≡ done y → x ≡ y
ok_is x y e = cc

pub guard_ok : {A : Type 0} (b : Bool) (d : Wrong) (x y : A) → cond b (Err d) (Ok x) ≡ Ok y → (b ≡ false) × (x ≡ y)
guard_ok true d x y e = absurd (let no : Err d ≡ Ok y = e in cc)
guard_ok false d x y e = (refl, cc)

pub wanted_ok : (b : Bool) (p : Part) (at : ℕ) (u : Unit {0}) → wanted b p at ≡ Ok u → b ≡ true
wanted_ok true p at u h = refl
wanted_ok false p at u h = absurd (let no : wrong p at ≡ Ok u = h in cc)

pub known_ok : {A : Type 0} (found : Option A) (p : Part) (at : ℕ) (x : A) → known found p at ≡ Ok x → found ≡ Some x
known_ok (Some y) p at x h = cc
known_ok None p at x h = absurd (let no : wrong p at ≡ Ok x = h in cc)

pub record IsWide (w : Width) (o : Order) (limit : ℕ) : Type 0 where
  pub len : (n : ℕ) → length (number w o n) ≡ byte_len w
  pub back : (bytes : List ℕ) → length bytes ≡ byte_len w → IsBytes bytes → number w o (value w o bytes) ≡ bytes
  pub again : (n : ℕ) → n < limit → value w o (number w o n) ≡ n
  pub below : (bytes : List ℕ) → IsBytes bytes → value w o bytes < limit

pub wide16 : (o : Order) → IsWide w16 o (2 ^ 16)
wide16 Little = record {
  len = λ n. refl;
  back = λ bytes len fits. le_bytes_2 bytes _ len fits refl;
  again = λ n lt. from_le_bytes-to_le_bytes_2 n lt;
  below = λ bytes fits. omega (arith, fits 0, fits 1);
}
wide16 Big = record {
  len = λ n. refl;
  back = λ bytes len fits. be_bytes_2 bytes _ len fits refl;
  again = λ n lt. from_be_bytes-to_be_bytes_2 n lt;
  below = λ bytes fits. omega (arith, fits 0, fits 1);
}

pub wide32 : (o : Order) → IsWide w32 o (2 ^ 32)
wide32 Little = record {
  len = λ n. refl;
  back = λ bytes len fits. le_bytes_4 bytes _ len fits refl;
  again = λ n lt. from_le_bytes-to_le_bytes_4 n lt;
  below = λ bytes fits. omega (arith, fits 0, fits 1, fits 2, fits 3);
}
wide32 Big = record {
  len = λ n. refl;
  back = λ bytes len fits. be_bytes_4 bytes _ len fits refl;
  again = λ n lt. from_be_bytes-to_be_bytes_4 n lt;
  below = λ bytes fits. omega (arith, fits 0, fits 1, fits 2, fits 3);
}

-- what a number was read from
pub record Took (w : Width) (o : Order) (limit place : ℕ) (bytes : List ℕ) (x : ℕ × ℕ × List ℕ) : Type 0 where
  pub is : bytes ≡ number w o x.0 ++ x.2
  pub next : x.1 ≡ place + byte_len w
  pub fits : x.0 < limit
  pub others : IsBytes x.2

pub number_found : (w : Width) (o : Order) (limit : ℕ) (wide : IsWide w o limit) (p : Part) (at place : ℕ) (bytes : List ℕ) (x : ℕ × ℕ × List ℕ)
    → IsBytes bytes → number_at w o p at place bytes ≡ Ok x → Took w o limit place bytes x
number_found w o limit wide p at place bytes x fits e =
    let front = take (byte_len w) bytes in
    let g = guard_ok (ltb (length bytes) (byte_len w)) (record { part = p; at = at }) (value w o front, place + byte_len w, drop (byte_len w) bytes) x e in
    let long : byte_len w ≤ length bytes = ltb-false _ _ g.0 in
    let fits_front = IsBytes-take (byte_len w) bytes fits in
    let back : number w o (value w o front) ≡ front = wide.back front (omega (arith, length-take (byte_len w) bytes)) fits_front in
    let P : (ℕ × ℕ × List ℕ) → Type 0 = Took w o limit place bytes in
    subst P g.1 (record {
      is = rw back (sym (take-append-drop (byte_len w) bytes));
      next = refl;
      fits = wide.below front fits_front;
      others = IsBytes-drop (byte_len w) bytes fits;
    })

pub number_taken : (w : Width) (o : Order) (limit : ℕ) (wide : IsWide w o limit) (p : Part) (at place n : ℕ) (rest : List ℕ)
    → n < limit → number_at w o p at place (number w o n ++ rest) ≡ Ok (n, place + byte_len w, rest)
number_taken w o limit wide p at place n rest lt =
    let len = wide.len n in
    let long : ltb (length (number w o n ++ rest)) (byte_len w) ≡ false = le-ltb _ _ (omega (arith, length-append (number w o n) rest)) in
    rw (long, take_at (number w o n) rest (byte_len w) len, drop_at (number w o n) rest (byte_len w) len, wide.again n lt) refl

pub four_taken : (o : Order) (p : Part) (at place n : ℕ) (rest : List ℕ) → n < 2 ^ 32 → number_at w32 o p at place (number w32 o n ++ rest) ≡ Ok (n, place + 4, rest)
four_taken o p at place n rest lt = number_taken w32 o (2 ^ 32) (wide32 o) p at place n rest lt

pub two_taken : (o : Order) (p : Part) (at place n : ℕ) (rest : List ℕ) → n < 2 ^ 16 → number_at w16 o p at place (number w16 o n ++ rest) ≡ Ok (n, place + 2, rest)
two_taken o p at place n rest lt = number_taken w16 o (2 ^ 16) (wide16 o) p at place n rest lt

pub four_found : (o : Order) (p : Part) (at place : ℕ) (bytes : List ℕ) (x : ℕ × ℕ × List ℕ) → IsBytes bytes → number_at w32 o p at place bytes ≡ Ok x → Took w32 o (2 ^ 32) place bytes x
four_found o p at place bytes x fits e = number_found w32 o (2 ^ 32) (wide32 o) p at place bytes x fits e

pub two_found : (o : Order) (p : Part) (at place : ℕ) (bytes : List ℕ) (x : ℕ × ℕ × List ℕ) → IsBytes bytes → number_at w16 o p at place bytes ≡ Ok x → Took w16 o (2 ^ 16) place bytes x
two_found o p at place bytes x fits e = number_found w16 o (2 ^ 16) (wide16 o) p at place bytes x fits e
