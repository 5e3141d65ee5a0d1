-- A record's text is read as the record, and what is read of a record is its text.
use Rattle.std.proofs.Common.{◌≡◌, ℕ, ◌+◌, ◌^◌, ◌<◌, ◌≤◌, true, ltb, leb, List, ◌++◌, length, take, drop, Result, Ok, refl, sym, ap, subst, ◌∙◌, append_assoc, length-append, arith}
use Rattle.std.specs.Int.{w32}
use Rattle.std.proofs.lemmas.Bool.Decides.{nat_tests}
use Rattle.std.proofs.lemmas.List.{take_at, drop_at, take-append-drop, length-take-le}
use Rattle.lat_pcap.specs.declared.fault.Wrong.{Wrong}
use Rattle.lat_pcap.specs.declared.fault.Part.TheVariants.{RecordHeader, Fraction, IncludedLength, Data}
use Rattle.lat_pcap.specs.declared.head.Precision.{Precision}
use Rattle.lat_pcap.specs.declared.head.Precision.TheVariants.{Micro, Nano}
use Rattle.lat_pcap.specs.declared.head.Head.{Head}
use Rattle.lat_pcap.specs.Texts.{Raw, IsRaw, raw, unit, four, record_text}
use Rattle.lat_pcap.specs.Reading.{◌>>=◌, wanted, number_at, record_at}
use Rattle.lat_pcap.proofs.Fields.{IsBytes, IsBytes-drop, bind_ok, ok_is, wanted_ok, four_taken, four_found, wide32}

fraction_below : (p : Precision) (n : ℕ) → n < unit p → n < 2 ^ 32
fraction_below Micro n lt = omega arith
fraction_below Nano n lt = omega arith

pub record_taken : (h : Head) (r : Raw) (place : ℕ) (rest : List ℕ) → IsRaw h.precision r → record_at h place (record_text h.order r ++ rest) ≡ Ok (r, place + 4 + 4 + 4 + 4 + length r.held, rest)
unfolding record_at
record_taken h r place rest fits =
    let o = h.order in
    let t4 = r.held ++ rest in
    let t3 = four o r.whole ++ t4 in
    let t2 = four o (length r.held) ++ t3 in
    let t1 = four o r.fraction ++ t2 in
    let regrouped : record_text o r ++ rest ≡ four o r.seconds ++ t1 = simp append_assoc in
    let small = fits.fraction in
    let one : ltb r.fraction (unit h.precision) ≡ true = grind (arith, nat_tests) in
    let most = fits.included in
    let two : leb (length r.held) 262144 ≡ true = grind (arith, nat_tests) in
    let len = length-append r.held rest in
    let three : leb (length r.held) (length t4) ≡ true = grind (arith, nat_tests) in
    let below : r.fraction < 2 ^ 32 = fraction_below h.precision r.fraction small in
    ap (record_at h place) regrouped
    ∙ rw (
      four_taken o RecordHeader place place r.seconds t1 fits.seconds,
      four_taken o RecordHeader place (place + 4) r.fraction t2 below,
      four_taken o RecordHeader place (place + 4 + 4) (length r.held) t3 (omega (arith, most)),
      four_taken o RecordHeader place (place + 4 + 4 + 4) r.whole t4 fits.whole,
      one,
      two,
      three,
      take_at r.held rest (length r.held) refl,
      drop_at r.held rest (length r.held) refl,
    ) refl

abbrev Num : Type 0
Num = ℕ × ℕ × List ℕ

abbrev after7 : Num → Num → Num → Num → Unit {0} → Result (Raw × ℕ × List ℕ) Wrong
after7 s f n w u = Ok (raw s.0 f.0 w.0 (take n.0 w.2), w.1 + n.0, drop n.0 w.2)

abbrev after6 : Num → Num → Num → Num → Unit {0} → Result (Raw × ℕ × List ℕ) Wrong
after6 s f n w u = wanted (leb n.0 (length w.2)) Data w.1 >>= after7 s f n w

abbrev after5 : Num → Num → Num → Num → Unit {0} → Result (Raw × ℕ × List ℕ) Wrong
after5 s f n w u = wanted (leb n.0 262144) IncludedLength f.1 >>= after6 s f n w

abbrev after4 : Head → Num → Num → Num → Num → Result (Raw × ℕ × List ℕ) Wrong
after4 h s f n w = wanted (ltb f.0 (unit h.precision)) Fraction s.1 >>= after5 s f n w

abbrev after3 : Head → ℕ → Num → Num → Num → Result (Raw × ℕ × List ℕ) Wrong
after3 h place s f n = number_at w32 h.order RecordHeader place n.1 n.2 >>= after4 h s f n

abbrev after2 : Head → ℕ → Num → Num → Result (Raw × ℕ × List ℕ) Wrong
after2 h place s f = number_at w32 h.order RecordHeader place f.1 f.2 >>= after3 h place s f

abbrev after1 : Head → ℕ → Num → Result (Raw × ℕ × List ℕ) Wrong
after1 h place s = number_at w32 h.order RecordHeader place s.1 s.2 >>= after2 h place s

-- what a record was read from
pub record TookRecord (h : Head) (place : ℕ) (bytes : List ℕ) (x : Raw × ℕ × List ℕ) : Type 0 where
  pub is : bytes ≡ record_text h.order x.0 ++ x.2
  pub next : x.1 ≡ place + 16 + length x.0.held
  pub fits : IsRaw h.precision x.0
  pub others : IsBytes x.2

pub record_found : (h : Head) (place : ℕ) (bytes : List ℕ) (x : Raw × ℕ × List ℕ) → IsBytes bytes → record_at h place bytes ≡ Ok x → TookRecord h place bytes x
unfolding record_at
record_found h place bytes x all e =
    let o = h.order in
    let s = bind_ok (number_at w32 o RecordHeader place place bytes) (after1 h place) x e in
    let f = bind_ok (number_at w32 o RecordHeader place s.0.1 s.0.2) (after2 h place s.0) x s.2 in
    let n = bind_ok (number_at w32 o RecordHeader place f.0.1 f.0.2) (after3 h place s.0 f.0) x f.2 in
    let w = bind_ok (number_at w32 o RecordHeader place n.0.1 n.0.2) (after4 h s.0 f.0 n.0) x n.2 in
    let u = bind_ok (wanted (ltb f.0.0 (unit h.precision)) Fraction s.0.1) (after5 s.0 f.0 n.0 w.0) x w.2 in
    let v = bind_ok (wanted (leb n.0.0 262144) IncludedLength f.0.1) (after6 s.0 f.0 n.0 w.0) x u.2 in
    let z = bind_ok (wanted (leb n.0.0 (length w.0.2)) Data w.0.1) (after7 s.0 f.0 n.0 w.0) x v.2 in
    let s_is = four_found o RecordHeader place place bytes s.0 all s.1 in
    let f_is = four_found o RecordHeader place s.0.1 s.0.2 f.0 s_is.others f.1 in
    let n_is = four_found o RecordHeader place f.0.1 f.0.2 n.0 f_is.others n.1 in
    let w_is = four_found o RecordHeader place n.0.1 n.0.2 w.0 n_is.others w.1 in
    let one = wanted_ok (ltb f.0.0 (unit h.precision)) Fraction s.0.1 u.0 u.1 in
    let two = wanted_ok (leb n.0.0 262144) IncludedLength f.0.1 v.0 v.1 in
    let three = wanted_ok (leb n.0.0 (length w.0.2)) Data w.0.1 z.0 z.1 in
    let small : f.0.0 < unit h.precision = grind (arith, nat_tests) in
    let most : n.0.0 ≤ 262144 = grind (arith, nat_tests) in
    let room : n.0.0 ≤ length w.0.2 = grind (arith, nat_tests) in
    let held = take n.0.0 w.0.2 in
    let tail = drop n.0.0 w.0.2 in
    let len : length held ≡ n.0.0 = length-take-le n.0.0 w.0.2 room in
    let made : Raw = raw s.0.0 f.0.0 w.0.0 held in
    let y : Raw × ℕ × List ℕ = (made, w.0.1 + n.0.0, tail) in
    let same : y ≡ x = ok_is y x z.2 in
    let spelled : bytes ≡ four o s.0.0 ++ (four o f.0.0 ++ (four o n.0.0 ++ (four o w.0.0 ++ (held ++ tail)))) =
    s_is.is ∙ ap (λ t. four o s.0.0 ++ t) (f_is.is ∙ ap (λ t. four o f.0.0 ++ t) (n_is.is ∙ ap (λ t. four o n.0.0 ++ t) (w_is.is ∙ ap (λ t. four o w.0.0 ++ t) (sym (take-append-drop n.0.0 w.0.2))))) in
    let counted : bytes ≡ four o s.0.0 ++ (four o f.0.0 ++ (four o (length held) ++ (four o w.0.0 ++ (held ++ tail)))) = rw len spelled in
    let regrouped : four o s.0.0 ++ (four o f.0.0 ++ (four o (length held) ++ (four o w.0.0 ++ (held ++ tail)))) ≡ record_text o made ++ tail = sym (simp append_assoc) in
    let P : (Raw × ℕ × List ℕ) → Type 0 = TookRecord h place bytes in
    subst P same (record {
      is = counted ∙ regrouped;
      next = omega (arith, s_is.next, f_is.next, n_is.next, w_is.next, len);
      fits = record { seconds = s_is.fits; fraction = small; whole = w_is.fits; included = omega (arith, len, most) };
      others = IsBytes-drop n.0.0 w.0.2 w_is.others;
    })

pub record_length : (h : Head) (r : Raw) → length (record_text h.order r) ≡ 16 + length r.held
record_length h r =
    let o = h.order in
    let t3 = four o r.whole ++ r.held in
    let t2 = four o (length r.held) ++ t3 in
    let t1 = four o r.fraction ++ t2 in
    omega (
      arith,
      length-append (four o r.seconds) t1,
      length-append (four o r.fraction) t2,
      length-append (four o (length r.held)) t3,
      length-append (four o r.whole) r.held,
      (wide32 o).len r.seconds,
      (wide32 o).len r.fraction,
      (wide32 o).len (length r.held),
      (wide32 o).len r.whole,
    )

pub record_read : (h : Head) (r : Raw) (place : ℕ) (rest : List ℕ) → IsRaw h.precision r → record_at h place (record_text h.order r ++ rest) ≡ Ok (r, place + 16 + length r.held, rest)
record_read h r place rest fits =
    let next : place + 4 + 4 + 4 + 4 + length r.held ≡ place + 16 + length r.held = omega arith in
    record_taken h r place rest fits ∙ ap (λ (n : ℕ). Ok (r, n, rest)) next
