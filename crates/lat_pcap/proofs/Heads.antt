-- A header's text is read as the header, and what is read of a header is its text.
use Rattle.std.proofs.Common.{◌≡◌, ℕ, ◌+◌, ◌^◌, ◌<◌, ◌⊎◌, Bool, true, false, cond, eqb, List, ◌++◌, Option, Some, None, Result, Ok, refl, sym, ap, subst, ◌∙◌, append_assoc, arith, inl, inr}
use Rattle.std.specs.Int.{w16, w32}
use Rattle.std.proofs.lemmas.Bool.{eqb-true}
use Rattle.lat_pcap.specs.declared.fault.Wrong.{Wrong}
use Rattle.lat_pcap.specs.declared.fault.Part.TheVariants.{Header, Magic, Version, LinkType}
use Rattle.lat_pcap.specs.declared.head.Order.{Order}
use Rattle.lat_pcap.specs.declared.head.Order.TheVariants.{Little, Big}
use Rattle.lat_pcap.specs.declared.head.Precision.{Precision}
use Rattle.lat_pcap.specs.declared.head.Precision.TheVariants.{Micro, Nano}
use Rattle.lat_pcap.specs.declared.head.Head.{Head}
use Rattle.lat_pcap.specs.Texts.{Rest, IsRest, two, four, magic, head_text}
use Rattle.lat_pcap.specs.Reading.{◌>>=◌, wanted, known, magic_of, number_at, head_at}
use Rattle.lat_pcap.proofs.Fields.{IsBytes, bind_ok, ok_is, wanted_ok, known_ok, two_taken, four_taken, two_found, four_found}

-- the first four bytes of a header, high byte first
abbrev seen : Order → Precision → ℕ
seen Little Micro = 3569595041
seen Little Nano = 1295823521
seen Big Micro = 2712847316
seen Big Nano = 2712812621

abbrev head : Order → Precision → Head
head o p = record { order = o; precision = p }

seen_text : (o : Order) (p : Precision) → four o (magic p) ≡ four Big (seen o p)
seen_text Little Micro = refl
seen_text Little Nano = refl
seen_text Big Micro = refl
seen_text Big Nano = refl

seen_below : (o : Order) (p : Precision) → seen o p < 2 ^ 32
seen_below Little Micro = omega arith
seen_below Little Nano = omega arith
seen_below Big Micro = omega arith
seen_below Big Nano = omega arith

seen_known : (o : Order) (p : Precision) → magic_of (seen o p) ≡ Some (head o p)
seen_known Little Micro = refl
seen_known Little Nano = refl
seen_known Big Micro = refl
seen_known Big Nano = refl

cond_some : {A : Type 0} (b : Bool) (x : A) (other : Option A) (y : A) → cond b (Some x) other ≡ Some y → ((b ≡ true) × (x ≡ y)) ⊎ (other ≡ Some y)
cond_some true x other y e = inl (refl, cc)
cond_some false x other y e = inr e

abbrev magic4 : ℕ → Option Head
magic4 n = cond (eqb n 2712812621) (Some (head Big Nano)) None

abbrev magic3 : ℕ → Option Head
magic3 n = cond (eqb n 2712847316) (Some (head Big Micro)) (magic4 n)

abbrev magic2 : ℕ → Option Head
magic2 n = cond (eqb n 1295823521) (Some (head Little Nano)) (magic3 n)

seen_by : (n k : ℕ) (o : Order) (p : Precision) (h : Head) → k ≡ seen o p → eqb n k ≡ true → head o p ≡ h → n ≡ seen h.order h.precision
seen_by n k o p h is same e = eqb-true n k same ∙ is ∙ ap (λ (x : Head). seen x.order x.precision) e

no_head : (h : Head) → None ≡ Some h → ⊥
no_head h e = cc

seen_found : (n : ℕ) (h : Head) → magic_of n ≡ Some h → n ≡ seen h.order h.precision
seen_found n h e =
    elim (cond_some (eqb n 3569595041) (head Little Micro) (magic2 n) h e) [
      | inl t ↦ seen_by n 3569595041 Little Micro h refl t.0 t.1
      | inr e2 ↦ elim (cond_some (eqb n 1295823521) (head Little Nano) (magic3 n) h e2) [
        | inl t ↦ seen_by n 1295823521 Little Nano h refl t.0 t.1
        | inr e3 ↦ elim (cond_some (eqb n 2712847316) (head Big Micro) (magic4 n) h e3) [
          | inl t ↦ seen_by n 2712847316 Big Micro h refl t.0 t.1
          | inr e4 ↦ elim (cond_some (eqb n 2712812621) (head Big Nano) None h e4) [
            | inl t ↦ seen_by n 2712812621 Big Nano h refl t.0 t.1
            | inr e5 ↦ absurd (no_head h e5)
          ]
        ]
      ]
    ]

regroup : (a b c d e f g t : List ℕ) → (a ++ (b ++ (c ++ (d ++ (e ++ (f ++ g)))))) ++ t ≡ a ++ (b ++ (c ++ (d ++ (e ++ (f ++ (g ++ t))))))
regroup a b c d e f g t = simp append_assoc

pub head_taken : (h : Head) (r : Rest) (rest : List ℕ) → IsRest r → head_at (head_text h r ++ rest) ≡ Ok (h, 24, rest)
unfolding head_at
head_taken h r rest fits =
    let o = h.order in
    let t7 = four o 1 ++ rest in
    let t6 = four o r.snap ++ t7 in
    let t5 = four o r.accuracy ++ t6 in
    let t4 = four o r.zone ++ t5 in
    let t3 = two o 4 ++ t4 in
    let t2 = two o 2 ++ t3 in
    let regrouped : head_text h r ++ rest ≡ four o (magic h.precision) ++ t2 = regroup (four o (magic h.precision)) (two o 2) (two o 4) (four o r.zone) (four o r.accuracy) (four o r.snap) (four o 1) rest in
    let first : head_text h r ++ rest ≡ four Big (seen o h.precision) ++ t2 = regrouped ∙ ap (λ t. t ++ t2) (seen_text o h.precision) in
    ap head_at first
    ∙ rw (
      four_taken Big Header 0 0 (seen o h.precision) t2 (seen_below o h.precision),
      seen_known o h.precision,
      two_taken o Header 0 4 2 t3 (omega arith),
      two_taken o Header 0 6 4 t4 (omega arith),
      four_taken o Header 0 8 r.zone t5 fits.zone,
      four_taken o Header 0 12 r.accuracy t6 fits.accuracy,
      four_taken o Header 0 16 r.snap t7 fits.snap,
      four_taken o Header 0 20 1 rest (omega arith),
    ) refl

abbrev Num : Type 0
Num = ℕ × ℕ × List ℕ

abbrev Out : Type 0
Out = Result (Head × ℕ × List ℕ) Wrong

abbrev after11 : Head → Num → Unit {0} → Out
after11 h l u = Ok (h, l.1, l.2)

abbrev after10 : Head → Num → Unit {0} → Out
after10 h l u = wanted (eqb l.0 1) LinkType 20 >>= after11 h l

abbrev after9 : Head → Num → Num → Unit {0} → Out
after9 h n l u = wanted (eqb n.0 4) Version 6 >>= after10 h l

abbrev after8 : Head → Num → Num → Num → Out
after8 h m n l = wanted (eqb m.0 2) Version 4 >>= after9 h n l

abbrev after7 : Head → Num → Num → Num → Out
after7 h m n s = number_at w32 h.order Header 0 s.1 s.2 >>= after8 h m n

abbrev after6 : Head → Num → Num → Num → Out
after6 h m n a = number_at w32 h.order Header 0 a.1 a.2 >>= after7 h m n

abbrev after5 : Head → Num → Num → Num → Out
after5 h m n z = number_at w32 h.order Header 0 z.1 z.2 >>= after6 h m n

abbrev after4 : Head → Num → Num → Out
after4 h m n = number_at w32 h.order Header 0 n.1 n.2 >>= after5 h m n

abbrev after3 : Head → Num → Out
after3 h m = number_at w16 h.order Header 0 m.1 m.2 >>= after4 h m

abbrev after2 : Num → Head → Out
after2 b h = number_at w16 h.order Header 0 b.1 b.2 >>= after3 h

abbrev after1 : Num → Out
after1 b = known (magic_of b.0) Magic 0 >>= after2 b

place_behind : (b m n z a s l : ℕ) → b ≡ 0 + 4 → m ≡ b + 2 → n ≡ m + 2 → z ≡ n + 4 → a ≡ z + 4 → s ≡ a + 4 → l ≡ s + 4 → l ≡ 24
place_behind b m n z a s l b_is m_is n_is z_is a_is s_is l_is = omega arith

-- what a header was read from
pub record TookHead (bytes : List ℕ) (x : Head × ℕ × List ℕ) : Type 0 where
  pub rest : Rest
  pub rest_fits : IsRest rest
  pub is : bytes ≡ head_text x.0 rest ++ x.2
  pub next : x.1 ≡ 24
  pub others : IsBytes x.2

pub head_found : (bytes : List ℕ) (x : Head × ℕ × List ℕ) → IsBytes bytes → head_at bytes ≡ Ok x → TookHead bytes x
unfolding head_at
head_found bytes x all e =
    let b = bind_ok (number_at w32 Big Header 0 0 bytes) after1 x e in
    let k = bind_ok (known (magic_of b.0.0) Magic 0) (after2 b.0) x b.2 in
    let h = k.0 in
    let o = h.order in
    let m = bind_ok (number_at w16 o Header 0 b.0.1 b.0.2) (after3 h) x k.2 in
    let n = bind_ok (number_at w16 o Header 0 m.0.1 m.0.2) (after4 h m.0) x m.2 in
    let z = bind_ok (number_at w32 o Header 0 n.0.1 n.0.2) (after5 h m.0 n.0) x n.2 in
    let a = bind_ok (number_at w32 o Header 0 z.0.1 z.0.2) (after6 h m.0 n.0) x z.2 in
    let s = bind_ok (number_at w32 o Header 0 a.0.1 a.0.2) (after7 h m.0 n.0) x a.2 in
    let l = bind_ok (number_at w32 o Header 0 s.0.1 s.0.2) (after8 h m.0 n.0) x s.2 in
    let u = bind_ok (wanted (eqb m.0.0 2) Version 4) (after9 h n.0 l.0) x l.2 in
    let v = bind_ok (wanted (eqb n.0.0 4) Version 6) (after10 h l.0) x u.2 in
    let w = bind_ok (wanted (eqb l.0.0 1) LinkType 20) (after11 h l.0) x v.2 in
    let b_is = four_found Big Header 0 0 bytes b.0 all b.1 in
    let m_is = two_found o Header 0 b.0.1 b.0.2 m.0 b_is.others m.1 in
    let n_is = two_found o Header 0 m.0.1 m.0.2 n.0 m_is.others n.1 in
    let z_is = four_found o Header 0 n.0.1 n.0.2 z.0 n_is.others z.1 in
    let a_is = four_found o Header 0 z.0.1 z.0.2 a.0 z_is.others a.1 in
    let s_is = four_found o Header 0 a.0.1 a.0.2 s.0 a_is.others s.1 in
    let l_is = four_found o Header 0 s.0.1 s.0.2 l.0 s_is.others l.1 in
    let magic_is : b.0.0 ≡ seen o h.precision = seen_found b.0.0 h (known_ok (magic_of b.0.0) Magic 0 h k.1) in
    let major : m.0.0 ≡ 2 = eqb-true m.0.0 2 (wanted_ok (eqb m.0.0 2) Version 4 u.0 u.1) in
    let minor : n.0.0 ≡ 4 = eqb-true n.0.0 4 (wanted_ok (eqb n.0.0 4) Version 6 v.0 v.1) in
    let link : l.0.0 ≡ 1 = eqb-true l.0.0 1 (wanted_ok (eqb l.0.0 1) LinkType 20 w.0 w.1) in
    let rest : Rest = record { zone = z.0.0; accuracy = a.0.0; snap = s.0.0 } in
    let t7 : s.0.2 ≡ four o 1 ++ l.0.2 = l_is.is ∙ ap (λ q. four o q ++ l.0.2) link in
    let t6 : a.0.2 ≡ four o s.0.0 ++ (four o 1 ++ l.0.2) = s_is.is ∙ ap (λ t. four o s.0.0 ++ t) t7 in
    let t5 : z.0.2 ≡ four o a.0.0 ++ (four o s.0.0 ++ (four o 1 ++ l.0.2)) = a_is.is ∙ ap (λ t. four o a.0.0 ++ t) t6 in
    let t4 : n.0.2 ≡ four o z.0.0 ++ (four o a.0.0 ++ (four o s.0.0 ++ (four o 1 ++ l.0.2))) = z_is.is ∙ ap (λ t. four o z.0.0 ++ t) t5 in
    let t3 : m.0.2 ≡ two o 4 ++ (four o z.0.0 ++ (four o a.0.0 ++ (four o s.0.0 ++ (four o 1 ++ l.0.2)))) = n_is.is ∙ ap (λ q. two o q ++ n.0.2) minor ∙ ap (λ t. two o 4 ++ t) t4 in
    let t2 : b.0.2 ≡ two o 2 ++ (two o 4 ++ (four o z.0.0 ++ (four o a.0.0 ++ (four o s.0.0 ++ (four o 1 ++ l.0.2))))) = m_is.is ∙ ap (λ q. two o q ++ m.0.2) major ∙ ap (λ t. two o 2 ++ t) t3 in
    let first : four Big b.0.0 ≡ four o (magic h.precision) = ap (λ q. four Big q) magic_is ∙ sym (seen_text o h.precision) in
    let t1 : bytes ≡ four o (magic h.precision) ++ (two o 2 ++ (two o 4 ++ (four o z.0.0 ++ (four o a.0.0 ++ (four o s.0.0 ++ (four o 1 ++ l.0.2)))))) = b_is.is ∙ ap (λ q. q ++ b.0.2) first ∙ ap (λ t. four o (magic h.precision) ++ t) t2 in
    let regrouped : four o (magic h.precision) ++ (two o 2 ++ (two o 4 ++ (four o z.0.0 ++ (four o a.0.0 ++ (four o s.0.0 ++ (four o 1 ++ l.0.2)))))) ≡ head_text h rest ++ l.0.2 = sym (regroup (four o (magic h.precision)) (two o 2) (two o 4) (four o z.0.0) (four o a.0.0) (four o s.0.0) (four o 1) l.0.2) in
    let y : Head × ℕ × List ℕ = (h, l.0.1, l.0.2) in
    let same : y ≡ x = ok_is y x w.2 in
    let P : (Head × ℕ × List ℕ) → Type 0 = TookHead bytes in
    subst P same (record {
      rest = rest;
      rest_fits = record { zone = z_is.fits; accuracy = a_is.fits; snap = s_is.fits };
      is = t1 ∙ regrouped;
      next = place_behind b.0.1 m.0.1 n.0.1 z.0.1 a.0.1 s.0.1 l.0.1 b_is.next m_is.next n_is.next z_is.next a_is.next s_is.next l_is.next;
      others = l_is.others;
    })
