-- A frame's text is read as the frame, and what is read of a frame is its text.
use Rattle.std.proofs.Common.{◌≡◌, ℕ, zero, suc, ◌+◌, ◌<◌, ◌≤◌, Bool, true, false, ◌&&◌, cond, eqb, leb, List, [], ◌∷◌, ◌++◌, length, get_or, take, drop, Some, None, refl, sym, ap, subst, ◌∙◌, append_assoc, length-append, arith}
use Rattle.std.proofs.lemmas.Bool.{eqb-true}
use Rattle.std.proofs.lemmas.Bool.Decides.{nat_tests}
use Rattle.std.proofs.lemmas.List.{take_at, drop_at, take-append-drop, length-take-le, length-drop, drop-drop, get_or-drop}
use Rattle.lat_pcap.specs.declared.frame.Frame.{Frame}
use Rattle.lat_pcap.specs.declared.head.Precision.{Precision}
use Rattle.lat_pcap.specs.Texts.{Raw, is_ours, frame_in, nanos}
use Rattle.lat_pcap.specs.Laws.{IsFrameOf}

no_cells : (a : ℕ) (more : List ℕ) → [] ≡ a ∷ more → ⊥
no_cells a more e = cc

-- behind two cells
dropped : (n : ℕ) (xs : List ℕ) (a b : ℕ) (more : List ℕ) → drop n xs ≡ a ∷ b ∷ more → drop (n + 2) xs ≡ more
dropped zero xs a b more e = ap (drop 2) e
dropped (suc n) [] a b more e = absurd (no_cells a (b ∷ more) e)
dropped (suc n) (x ∷ xs) a b more e =
    let same : suc n + 2 ≡ suc (n + 2) = omega arith in
    ap (λ k. drop k (x ∷ xs)) same ∙ dropped n xs a b more e

no_frame : (f : Frame) → None ≡ Some f → ⊥
no_frame f e = cc

-- the cell at a place, and what stands behind it
cell : (n : ℕ) (xs : List ℕ) → n < length xs → drop n xs ≡ get_or xs n 0 ∷ drop (suc n) xs
cell n [] lt = absurd (omega arith)
cell zero (x ∷ xs) lt = refl
cell (suc n) (x ∷ xs) lt = cell n xs (omega (arith, lt))

-- two addresses, two cells, and what stands behind them
cells : (xs : List ℕ) → 14 ≤ length xs → xs ≡ take 6 xs ++ (take 6 (drop 6 xs) ++ (get_or xs 12 0 ∷ get_or xs 13 0 ∷ drop 14 xs))
cells xs long =
    let second : drop 6 xs ≡ take 6 (drop 6 xs) ++ drop 12 xs = sym (take-append-drop 6 (drop 6 xs)) ∙ ap (λ t. take 6 (drop 6 xs) ++ t) (drop-drop 6 6 xs) in
    let mark : drop 12 xs ≡ get_or xs 12 0 ∷ get_or xs 13 0 ∷ drop 14 xs = cell 12 xs (omega (arith, long)) ∙ ap (λ t. get_or xs 12 0 ∷ t) (cell 13 xs (omega (arith, long))) in
    sym (take-append-drop 6 xs) ∙ ap (λ t. take 6 xs ++ t) (second ∙ ap (λ t. take 6 (drop 6 xs) ++ t) mark)

pub frame_taken : (p : Precision) (r : Raw) (f : Frame) → IsFrameOf p r f → frame_in p r ≡ Some f
frame_taken p r f h =
    let mark = 96 ∷ 4 ∷ f.payload in
    let front = f.to.0 ++ f.from.0 in
    let len : length front ≡ 12 = omega (arith, length-append f.to.0 f.from.0, h.to, h.from) in
    let twelve : drop 12 r.held ≡ mark = ap (drop 12) (h.is ∙ sym (append_assoc f.to.0 f.from.0 mark)) ∙ drop_at front mark 12 len in
    let a : get_or r.held 12 0 ≡ 96 = sym (get_or-drop 12 r.held 0 0) ∙ ap (λ t. get_or t 0 0) twelve in
    let b : get_or r.held 13 0 ≡ 4 = sym (get_or-drop 12 r.held 1 0) ∙ ap (λ t. get_or t 1 0) twelve in
    let long : 14 ≤ length r.held = omega (arith, ap length h.is, length-append f.to.0 (f.from.0 ++ mark), length-append f.from.0 mark, h.to, h.from) in
    let c : leb 14 (length r.held) ≡ true = grind (arith, nat_tests) in
    let to : take 6 r.held ≡ f.to.0 = ap (take 6) h.is ∙ take_at f.to.0 (f.from.0 ++ mark) 6 h.to in
    let behind : drop 6 r.held ≡ f.from.0 ++ mark = ap (drop 6) h.is ∙ drop_at f.to.0 (f.from.0 ++ mark) 6 h.to in
    let from : take 6 (drop 6 r.held) ≡ f.from.0 = ap (take 6) behind ∙ take_at f.from.0 mark 6 h.from in
    let payload : drop 14 r.held ≡ f.payload = dropped 12 r.held 96 4 f.payload twelve in
    rw (c, a, b, to, from, payload, sym h.seconds, sym h.nanos_are) refl

both : (a b : Bool) → (a && b) ≡ true → (a ≡ true) × (b ≡ true)
both true b h = (refl, h)
both false b h = absurd (let no : false ≡ true = h in cc)

frame_by : (b : Bool) (x f : Frame) → cond b (Some x) None ≡ Some f → (b ≡ true) × (x ≡ f)
frame_by true x f e = (refl, cc)
frame_by false x f e = absurd (no_frame f e)

pub frame_found : (p : Precision) (r : Raw) (f : Frame) → frame_in p r ≡ Some f → IsFrameOf p r f
frame_found p r f e =
    let held = r.held in
    let made : Frame = record { seconds = r.seconds; nanos = nanos p r.fraction; to = record { 0 = take 6 held }; from = record { 0 = take 6 (drop 6 held) }; payload = drop 14 held } in
    let g = frame_by (is_ours held) made f e in
    let t = both (leb 14 (length held)) (eqb (get_or held 12 0) 96 && eqb (get_or held 13 0) 4) g.0 in
    let u = both (eqb (get_or held 12 0) 96) (eqb (get_or held 13 0) 4) t.1 in
    let size = t.0 in
    let long : 14 ≤ length held = grind (arith, nat_tests) in
    let rest = length-drop 6 held in
    let first : get_or held 12 0 ≡ 96 = eqb-true (get_or held 12 0) 96 u.0 in
    let second : get_or held 13 0 ≡ 4 = eqb-true (get_or held 13 0) 4 u.1 in
    let P : Frame → Type 0 = IsFrameOf p r in
    subst P g.1 (record {
      seconds = refl;
      nanos_are = refl;
      to = length-take-le 6 held (omega (arith, long));
      from = length-take-le 6 (drop 6 held) (omega (arith, long, rest));
      is = cells held long ∙ (λ i. take 6 held ++ (take 6 (drop 6 held) ++ (first i ∷ second i ∷ drop 14 held)));
    })
