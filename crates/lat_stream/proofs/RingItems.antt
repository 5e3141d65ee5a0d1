-- Settings that are kept beside the bytes of a ring.
use Rattle.std.proofs.Common.{◌≡◌, ◌≢◌, ℕ, zero, suc, ◌+◌, ◌-◌, ◌<◌, ◌≤◌, min, subst, sym, ap, ap₂, ◌∙◌, refl, arith, Bool, true, false, cond, ◌&&◌, List, [], ◌∷◌, ◌++◌, map, length, take, drop, set, Some, None, slice_get, nat_lt, nat_le, length-append, length-drop, append-nil, append_assoc, drop-drop, ltb-true, ltb-false}
use Rattle.std.proofs.lemmas.Bool.{and_parts, lt-ltb, le-ltb, lt-leb, leb-true, leb-false}
use Rattle.std.proofs.lemmas.List.{length-take-le, length-map, take-append-le, drop-append-le, take_at, drop_all, take_more_set, drop-set-lt, take-take, drop-take, drop-map, length-take, map-append}
use Rattle.std.proofs.lemmas.Option.{none-some}
use Rattle.std.proofs.Math.Seq.{take-add}
use Rattle.std.specs.List.{take-map}
use Rattle.circular_buffer.specs.Buffer.{Buffer, buffer, keep_last}
use Rattle.lat_base.specs.declared.item.Item.{Item}
use Rattle.lat_base.specs.declared.item.Item.TheVariants.{Byte, Set}
use Rattle.lat_stream.specs.declared.ring.Placed.{Placed}
use Rattle.lat_stream.specs.RingItems.{RingItems, with_settings, span, behind, settings_in}
use Rattle.lat_stream.specs.Turns.{leading}

-- the first setting has a place, or none
pub placed_in : (p : Placed) (ps : List Placed) (xs : List Item) → p.gap < length xs → with_settings (p ∷ ps) xs ≡ take p.gap xs ++ Set p.setting ∷ with_settings ps (drop (suc p.gap) xs)
placed_in p ps xs h = ap (λ b. cond b (take p.gap xs ++ Set p.setting ∷ with_settings ps (drop (suc p.gap) xs)) xs) (lt-ltb p.gap (length xs) h)

pub placed_past : (p : Placed) (ps : List Placed) (xs : List Item) → length xs ≤ p.gap → with_settings (p ∷ ps) xs ≡ xs
placed_past p ps xs h = ap (λ b. cond b (take p.gap xs ++ Set p.setting ∷ with_settings ps (drop (suc p.gap) xs)) xs) (le-ltb p.gap (length xs) h)

pub length-settings : (ps : List Placed) (xs : List Item) → length (with_settings ps xs) ≡ length xs
length-settings [] xs = refl
length-settings (p ∷ ps) xs = go (length-settings ps (drop (suc p.gap) xs)) (nat_lt p.gap (length xs)) refl
  where
    go : length (with_settings ps (drop (suc p.gap) xs)) ≡ length (drop (suc p.gap) xs) → (b : Bool) → nat_lt p.gap (length xs) ≡ b → length (with_settings (p ∷ ps) xs) ≡ length xs
    go ih true e =
        let h : p.gap < length xs = ltb-true p.gap (length xs) e in
        let rest : List Item = with_settings ps (drop (suc p.gap) xs) in
        ap length (placed_in p ps xs h)
        ∙ length-append (take p.gap xs) (Set p.setting ∷ rest)
        ∙ omega (arith, h, length-take-le p.gap xs (omega (arith, h)), ih, length-drop (suc p.gap) xs)
    go ih false e = ap length (placed_past p ps xs (ltb-false p.gap (length xs) e))

-- items that come behind all settings
pub append_bytes : (ps : List Placed) (xs ys : List Item) → span ps ≤ length xs → with_settings ps (xs ++ ys) ≡ with_settings ps xs ++ ys
append_bytes [] xs ys h = refl
append_bytes (p ∷ ps) xs ys h =
    let rest : List Item = with_settings ps (drop (suc p.gap) xs) in
    placed_in p ps (xs ++ ys) (omega (arith, h, length-append xs ys))
    ∙ ap₂ (λ a b. a ++ Set p.setting ∷ with_settings ps b) (take-append-le p.gap xs ys (omega (arith, h))) (drop-append-le (suc p.gap) xs ys (omega (arith, h)))
    ∙ ap (λ z. take p.gap xs ++ Set p.setting ∷ z) (append_bytes ps (drop (suc p.gap) xs) ys (omega (arith, h, length-drop (suc p.gap) xs)))
    ∙ sym (append_assoc (take p.gap xs) (Set p.setting ∷ rest) ys)
    ∙ ap (λ z. z ++ ys) (sym (placed_in p ps xs (omega (arith, h))))

-- a setting that comes
pub append_setting : (ps : List Placed) (q : Placed) (xs : List Item) (x : Item) → span ps + q.gap ≡ length xs → with_settings (ps ++ q ∷ []) (xs ++ x ∷ []) ≡ with_settings ps xs ++ Set q.setting ∷ []
append_setting [] q xs x h =
    let here : length xs ≡ q.gap = omega (arith, h) in
    placed_in q [] (xs ++ x ∷ []) (omega (arith, h, length-append xs (x ∷ [])))
    ∙ ap₂ (λ a b. a ++ Set q.setting ∷ b) (take_at xs (x ∷ []) q.gap here) (drop_all (suc q.gap) (xs ++ x ∷ []) (omega (arith, h, length-append xs (x ∷ []))))
append_setting (p ∷ ps) q xs x h =
    let rest : List Item = with_settings ps (drop (suc p.gap) xs) in
    placed_in p (ps ++ q ∷ []) (xs ++ x ∷ []) (omega (arith, h, length-append xs (x ∷ [])))
    ∙ ap₂ (λ a b. a ++ Set p.setting ∷ with_settings (ps ++ q ∷ []) b) (take-append-le p.gap xs (x ∷ []) (omega (arith, h))) (drop-append-le (suc p.gap) xs (x ∷ []) (omega (arith, h)))
    ∙ ap (λ z. take p.gap xs ++ Set p.setting ∷ z) (append_setting ps q (drop (suc p.gap) xs) x (omega (arith, h, length-drop (suc p.gap) xs)))
    ∙ sym (append_assoc (take p.gap xs) (Set p.setting ∷ rest) (Set q.setting ∷ []))
    ∙ ap (λ z. z ++ Set q.setting ∷ []) (sym (placed_in p ps xs (omega (arith, h))))

pub span-append : (ps : List Placed) (q : Placed) → span (ps ++ q ∷ []) ≡ span ps + suc q.gap
span-append [] q = omega arith
span-append (p ∷ ps) q = omega (arith, span-append ps q)

-- the first n

take_past : (xs : List Item) (y : Item) (ys : List Item) (n : ℕ) → length xs < n → take n (xs ++ y ∷ ys) ≡ xs ++ y ∷ take (n - suc (length xs)) ys
take_past xs y ys zero h = absurd (omega (arith, h))
take_past [] y ys (suc n) h =
    let e : n ≡ suc n - 1 = omega arith in
    ap (λ z. y ∷ take z ys) e
take_past (x ∷ xs) y ys (suc n) h =
    let e : n - suc (length xs) ≡ suc n - suc (suc (length xs)) = omega arith in
    ap (λ z. x ∷ z) (take_past xs y ys n (omega (arith, h))) ∙ ap (λ z. x ∷ (xs ++ y ∷ take z ys)) e

drop_past : (xs : List Item) (y : Item) (ys : List Item) (n : ℕ) → length xs < n → drop n (xs ++ y ∷ ys) ≡ drop (n - suc (length xs)) ys
drop_past xs y ys zero h = absurd (omega (arith, h))
drop_past [] y ys (suc n) h =
    let e : n ≡ suc n - 1 = omega arith in
    ap (λ z. drop z ys) e
drop_past (x ∷ xs) y ys (suc n) h =
    let e : n - suc (length xs) ≡ suc n - suc (suc (length xs)) = omega arith in
    drop_past xs y ys n (omega (arith, h)) ∙ ap (λ z. drop z ys) e

pub take_settings : (n : ℕ) (ps : List Placed) (xs : List Item) → with_settings ps (take n xs) ≡ take n (with_settings ps xs)
take_settings n [] xs = refl
take_settings n (p ∷ ps) xs = go (take_settings (n - suc p.gap) ps (drop (suc p.gap) xs)) (nat_lt p.gap (length xs)) (nat_lt p.gap n) refl refl
  where
    go : with_settings ps (take (n - suc p.gap) (drop (suc p.gap) xs)) ≡ take (n - suc p.gap) (with_settings ps (drop (suc p.gap) xs)) → (a b : Bool) → nat_lt p.gap (length xs) ≡ a → nat_lt p.gap n ≡ b → with_settings (p ∷ ps) (take n xs) ≡ take n (with_settings (p ∷ ps) xs)
    go ih false b e f =
        let h : length xs ≤ p.gap = ltb-false p.gap (length xs) e in
        placed_past p ps (take n xs) (omega (arith, h, length-take n xs)) ∙ ap (take n) (sym (placed_past p ps xs h))
    go ih true false e f =
        let h : p.gap < length xs = ltb-true p.gap (length xs) e in
        let g : n ≤ p.gap = ltb-false p.gap n f in
        placed_past p ps (take n xs) (omega (arith, g, length-take n xs))
        ∙ sym (take-take n p.gap xs g)
        ∙ sym (take-append-le n (take p.gap xs) (Set p.setting ∷ with_settings ps (drop (suc p.gap) xs)) (omega (arith, h, g, length-take-le p.gap xs (omega (arith, h)))))
        ∙ ap (take n) (sym (placed_in p ps xs h))
    go ih true true e f =
        let h : p.gap < length xs = ltb-true p.gap (length xs) e in
        let g : p.gap < n = ltb-true p.gap n f in
        let l : length (take p.gap xs) ≡ p.gap = length-take-le p.gap xs (omega (arith, h)) in
        let m : suc p.gap + (n - suc p.gap) ≡ n = omega (arith, g) in
        let rest : List Item = drop (suc p.gap) xs in
        let d : drop (suc p.gap) (take n xs) ≡ take (n - suc p.gap) rest = ap (λ z. drop (suc p.gap) (take z xs)) (sym m) ∙ drop-take (suc p.gap) (n - suc p.gap) xs in
        placed_in p ps (take n xs) (omega (arith, h, g, length-take n xs))
        ∙ ap₂ (λ a b. a ++ Set p.setting ∷ with_settings ps b) (take-take p.gap n xs (omega (arith, g))) d
        ∙ ap (λ z. take p.gap xs ++ Set p.setting ∷ z) ih
        ∙ ap (λ z. take p.gap xs ++ Set p.setting ∷ take (n - suc z) (with_settings ps rest)) (sym l)
        ∙ sym (take_past (take p.gap xs) (Set p.setting) (with_settings ps rest) n (omega (arith, l, g)))
        ∙ ap (take n) (sym (placed_in p ps xs h))

-- those behind them

none_placed : (qs : List Placed) → with_settings qs [] ≡ []
none_placed [] = refl
none_placed (q ∷ qs) = placed_past q qs [] (omega arith)

pub drop_settings : (n : ℕ) (ps : List Placed) (xs : List Item) → with_settings (behind n ps) (drop n xs) ≡ drop n (with_settings ps xs)
drop_settings n [] xs = refl
drop_settings n (p ∷ ps) xs = go (drop_settings (n - suc p.gap) ps (drop (suc p.gap) xs)) (nat_le n p.gap) (nat_lt p.gap (length xs)) refl refl
  where
    near : Placed
    near = record { gap = p.gap - n; setting = p.setting }

    rest : List Item
    rest = drop (suc p.gap) xs

    go : with_settings (behind (n - suc p.gap) ps) (drop (n - suc p.gap) rest) ≡ drop (n - suc p.gap) (with_settings ps rest) → (a b : Bool) → nat_le n p.gap ≡ a → nat_lt p.gap (length xs) ≡ b → with_settings (cond a (near ∷ ps) (behind (n - suc p.gap) ps)) (drop n xs) ≡ drop n (with_settings (p ∷ ps) xs)
    go ih true true e f =
        let g : n ≤ p.gap = leb-true n p.gap e in
        let h : p.gap < length xs = ltb-true p.gap (length xs) f in
        let m : n + (p.gap - n) ≡ p.gap = omega (arith, g) in
        let m' : n + suc (p.gap - n) ≡ suc p.gap = omega (arith, g) in
        placed_in near ps (drop n xs) (omega (arith, g, h, length-drop n xs))
        ∙ ap₂ (λ a b. a ++ Set p.setting ∷ with_settings ps b)
        (sym (drop-take n (p.gap - n) xs) ∙ ap (λ z. drop n (take z xs)) m)
        (drop-drop (suc (p.gap - n)) n xs ∙ ap (λ z. drop z xs) m')
        ∙ sym (drop-append-le n (take p.gap xs) (Set p.setting ∷ with_settings ps rest) (omega (arith, g, h, length-take-le p.gap xs (omega (arith, h)))))
        ∙ ap (drop n) (sym (placed_in p ps xs h))
    go ih true false e f =
        let g : n ≤ p.gap = leb-true n p.gap e in
        let h : length xs ≤ p.gap = ltb-false p.gap (length xs) f in
        placed_past near ps (drop n xs) (omega (arith, g, h, length-drop n xs)) ∙ ap (drop n) (sym (placed_past p ps xs h))
    go ih false true e f =
        let g : p.gap < n = leb-false n p.gap e in
        let h : p.gap < length xs = ltb-true p.gap (length xs) f in
        let l : length (take p.gap xs) ≡ p.gap = length-take-le p.gap xs (omega (arith, h)) in
        let m : suc p.gap + (n - suc p.gap) ≡ n = omega (arith, g) in
        ap (λ z. with_settings (behind (n - suc p.gap) ps) z) (ap (λ z. drop z xs) (sym m) ∙ sym (drop-drop (n - suc p.gap) (suc p.gap) xs))
        ∙ ih
        ∙ ap (λ z. drop (n - suc z) (with_settings ps rest)) (sym l)
        ∙ sym (drop_past (take p.gap xs) (Set p.setting) (with_settings ps rest) n (omega (arith, l, g)))
        ∙ ap (drop n) (sym (placed_in p ps xs h))
    go ih false false e f =
        let g : p.gap < n = leb-false n p.gap e in
        let h : length xs ≤ p.gap = ltb-false p.gap (length xs) f in
        let none : drop n xs ≡ [] = drop_all n xs (omega (arith, g, h)) in
        ap (with_settings (behind (n - suc p.gap) ps)) none
        ∙ none_placed (behind (n - suc p.gap) ps)
        ∙ sym none
        ∙ ap (drop n) (sym (placed_past p ps xs h))

pub span-behind : (n : ℕ) (ps : List Placed) → span (behind n ps) ≡ span ps - n
span-behind n [] = omega arith
span-behind n (p ∷ ps) = go (span-behind (n - suc p.gap) ps) (nat_le n p.gap) refl
  where
    go : span (behind (n - suc p.gap) ps) ≡ span ps - (n - suc p.gap) → (b : Bool) → nat_le n p.gap ≡ b → span (cond b (record { gap = p.gap - n; setting = p.setting } ∷ ps) (behind (n - suc p.gap) ps)) ≡ suc (p.gap + span ps) - n
    go ih true e = omega (arith, leb-true n p.gap e)
    go ih false e = omega (arith, leb-false n p.gap e, ih)

pub length-behind : (n : ℕ) (ps : List Placed) → length (behind n ps) ≤ length ps
length-behind n [] = omega arith
length-behind n (p ∷ ps) = go (length-behind (n - suc p.gap) ps) (nat_le n p.gap)
  where
    go : length (behind (n - suc p.gap) ps) ≤ length ps → (b : Bool) → length (cond b (record { gap = p.gap - n; setting = p.setting } ∷ ps) (behind (n - suc p.gap) ps)) ≤ suc (length ps)
    go ih true = omega arith
    go ih false = omega (arith, ih)

-- what stands first

pub leading_all : (bs : List ℕ) → leading (map Byte bs) ≡ bs
leading_all [] = refl
leading_all (b ∷ bs) = ap (λ z. b ∷ z) (leading_all bs)

leading_before : (bs : List ℕ) (t : List ℕ) (xs : List Item) → leading (map Byte bs ++ Set t ∷ xs) ≡ bs
leading_before [] t xs = refl
leading_before (b ∷ bs) t xs = ap (λ z. b ∷ z) (leading_before bs t xs)

pub leading_gap : (p : Placed) (ps : List Placed) (bs : List ℕ) → p.gap < length bs → leading (with_settings (p ∷ ps) (map Byte bs)) ≡ take p.gap bs
leading_gap p ps bs h =
    ap leading (placed_in p ps (map Byte bs) (omega (arith, h, length-map bs Byte))
    ∙ ap (λ z. z ++ Set p.setting ∷ with_settings ps (drop (suc p.gap) (map Byte bs))) (take-map Byte p.gap bs))
    ∙ leading_before (take p.gap bs) p.setting (with_settings ps (drop (suc p.gap) (map Byte bs)))

-- how many settings there are

settings_none : (bs : List ℕ) → settings_in (map Byte bs) ≡ 0
settings_none [] = refl
settings_none (b ∷ bs) = settings_none bs

pub settings-append : (xs ys : List Item) → settings_in (xs ++ ys) ≡ settings_in xs + settings_in ys
settings-append [] ys = omega arith
settings-append (Byte b ∷ xs) ys = settings-append xs ys
settings-append (Set t ∷ xs) ys = omega (arith, settings-append xs ys)

pub settings_are : (ps : List Placed) (bs : List ℕ) → span ps ≤ length bs → settings_in (with_settings ps (map Byte bs)) ≡ length ps
settings_are [] bs h = settings_none bs
settings_are (p ∷ ps) bs h =
    let rest : List ℕ = drop (suc p.gap) bs in
    ap settings_in (placed_in p ps (map Byte bs) (omega (arith, h, length-map bs Byte))
    ∙ ap₂ (λ a b. a ++ Set p.setting ∷ with_settings ps b) (take-map Byte p.gap bs) (drop-map Byte (suc p.gap) bs))
    ∙ settings-append (map Byte (take p.gap bs)) (Set p.setting ∷ with_settings ps (map Byte rest))
    ∙ omega (arith, settings_none (take p.gap bs), settings_are ps rest (omega (arith, h, length-drop (suc p.gap) bs)))

pub few_settings : (xs : List Item) → settings_in xs ≤ length xs
few_settings [] = omega arith
few_settings (Byte b ∷ xs) = omega (arith, few_settings xs)
few_settings (Set t ∷ xs) = omega (arith, few_settings xs)

-- a setting goes to its place among copied items

pub moved_one : (out : List Item) (at : ℕ) (p : Placed) (ps : List Placed) → at + p.gap < length out →
    take (at + p.gap + 1) (set out (at + p.gap) (Set p.setting)) ++ with_settings ps (drop (at + p.gap + 1) (set out (at + p.gap) (Set p.setting))) ≡ take at out ++ with_settings (p ∷ ps) (drop at out)
moved_one out at p ps h =
    let new : List Item = set out (at + p.gap) (Set p.setting) in
    let rest : List Item = drop (at + p.gap + 1) out in
    let m : at + suc p.gap ≡ at + p.gap + 1 = omega arith in
    ap₂ (λ a b. a ++ with_settings ps b) (take_more_set out (at + p.gap) (Set p.setting) h) (drop-set-lt (at + p.gap + 1) out (at + p.gap) (Set p.setting) (omega arith))
    ∙ append_assoc (take (at + p.gap) out) (Set p.setting ∷ []) (with_settings ps rest)
    ∙ ap (λ z. z ++ Set p.setting ∷ with_settings ps rest) (take-add at p.gap out)
    ∙ append_assoc (take at out) (take p.gap (drop at out)) (Set p.setting ∷ with_settings ps rest)
    ∙ ap (λ z. take at out ++ (take p.gap (drop at out) ++ Set p.setting ∷ with_settings ps z)) (ap (λ z. drop z out) (sym m) ∙ sym (drop-drop (suc p.gap) at out))
    ∙ ap (λ z. take at out ++ z) (sym (placed_in p ps (drop at out) (omega (arith, h, length-drop at out))))

pub moved_on : (out new : List Item) (at : ℕ) (p : Placed) (ps : List Placed) → length new ≡ length out → p.gap < length out - at → (behind (length new - (at + p.gap + 1)) ps ≡ behind (length out - at) (p ∷ ps)) × (length new - (at + p.gap + 1) - span ps ≡ length out - at - span (p ∷ ps))
moved_on out new at p ps l h =
    let n : length new - (at + p.gap + 1) ≡ length out - at - suc p.gap = omega (arith, l) in (
      ap (λ z. behind z ps) n
          ∙ ap (λ b. cond b (record { gap = p.gap - (length out - at); setting = p.setting } ∷ ps) (behind (length out - at - suc p.gap) ps)) (sym (lt-leb (length out - at) p.gap h)),
      omega (arith, n),
    )

-- a whole ring: what its fields show, and what is kept of them

abbrev pub shown : Buffer Placed → Buffer ℕ → RingItems
shown ps bs = record { items = with_settings ps.items (map Byte bs.items); capacity = bs.capacity; settings = ps.capacity }

abbrev pub IsRing : Buffer Placed → Buffer ℕ → ℕ → Type 0
IsRing ps bs trailing = (span ps.items + trailing ≡ length bs.items) × (length ps.items ≤ ps.capacity) × (bs.capacity < 65536)

pub length-shown : (ps : List Placed) (bs : List ℕ) → length (with_settings ps (map Byte bs)) ≡ length bs
length-shown ps bs = length-settings ps (map Byte bs) ∙ length-map bs Byte

pub leading_within : (xs : List Item) → length (leading xs) ≤ length xs
leading_within [] = omega arith
leading_within (Byte b ∷ xs) = omega (arith, leading_within xs)
leading_within (Set t ∷ xs) = omega arith

-- the first setting, if any

pub first_is : {A : Type 0} (xs : List A) (x : A) → slice_get xs 0 ≡ Some x → xs ≡ x ∷ drop 1 xs
first_is [] x e = absurd (none-some x e)
first_is (y ∷ ys) x e =
    let same : y ≡ x = cc in
    ap (λ z. z ∷ ys) same

pub none_is : {A : Type 0} (xs : List A) → slice_get xs 0 ≡ None → xs ≡ []
none_is [] e = refl
none_is (x ∷ xs) e = absurd (none-some x (sym e))

-- how many bytes stand in front of it

pub gap_is : (ps : List Placed) (p : Placed) (bs : List ℕ) → slice_get ps 0 ≡ Some p → span ps ≤ length bs → leading (with_settings ps (map Byte bs)) ≡ take p.gap bs
gap_is ps p bs e h =
    let f : ps ≡ p ∷ drop 1 ps = first_is ps p e in
    let s : span ps ≡ suc (p.gap + span (drop 1 ps)) = ap span f in
    ap (λ z. leading (with_settings z (map Byte bs))) f ∙ leading_gap p (drop 1 ps) bs (omega (arith, h, s))

pub run_to : (ps : List Placed) (p : Placed) (bs : List ℕ) → slice_get ps 0 ≡ Some p → span ps ≤ length bs → length (leading (with_settings ps (map Byte bs))) ≡ p.gap
run_to ps p bs e h =
    let s : span ps ≡ suc (p.gap + span (drop 1 ps)) = ap span (first_is ps p e) in
    ap length (gap_is ps p bs e h) ∙ length-take-le p.gap bs (omega (arith, h, s))

pub all_run : (ps : List Placed) (bs : List ℕ) → slice_get ps 0 ≡ None → leading (with_settings ps (map Byte bs)) ≡ bs
all_run ps bs e = ap (λ z. leading (with_settings z (map Byte bs))) (none_is ps e) ∙ leading_all bs

pub leading_first : (n : ℕ) (ps : List Placed) (bs : List ℕ) → span ps ≤ length bs → n ≤ length (leading (with_settings ps (map Byte bs))) → take n (leading (with_settings ps (map Byte bs))) ≡ take n bs
leading_first n [] bs h few = ap (take n) (leading_all bs)
leading_first n (p ∷ ps) bs h few =
    let l : leading (with_settings (p ∷ ps) (map Byte bs)) ≡ take p.gap bs = leading_gap p ps bs (omega (arith, h)) in
    ap (take n) l ∙ take-take n p.gap bs (omega (arith, few, ap length l, length-take p.gap bs))

-- the item in front

pub front_setting : (ps : List Placed) (p : Placed) (bs : List ℕ) → slice_get ps 0 ≡ Some p → p.gap ≡ 0 → span ps ≤ length bs → slice_get (with_settings ps (map Byte bs)) 0 ≡ Some (Set p.setting)
front_setting ps p bs e g h =
    let f : ps ≡ p ∷ drop 1 ps = first_is ps p e in
    let s : span ps ≡ suc (p.gap + span (drop 1 ps)) = ap span f in
    let xs : List Item = map Byte bs in
    ap (λ z. slice_get (with_settings z xs) 0) f
    ∙ ap (λ z. slice_get z 0) (placed_in p (drop 1 ps) xs (omega (arith, h, s, length-map bs Byte)))
    ∙ ap (λ n. slice_get (take n xs ++ Set p.setting ∷ with_settings (drop 1 ps) (drop (suc p.gap) xs)) 0) g

pub front_byte : (ps : List Placed) (b : ℕ) (bs : List ℕ) → slice_get bs 0 ≡ Some b → span ps ≤ length bs → ((p : Placed) → slice_get ps 0 ≡ Some p → p.gap ≢ 0) → slice_get (with_settings ps (map Byte bs)) 0 ≡ Some (Byte b)
front_byte ps b [] e h some = absurd (none-some b e)
front_byte [] b (c ∷ cs) e h some =
    let same : c ≡ b = cc in
    ap (λ z. Some (Byte z)) same
front_byte (p ∷ ps) b (c ∷ cs) e h some = go p.gap refl
  where
    xs : List Item
    xs = map Byte (c ∷ cs)

    go : (g : ℕ) → p.gap ≡ g → slice_get (with_settings (p ∷ ps) xs) 0 ≡ Some (Byte b)
    go zero q = absurd (some p refl q)
    go (suc g) q =
        let same : c ≡ b = cc in
        ap (λ z. slice_get z 0) (placed_in p ps xs (omega (arith, h, length-map (c ∷ cs) Byte)))
        ∙ ap (λ n. slice_get (take n xs ++ Set p.setting ∷ with_settings ps (drop (suc p.gap) xs)) 0) q
        ∙ ap (λ z. Some (Byte z)) same

pub front_none : (ps : List Placed) (bs : List ℕ) → slice_get bs 0 ≡ None → span ps ≤ length bs → slice_get (with_settings ps (map Byte bs)) 0 ≡ None
front_none ps bs e h = ap (λ z. slice_get (with_settings ps (map Byte z)) 0) (none_is bs e) ∙ ap (λ z. slice_get z 0) (none_placed ps)

-- bytes come

pub bytes_come : (ps : Buffer Placed) (bs bs' : Buffer ℕ) (trailing : ℕ) (ys : List ℕ) (r : RingItems) → IsRing ps bs trailing → bs' ≡ buffer (bs.items ++ ys) bs.capacity → shown ps bs ≡ r →
    shown ps bs' ≡ record r { items = r.items ++ map Byte ys }
bytes_come ps bs bs' trailing ys r h e v =
    ap (shown ps) e
    ∙ ap (λ (z : List Item). record { items = z; capacity = bs.capacity; settings = ps.capacity })
    (ap (with_settings ps.items) (map-append Byte bs.items ys) ∙ append_bytes ps.items (map Byte bs.items) (map Byte ys) (omega (arith, h.0, length-map bs.items Byte)))
    ∙ ap (λ (z : RingItems). record z { items = z.items ++ map Byte ys }) v

-- a setting comes

pub room_is : (ps : Buffer Placed) (bs : Buffer ℕ) (trailing : ℕ) (r : RingItems) → IsRing ps bs trailing → shown ps bs ≡ r →
    (nat_lt (length bs.items) bs.capacity && nat_lt (length ps.items) ps.capacity) ≡ (nat_lt (length r.items) r.capacity && nat_lt (settings_in r.items) r.settings)
room_is ps bs trailing r h v =
    ap₂ (λ m n. nat_lt m bs.capacity && nat_lt n ps.capacity) (sym (length-shown ps.items bs.items)) (sym (settings_are ps.items bs.items (omega (arith, h.0))))
    ∙ ap (λ (z : RingItems). nat_lt (length z.items) z.capacity && nat_lt (settings_in z.items) z.settings) v

pub keep_all : {A : Type 0} (n : ℕ) (xs : List A) (x : A) → length xs < n → keep_last n (xs ++ x ∷ []) ≡ xs ++ x ∷ []
keep_all n xs x h =
    let e : length (xs ++ x ∷ []) - n ≡ 0 = omega (arith, h, length-append xs (x ∷ [])) in
    ap (λ z. drop z (xs ++ x ∷ [])) e

pub setting_comes : (ps ps' : Buffer Placed) (bs bs' : Buffer ℕ) (trailing : ℕ) (t : List ℕ) (r : RingItems) → IsRing ps bs trailing → shown ps bs ≡ r → (length bs.items < bs.capacity) × (length ps.items < ps.capacity) →
    ps' ≡ buffer (keep_last ps.capacity (ps.items ++ record { gap = trailing; setting = t } ∷ [])) ps.capacity → bs' ≡ buffer (keep_last bs.capacity (bs.items ++ 0 ∷ [])) bs.capacity →
    IsRing ps' bs' 0 × (shown ps' bs' ≡ record r { items = r.items ++ Set t ∷ [] })
setting_comes ps ps' bs bs' trailing t r h v room e f =
    let q : Placed = record { gap = trailing; setting = t } in
    let ps'' : Buffer Placed = buffer (ps.items ++ q ∷ []) ps.capacity in
    let bs'' : Buffer ℕ = buffer (bs.items ++ 0 ∷ []) bs.capacity in
    let e' : ps' ≡ ps'' = e ∙ ap (λ z. buffer z ps.capacity) (keep_all ps.capacity ps.items q room.1) in
    let f' : bs' ≡ bs'' = f ∙ ap (λ z. buffer z bs.capacity) (keep_all bs.capacity bs.items 0 room.0) in
    let ring : IsRing ps'' bs'' 0 = (
      omega (arith, h.0, span-append ps.items q, length-append bs.items (0 ∷ [])),
      omega (arith, room.1, length-append ps.items (q ∷ [])),
      h.2,
    ) in (
      subst (λ (z : Buffer Placed). IsRing z bs' 0) (sym e') (subst (λ (z : Buffer ℕ). IsRing ps'' z 0) (sym f') ring),
      ap₂ shown e' f'
          ∙ ap (λ (z : List Item). record { items = z; capacity = bs.capacity; settings = ps.capacity })
          (ap (with_settings (ps.items ++ q ∷ [])) (map-append Byte bs.items (0 ∷ [])) ∙ append_setting ps.items q (map Byte bs.items) (Byte 0) (omega (arith, h.0, length-map bs.items Byte)))
          ∙ ap (λ (z : RingItems). record z { items = z.items ++ Set t ∷ [] }) v,
    )

-- the first n go

keep_rest : {A : Type 0} (n : ℕ) (xs : List A) → keep_last (length xs - n) xs ≡ drop n xs
keep_rest n xs = go (nat_le n (length xs)) refl
  where
    go : (b : Bool) → nat_le n (length xs) ≡ b → keep_last (length xs - n) xs ≡ drop n xs
    go true e =
        let m : length xs - (length xs - n) ≡ n = omega (arith, leb-true n (length xs) e) in
        ap (λ z. drop z xs) m
    go false e = drop_all (length xs - (length xs - n)) xs (omega (arith, leb-false n (length xs) e)) ∙ sym (drop_all n xs (omega (arith, leb-false n (length xs) e)))

pub some_go : (ps ps' : Buffer Placed) (bs bs' : Buffer ℕ) (trailing n : ℕ) (r : RingItems) → IsRing ps bs trailing → shown ps bs ≡ r →
    ps' ≡ buffer (behind n ps.items) ps.capacity → bs' ≡ buffer (keep_last (length bs.items - n) bs.items) bs.capacity →
    IsRing ps' bs' (trailing - (n - span ps.items)) × (shown ps' bs' ≡ record r { items = drop n r.items })
some_go ps ps' bs bs' trailing n r h v e f =
    let ps'' : Buffer Placed = buffer (behind n ps.items) ps.capacity in
    let bs'' : Buffer ℕ = buffer (drop n bs.items) bs.capacity in
    let f' : bs' ≡ bs'' = f ∙ ap (λ z. buffer z bs.capacity) (keep_rest n bs.items) in
    let ring : IsRing ps'' bs'' (trailing - (n - span ps.items)) = (
      omega (arith, h.0, span-behind n ps.items, length-drop n bs.items),
      omega (arith, h.1, length-behind n ps.items),
      h.2,
    ) in (
      subst (λ (z : Buffer Placed). IsRing z bs' (trailing - (n - span ps.items))) (sym e) (subst (λ (z : Buffer ℕ). IsRing ps'' z (trailing - (n - span ps.items))) (sym f') ring),
      ap₂ shown e f'
          ∙ ap (λ (z : List Item). record { items = z; capacity = bs.capacity; settings = ps.capacity })
          (ap (with_settings (behind n ps.items)) (sym (drop-map Byte n bs.items)) ∙ drop_settings n ps.items (map Byte bs.items))
          ∙ ap (λ (z : RingItems). record z { items = drop n z.items }) v,
    )

-- what is copied of them

pub some_copied : (ps : Buffer Placed) (bs : Buffer ℕ) (n : ℕ) (out new : List Item) (r : RingItems) → shown ps bs ≡ r → out ≡ map Byte (take n bs.items) → new ≡ with_settings ps.items out → new ≡ take n r.items
some_copied ps bs n out new r v e f =
    f
    ∙ ap (with_settings ps.items) (e ∙ sym (take-map Byte n bs.items))
    ∙ take_settings n ps.items (map Byte bs.items)
    ∙ ap (λ (z : RingItems). take n z.items) v

pub take_both : {A : Type 0} (n : ℕ) (xs ys : List A) → take (min (length xs) n) xs ++ take (n - min (length xs) n) ys ≡ take n (xs ++ ys)
take_both zero xs ys =
    let e : min (length xs) 0 ≡ 0 = omega arith in
    ap (λ z. take z xs ++ take (0 - z) ys) e
take_both {A = A} (suc n) [] ys =
    let e : min 0 (suc n) ≡ 0 = omega arith in
    let f : suc n - 0 ≡ suc n = omega arith in
    ap (λ z. take {A = A} z [] ++ take (suc n - z) ys) e ∙ ap (λ z. take z ys) f
take_both (suc n) (x ∷ xs) ys =
    let e : min (suc (length xs)) (suc n) ≡ suc (min (length xs) n) = omega arith in
    let f : suc n - suc (min (length xs) n) ≡ n - min (length xs) n = omega arith in
    ap (λ z. take z (x ∷ xs) ++ take (suc n - z) ys) e
    ∙ ap (λ z. x ∷ (take (min (length xs) n) xs ++ take z ys)) f
    ∙ ap (λ z. x ∷ z) (take_both n xs ys)

-- what stands in all places, once both parts of the bytes are copied
pub parts_copied : (out some more : List Item) (f : ℕ) (front back bytes : List ℕ) → f ≡ min (length front) (length out) → front ++ back ≡ bytes → some ≡ map Byte (take f front) → more ≡ map Byte (take (length out - f) back) →
    take f (some ++ drop f out) ++ (more ++ drop (length (some ++ drop f out) - f) (drop f (some ++ drop f out))) ≡ map Byte (take (length out) bytes)
parts_copied out some more f front back bytes e g p q =
    let l : length some ≡ f = ap length p ∙ length-map (take f front) Byte ∙ length-take-le f front (omega (arith, e)) in
    let all : List Item = some ++ drop f out in
    ap₂ (λ a b. a ++ (more ++ b)) (take_at some (drop f out) f l) (drop_all (length all - f) (drop f all) (omega (arith, length-drop f all)))
    ∙ ap (λ z. some ++ z) (append-nil more)
    ∙ ap₂ (λ a b. a ++ b) p q
    ∙ sym (map-append Byte (take f front) (take (length out - f) back))
    ∙ ap (λ n. map Byte (take n front ++ take (length out - n) back)) e
    ∙ ap (map Byte) (take_both (length out) front back ∙ ap (take (length out)) g)

pub parts_added : (out new newer : List ℕ) (n f : ℕ) (front back bytes : List ℕ) → f ≡ min (length front) n → front ++ back ≡ bytes → new ≡ out ++ take f front → newer ≡ new ++ take (n - f) back → newer ≡ out ++ take n bytes
parts_added out new newer n f front back bytes e g p q =
    q
    ∙ ap (λ z. z ++ take (n - f) back) p
    ∙ append_assoc out (take f front) (take (n - f) back)
    ∙ ap (λ m. out ++ (take m front ++ take (n - m) back)) e
    ∙ ap (λ z. out ++ z) (take_both n front back ∙ ap (take n) g)

-- the two facts that make room for a setting
pub has_both : (a b c d : ℕ) → (nat_lt a b && nat_lt c d) ≡ true → (a < b) × (c < d)
has_both a b c d h = let p : (nat_lt a b ≡ true) × (nat_lt c d ≡ true) = and_parts (nat_lt a b) (nat_lt c d) h in (ltb-true a b p.0, ltb-true c d p.1)

pub setting_added : (old new : RingItems) (t : List ℕ) → length old.items < old.capacity → old.capacity ≤ old.settings →
    new ≡ cond (nat_lt (length old.items) old.capacity && nat_lt (settings_in old.items) old.settings) (record old { items = old.items ++ Set t ∷ [] }) old →
    new.items ≡ old.items ++ Set t ∷ []
setting_added old new t few most e =
    ap (λ z. z.items) (e
    ∙ ap₂ (λ a b. cond (a && b) (record old { items = old.items ++ Set t ∷ [] }) old)
    (lt-ltb (length old.items) old.capacity few)
    (lt-ltb (settings_in old.items) old.settings (omega (arith, few, most, few_settings old.items))))
