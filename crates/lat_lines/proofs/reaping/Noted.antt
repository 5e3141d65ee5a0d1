-- What is noted of the line sessions that are over.
use Rattle.std.proofs.Common.{◌≡◌, ℕ, suc, ◌+◌, Bool, true, false, cond, List, [], ◌∷◌, ◌++◌, map, length, filter, Option, Some, None, is_some, option_map, refl, sym, ap, ◌∙◌, arith}
use Rattle.std.proofs.lemmas.Bool.{both_ways}
use Rattle.std.proofs.lemmas.List.{append_assoc, append-nil, map-append}
use Rattle.lat_base.specs.declared.state.SessionEnd as base_end
use Rattle.lat_model.specs.Lists.{Each}
use Rattle.lat_machines.specs.values.Keys as keys
use Rattle.lat_machines.specs.cores.Cores.{Seat, Core}
use Rattle.lat_machines.specs.cores.Lines.{over, saturated_count}
use Rattle.lat_queue.specs.declared.key.Key.{Key}
use Rattle.lat_queue.specs.Histories.{key_shown, some_key}
use Rattle.lat_lines.specs.circuits.Kept as circuits
use Rattle.lat_lines.specs.declared.seat.Seat as own
use Rattle.lat_lines.specs.Stands.{Present, IsSeat, end_shown, seat_shown, seat_info, freed_key, freed_from}
use Rattle.lat_lines.specs.Looks.{is_over, finished_after, key_after, freed_after}
use Rattle.lat_lines.proofs.reaping.Seats.{Between, still_over, told_over}
use Rattle.lat_lines.proofs.reaping.After.{later}

abbrev pub ends : Present → Bool
ends p = is_some p.session.end

pub same_over : (s : own.Seat) → ends (seat_shown s) ≡ is_over s
same_over s = by s.session.end
  where
    by : (o : Option base_end.SessionEnd) → is_some (option_map end_shown o) ≡ is_some o
    by None = refl
    by (Some a) = refl

-- how many there are

abbrev finished_of : List Present → ℕ → ℕ
finished_of [] n = n
finished_of (p ∷ ps) n = finished_of ps (cond (ends p) (saturated_count (suc n)) n)

finished_shown : (ss : List own.Seat) (n : ℕ) → finished_after ss n ≡ finished_of (map seat_shown ss) n
finished_shown [] n = refl
finished_shown (s ∷ ss) n = ap (λ t. finished_after ss (cond t (saturated_count (suc n)) n)) (sym (same_over s)) ∙ finished_shown ss (cond (ends (seat_shown s)) (saturated_count (suc n)) n)

-- how many became over
abbrev newly : Core → Core → List Seat → ℕ
newly c d [] = 0
newly c d (s ∷ ss) = cond (over c s) (newly c d ss) (cond (over d s) (suc (newly c d ss)) (newly c d ss))

told_more : (m : ℕ) → saturated_count (suc (saturated_count m)) ≡ saturated_count (suc m)
told_more m = omega arith

finished_later : (c d : Core) (n m : ℕ) (ss : List Seat) → finished_of (later c d n ss) (saturated_count m) ≡ saturated_count (m + newly c d ss)
finished_later c d n m [] = ap saturated_count (omega arith)
finished_later c d n m (s ∷ ss) = by (over c s) (over d s) (told_over d (suc n) s) (finished_later c d (suc n) m ss) (finished_later c d (suc n) (suc m) ss)
  where
    rest : List Present
    rest = later c d (suc n) ss

    by : (t u : Bool) → ends (seat_info d (suc n) s) ≡ u → finished_of rest (saturated_count m) ≡ saturated_count (m + newly c d ss) → finished_of rest (saturated_count (suc m)) ≡ saturated_count (suc m + newly c d ss)
        → finished_of (cond t rest (seat_info d (suc n) s ∷ rest)) (saturated_count m) ≡ saturated_count (m + cond t (newly c d ss) (cond u (suc (newly c d ss)) (newly c d ss)))
    by true u e x y = x
    by false true e x y = ap (λ z. finished_of rest (cond z (saturated_count (suc (saturated_count m))) (saturated_count m))) e ∙ ap (finished_of rest) (told_more m) ∙ y ∙ ap saturated_count (omega arith)
    by false false e x y = ap (λ z. finished_of rest (cond z (saturated_count (suc (saturated_count m))) (saturated_count m))) e ∙ x

over_more : (k : circuits.Kept) (lines : ℕ) (c d : Core) (ss : List Seat) → Between k c d → Each (IsSeat lines c) ss → length (filter (over c) ss) + newly c d ss ≡ length (filter (over d) ss)
over_more k lines c d [] b e = refl
over_more k lines c d (s ∷ ss) b e = by (over c s) (over d s) (λ h. (still_over k lines c d s b e.0 h).over) (over_more k lines c d ss b e.1)
  where
    by : (t u : Bool) → (t ≡ true → u ≡ true) → length (filter (over c) ss) + newly c d ss ≡ length (filter (over d) ss)
        → length (cond t (s ∷ filter (over c) ss) (filter (over c) ss)) + cond t (newly c d ss) (cond u (suc (newly c d ss)) (newly c d ss)) ≡ length (cond u (s ∷ filter (over d) ss) (filter (over d) ss))
    by true true h ih = omega (arith, ih)
    by true false h ih = absurd (both_ways false refl (h refl))
    by false true h ih = omega (arith, ih)
    by false false h ih = ih

pub finished_told : (k : circuits.Kept) (lines : ℕ) (c d : Core) (ss : List own.Seat) (ts : List Seat) → Between k c d → Each (IsSeat lines c) ts → map seat_shown ss ≡ later c d 0 ts
    → finished_after ss (saturated_count (length (filter (over c) ts))) ≡ saturated_count (length (filter (over d) ts))
finished_told k lines c d ss ts b e is =
    finished_shown ss (saturated_count (length (filter (over c) ts)))
    ∙ ap (λ ps. finished_of ps (saturated_count (length (filter (over c) ts)))) is
    ∙ finished_later c d 0 (length (filter (over c) ts)) ts
    ∙ ap saturated_count (over_more k lines c d ts b e)

-- the requests that they were granted for

abbrev keys_after : Option keys.Key → List keys.Key → List keys.Key
keys_after None ks = ks
keys_after (Some k) ks = ks ++ k ∷ []

abbrev freed_of : List Present → List keys.Key → List keys.Key
freed_of [] ks = ks
freed_of (p ∷ ps) ks = freed_of ps (cond (ends p) (keys_after p.key ks) ks)

key_added : (o : Option Key) (ks : List Key) → map key_shown (key_after o ks) ≡ keys_after (some_key o) (map key_shown ks)
key_added None ks = refl
key_added (Some k) ks = map-append key_shown ks (k ∷ [])

freed_shown : (ss : List own.Seat) (ks : List Key) → map key_shown (freed_after ss ks) ≡ freed_of (map seat_shown ss) (map key_shown ks)
freed_shown [] ks = refl
freed_shown (s ∷ ss) ks =
    freed_shown ss (cond (is_over s) (key_after s.key ks) ks)
    ∙ ap (freed_of (map seat_shown ss)) (by (is_over s))
    ∙ ap (λ t. freed_of (map seat_shown ss) (cond t (keys_after (some_key s.key) (map key_shown ks)) (map key_shown ks))) (sym (same_over s))
  where
    by : (t : Bool) → map key_shown (cond t (key_after s.key ks) ks) ≡ cond t (keys_after (some_key s.key) (map key_shown ks)) (map key_shown ks)
    by true = key_added s.key ks
    by false = refl

key_more : (o : Option keys.Key) (ks ls : List keys.Key) → keys_after o ks ++ ls ≡ ks ++ freed_key o ls
key_more None ks ls = refl
key_more (Some k) ks ls = append_assoc ks (k ∷ []) ls

freed_later : (c d : Core) (n : ℕ) (ss : List Seat) (ks : List keys.Key) → freed_of (later c d n ss) ks ≡ ks ++ freed_from c d ss
freed_later c d n [] ks = sym (append-nil ks)
freed_later c d n (s ∷ ss) ks = by (over c s) (over d s) (told_over d (suc n) s) (freed_later c d (suc n) ss)
  where
    rest : List Present
    rest = later c d (suc n) ss

    by : (t u : Bool) → ends (seat_info d (suc n) s) ≡ u → ((ls : List keys.Key) → freed_of rest ls ≡ ls ++ freed_from c d ss)
        → freed_of (cond t rest (seat_info d (suc n) s ∷ rest)) ks ≡ ks ++ cond t (freed_from c d ss) (cond u (freed_key s.key (freed_from c d ss)) (freed_from c d ss))
    by true u e ih = ih ks
    by false true e ih = ap (λ z. freed_of rest (cond z (keys_after s.key ks) ks)) e ∙ ih (keys_after s.key ks) ∙ key_more s.key ks (freed_from c d ss)
    by false false e ih = ap (λ z. freed_of rest (cond z (keys_after s.key ks) ks)) e ∙ ih ks

pub freed_told : (c d : Core) (ss : List own.Seat) (ts : List Seat) → map seat_shown ss ≡ later c d 0 ts → map key_shown (freed_after ss []) ≡ freed_from c d ts
freed_told c d ss ts is = freed_shown ss [] ∙ ap (λ ps. freed_of ps []) is ∙ freed_later c d 0 ts []
