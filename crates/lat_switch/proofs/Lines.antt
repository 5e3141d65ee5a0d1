-- The inner lines of a line, gone over one by one.
use Rattle.std.proofs.Common.{◌≡◌, ℕ, zero, suc, ◌+◌, ◌-◌, ◌≤◌, ◌<◌, refl, sym, ap, ◌∙◌, Bool, true, false, not, cond, List, [], ◌∷◌, ◌++◌, map, take, drop, find, Some, None, unwrap_or, arith, length}
use Rattle.std.proofs.lemmas.List.{length-map, map-append}
use Rattle.lat_model.specs.Lists.{upwards}
use Rattle.lat_session.proofs.Runs.{length_upwards}
use Rattle.lat_server.specs.Stands.{Machine}
use Rattle.lat_server.proofs.Granting.{upwards_more}
use Rattle.lat_switch.specs.Lines.{Line, has_session, first_free, turned, round, shows_next, gives_way, opened_line, opened_lines}

-- the places of the inner lines from the least on, and those of a round
abbrev pub places : List ℕ
places = 0 ∷ 1 ∷ 2 ∷ 3 ∷ []

abbrev pub turns : List ℕ
turns = 1 ∷ 2 ∷ 3 ∷ 4 ∷ []

place_next : (n : ℕ) → n < 4 → drop n places ≡ n ∷ drop (n + 1) places
place_next zero h = refl
place_next (suc zero) h = refl
place_next (suc (suc zero)) h = refl
place_next (suc (suc (suc zero))) h = refl
place_next (suc (suc (suc (suc n)))) h = let z : ⊥ = omega arith in absurd z

turn_next : (n : ℕ) → 1 ≤ n → n ≤ 4 → drop (n - 1) turns ≡ n ∷ drop n turns
turn_next zero l h = let z : ⊥ = omega arith in absurd z
turn_next (suc zero) l h = refl
turn_next (suc (suc zero)) l h = refl
turn_next (suc (suc (suc zero))) l h = refl
turn_next (suc (suc (suc (suc zero)))) l h = refl
turn_next (suc (suc (suc (suc (suc n))))) l h = let z : ⊥ = omega arith in absurd z

-- one more of them
pub place_found : (p : ℕ → Bool) (f : ℕ → ℕ) (n : ℕ) → n < 4 → find p (map f (drop n places)) ≡ cond (p (f n)) (Some (f n)) (find p (map f (drop (n + 1) places)))
place_found p f n h = ap (λ xs. find p (map f xs)) (place_next n h)

pub turn_found : (p : ℕ → Bool) (f : ℕ → ℕ) (n : ℕ) → 1 ≤ n → n ≤ 4 → find p (map f (drop (n - 1) turns)) ≡ cond (p (f n)) (Some (f n)) (find p (map f (drop n turns)))
turn_found p f n l h = ap (λ xs. find p (map f xs)) (turn_next n l h)

pub place_left : (f : ℕ → ℕ) (n : ℕ) → n < 4 → map f (drop n places) ≡ f n ∷ map f (drop (n + 1) places)
place_left f n h = ap (map f) (place_next n h)

-- a line keeps its inner lines

first_next : (m : Machine) (l : Line) → (shows_next m l).first ≡ l.first
first_next m l = refl

pub first_kept : (m : Machine) (l : Line) → (gives_way m l).first ≡ l.first
first_kept m l = by (has_session m l.shown)
  where
    by : (b : Bool) → (cond b l (shows_next m l)).first ≡ l.first
    by true = refl
    by false = refl

pub firsts_kept : (m : Machine) (ls : List Line) → map (λ (l : Line). l.first) (map (gives_way m) ls) ≡ map (λ (l : Line). l.first) ls
firsts_kept m [] = refl
firsts_kept m (l ∷ ls) = ap (λ x. x ∷ map (λ (k : Line). k.first) (map (gives_way m) ls)) (first_kept m l) ∙ ap (λ xs. l.first ∷ xs) (firsts_kept m ls)

-- the lines of a switch as it is opened

pub opened_next : (n : ℕ) → opened_lines (suc n) ≡ opened_lines n ++ opened_line (suc n) ∷ []
opened_next n =
    ap (map opened_line) (upwards_more 0 n)
    ∙ map-append opened_line (upwards 0 n) (suc (0 + n) ∷ [])
    ∙ ap (λ k. opened_lines n ++ opened_line k ∷ []) (let e : suc (0 + n) ≡ suc n = omega arith in e)

pub length_opened : (n : ℕ) → length (opened_lines n) ≡ n
length_opened n = length-map (upwards 0 n) opened_line ∙ length_upwards 0 n

pub opened_more : (n : ℕ) → 1 ≤ n → opened_lines (n + 1 - 1) ≡ opened_lines (n - 1) ++ opened_line n ∷ []
opened_more n l =
    let one : n + 1 - 1 ≡ suc (n - 1) = omega arith in
    let same : suc (n - 1) ≡ n = omega arith in
    ap opened_lines one ∙ opened_next (n - 1) ∙ ap (λ k. opened_lines (n - 1) ++ opened_line k ∷ []) same

-- the least inner line without a session

pub free_here : (m : Machine) (l : Line) (n line : ℕ) → n < 4 → line ≡ l.first + n → has_session m line ≡ false
    → find (λ x. not (has_session m x)) (map (λ i. l.first + i) (drop n places)) ≡ first_free m l
    → Some line ≡ first_free m l
free_here m l n line h e none so_far =
    ap Some e
    ∙ sym (ap (λ b. cond b (Some (l.first + n)) (find (λ x. not (has_session m x)) (map (λ i. l.first + i) (drop (n + 1) places)))) (ap not (ap (has_session m) (sym e) ∙ none)))
    ∙ sym (place_found (λ x. not (has_session m x)) (λ i. l.first + i) n h)
    ∙ so_far

pub free_behind : (m : Machine) (l : Line) (n line : ℕ) → n < 4 → line ≡ l.first + n → has_session m line ≡ true
    → find (λ x. not (has_session m x)) (map (λ i. l.first + i) (drop n places)) ≡ first_free m l
    → find (λ x. not (has_session m x)) (map (λ i. l.first + i) (drop (n + 1) places)) ≡ first_free m l
free_behind m l n line h e one so_far =
    sym (ap (λ b. cond b (Some (l.first + n)) (find (λ x. not (has_session m x)) (map (λ i. l.first + i) (drop (n + 1) places)))) (ap not (ap (has_session m) (sym e) ∙ one)))
    ∙ sym (place_found (λ x. not (has_session m x)) (λ i. l.first + i) n h)
    ∙ so_far

pub free_none : (m : Machine) (l : Line) (n : ℕ) → n ≡ 4 → find (λ x. not (has_session m x)) (map (λ i. l.first + i) (drop n places)) ≡ first_free m l → None ≡ first_free m l
free_none m l n e so_far = ap (λ k. find (λ x. not (has_session m x)) (map (λ i. l.first + i) (drop k places))) (sym e) ∙ so_far

-- the next inner line that has one

pub turn_here : (m : Machine) (l : Line) (n line : ℕ) → 1 ≤ n → n ≤ 4 → line ≡ turned l n → has_session m line ≡ true
    → find (has_session m) (map (turned l) (drop (n - 1) turns)) ≡ find (has_session m) (round l)
    → line ≡ unwrap_or (find (has_session m) (round l)) l.shown
turn_here m l n line low high e one so_far =
    e
    ∙ ap (λ o. unwrap_or o l.shown)
    (sym (ap (λ b. cond b (Some (turned l n)) (find (has_session m) (map (turned l) (drop n turns)))) (ap (has_session m) (sym e) ∙ one))
    ∙ sym (turn_found (has_session m) (turned l) n low high)
    ∙ so_far)

pub turn_behind : (m : Machine) (l : Line) (n line : ℕ) → 1 ≤ n → n ≤ 4 → line ≡ turned l n → has_session m line ≡ false
    → find (has_session m) (map (turned l) (drop (n - 1) turns)) ≡ find (has_session m) (round l)
    → find (has_session m) (map (turned l) (drop (n + 1 - 1) turns)) ≡ find (has_session m) (round l)
turn_behind m l n line low high e none so_far =
    ap (λ k. find (has_session m) (map (turned l) (drop k turns))) (let q : n + 1 - 1 ≡ n = omega arith in q)
    ∙ sym (ap (λ b. cond b (Some (turned l n)) (find (has_session m) (map (turned l) (drop n turns)))) (ap (has_session m) (sym e) ∙ none))
    ∙ sym (turn_found (has_session m) (turned l) n low high)
    ∙ so_far

pub turn_none : (m : Machine) (l : Line) (n : ℕ) → n ≡ 5 → find (has_session m) (map (turned l) (drop (n - 1) turns)) ≡ find (has_session m) (round l) → l.shown ≡ unwrap_or (find (has_session m) (round l)) l.shown
turn_none m l n e so_far = ap (λ o. unwrap_or o l.shown) (ap (λ k. find (has_session m) (map (turned l) (drop (k - 1) turns))) (sym e) ∙ so_far)

-- a function of every line, written one by one

pub over_none : (f : Line → Line) (xs : List Line) → xs ≡ map f (take 0 xs) ++ drop 0 xs
over_none f [] = refl
over_none f (x ∷ xs) = refl

pub over_all : (f : Line → Line) (xs ys : List Line) (n : ℕ) → n ≡ length xs → ys ≡ map f (take n xs) ++ drop n xs → ys ≡ map f xs
over_all f xs ys n e h = h ∙ whole xs n e
  where
    whole : (xs : List Line) (n : ℕ) → n ≡ length xs → map f (take n xs) ++ drop n xs ≡ map f xs
    whole [] zero e = refl
    whole [] (suc n) e = refl
    whole (x ∷ xs) zero e = let z : ⊥ = omega arith in absurd z
    whole (x ∷ xs) (suc n) e = ap (λ z. f x ∷ z) (whole xs n (omega arith))
