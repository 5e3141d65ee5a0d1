-- Places that are reached, and the free ones behind them.
use Rattle.std.proofs.Common.{◌≡◌, ℕ, zero, suc, ◌+◌, ◌<◌, ◌≤◌, sym, ap, ap₂, ◌∙◌, refl, subst, arith, Bool, true, false, not, cond, ◌&&◌, ◌||◌, List, [], ◌∷◌, ◌++◌, length, take, drop, replicate, slice_set, position, count_by, nat_eq, Some, None, ne_eqb, length-take-le, slice_get, ⊎_elim}
use Rattle.std.proofs.lemmas.Bool.{false≢true, cases_lt}
use Rattle.std.proofs.lemmas.List.{take-append-drop}
use Rattle.std.proofs.lemmas.List.Folds.{list_any-append}
use Rattle.std.proofs.lemmas.List.Sums.{sum_by-append, sum_by-cons}
use Rattle.std.proofs.lemmas.Iterator.Adapters.{position_from-zero}
use Rattle.std.proofs.lemmas.Option.{same_Some, none-some}
use Rattle.std.specs.List.{list_any, position_from}
use Rattle.lat_base.specs.declared.state.SessionState.{SessionState}
use Rattle.lat_base.specs.declared.state.SessionState.TheVariants.{Free, Calling, Asked, Live, Closing, Left}
use Rattle.lat_model.specs.sessions.Session.{blank, free}
use Rattle.lat_model.specs.sessions.Sessions.{Sessions, named}
use Rattle.lat_stream.specs.Kept.{Kept, stream_of}
use Rattle.lat_session.specs.Hears.{is_there, has_peer}
use Rattle.lat_session.specs.Places.{IsReached}
use Rattle.lat_session.specs.Stands.{Stands}
use Rattle.lat_session.specs.States.{is_free, is_gone, is_asked, AllFree}
use Rattle.lat_session.specs.Table.{Table}
use Rattle.lat_session.proofs.Counts.{free_shown, past_blank}
use Rattle.lat_session.proofs.Touch.{kept_here}

-- new places are free
pub all_blank : (n ceiling : ℕ) → AllFree (replicate n (stream_of true ceiling blank))
all_blank zero ceiling = tt
all_blank (suc n) ceiling = (refl, all_blank n ceiling)

-- behind a later place too
free_later : (xs : List Kept) (n m : ℕ) → n ≤ m → AllFree (drop n xs) → AllFree (drop m xs)
free_later xs zero zero l h = h
free_later xs (suc n) zero l h = absurd (omega (arith, l))
free_later [] n (suc m) l h = tt
free_later (x ∷ xs) zero (suc m) l h = free_later xs zero m (omega arith) h.1
free_later (x ∷ xs) (suc n) (suc m) l h = free_later xs n m (omega (arith, l)) h

-- a place that is written to is reached
pub free_behind : (xs : List Kept) (n m i : ℕ) (k : Kept) → n ≤ m → i < m → AllFree (drop n xs) → AllFree (drop m (slice_set xs i k))
free_behind xs n zero i k l w h = absurd (omega (arith, w))
free_behind [] n (suc m) zero k l w h = tt
free_behind [] n (suc m) (suc i) k l w h = tt
free_behind (x ∷ xs) zero (suc m) zero k l w h = free_later xs zero m (omega arith) h.1
free_behind (x ∷ xs) zero (suc m) (suc i) k l w h = free_behind xs zero m i k (omega arith) (omega (arith, w)) h.1
free_behind (x ∷ xs) (suc n) (suc m) zero k l w h = free_later xs n m (omega (arith, l)) h
free_behind (x ∷ xs) (suc n) (suc m) (suc i) k l w h = free_behind xs n m i k (omega (arith, l)) (omega (arith, w)) h

pub is_reached : (xs front : List Kept) (n : ℕ) → front ≡ take n xs → n ≤ length xs → AllFree (drop n xs) → IsReached front xs
is_reached xs front n e l h =
    let len : length front ≡ n = ap length e ∙ length-take-le n xs l in
    record { is = e ∙ ap (λ k. take k xs) (sym len); rest = subst (λ k. AllFree (drop k xs)) (sym len) h }

-- what isn't found at a free place
abbrev pub NotAtFree : (Kept → Bool) → Type 0
NotAtFree p = (k : Kept) → is_free k.state ≡ true → p k ≡ false

pub held_not_free : NotAtFree (λ k. not (is_free k.state))
held_not_free k h = ap not h

pub asked_not_free : NotAtFree (λ k. is_asked k.state)
asked_not_free k h = go k.state h
  where
    go : (s : SessionState) → is_free s ≡ true → is_asked s ≡ false
    go Free h = refl
    go Calling h = refl
    go Asked h = absurd (false≢true h)
    go Live h = refl
    go Closing h = refl
    go Left h = refl

pub gone_not_free : NotAtFree (λ (k : Kept). not (is_gone k.state))
gone_not_free k h = go k.state h
  where
    go : (s : SessionState) → is_free s ≡ true → not (is_gone s) ≡ false
    go Free h = refl
    go Calling h = absurd (false≢true h)
    go Asked h = absurd (false≢true h)
    go Live h = absurd (false≢true h)
    go Closing h = absurd (false≢true h)
    go Left h = absurd (false≢true h)

pub peer_not_free : (from : ℕ) → NotAtFree (has_peer from)
peer_not_free from k h = go k.state h
  where
    go : (s : SessionState) → is_free s ≡ true → (is_there s && nat_eq k.peer from) ≡ false
    go Free h = refl
    go Calling h = absurd (false≢true h)
    go Asked h = absurd (false≢true h)
    go Live h = absurd (false≢true h)
    go Closing h = absurd (false≢true h)
    go Left h = refl

-- all places, in two parts
parts : (front all : List Kept) → IsReached front all → front ++ drop (length front) all ≡ all
parts front all h = ap (λ z. z ++ drop (length front) all) h.is ∙ take-append-drop (length front) all

-- how many pass

none_counted : (p : Kept → Bool) (xs : List Kept) → NotAtFree p → AllFree xs → count_by p xs ≡ 0
none_counted p [] n h = refl
none_counted p (x ∷ xs) n h = sum_by-cons (λ k. cond (p k) 1 0) x xs ∙ ap₂ (λ b c. cond b 1 0 + c) (n x h.0) (none_counted p xs n h.1)

pub reached_counted : (p : Kept → Bool) (front all : List Kept) → NotAtFree p → IsReached front all → count_by p front ≡ count_by p all
reached_counted p front all n h =
    let rest : List Kept = drop (length front) all in
    let sum : count_by p (front ++ rest) ≡ count_by p front + count_by p rest = sum_by-append (λ k. cond (p k) 1 0) front rest in
    let none : count_by p rest ≡ 0 = none_counted p rest n h.rest in
    let same : count_by p front ≡ count_by p (front ++ rest) = omega (arith, sum, none) in
    same ∙ ap (count_by p) (parts front all h)

-- whether any passes

none_passes : (p : Kept → Bool) (xs : List Kept) → NotAtFree p → AllFree xs → list_any p xs ≡ false
none_passes p [] n h = refl
none_passes p (x ∷ xs) n h = ap₂ (λ b c. b || c) (n x h.0) (none_passes p xs n h.1)

or_none : (b : Bool) → b ≡ (b || false)
or_none true = refl
or_none false = refl

pub reached_passes : (p : Kept → Bool) (front all : List Kept) → NotAtFree p → IsReached front all → list_any p front ≡ list_any p all
reached_passes p front all n h =
    let rest : List Kept = drop (length front) all in
    or_none (list_any p front)
    ∙ ap (λ b. list_any p front || b) (sym (none_passes p rest n h.rest))
    ∙ sym (list_any-append p front rest)
    ∙ ap (list_any p) (parts front all h)

-- where the first one is that passes

none_found : (p : Kept → Bool) (i : ℕ) (xs : List Kept) → NotAtFree p → AllFree xs → None ≡ position_from p i xs
none_found p i [] n h = refl
none_found p i (x ∷ xs) n h = none_found p (i + 1) xs n h.1 ∙ ap (λ b. cond b (Some i) (position_from p (i + 1) xs)) (sym (n x h.0))

found_first : (p : Kept → Bool) (i : ℕ) (front rest : List Kept) → NotAtFree p → AllFree rest → position_from p i front ≡ position_from p i (front ++ rest)
found_first p i [] rest n h = none_found p i rest n h
found_first p i (x ∷ xs) rest n h = ap (λ z. cond (p x) (Some i) z) (found_first p (i + 1) xs rest n h)

pub reached_found : (p : Kept → Bool) (front all : List Kept) → NotAtFree p → IsReached front all → position p front ≡ position p all
reached_found p front all n h =
    let rest : List Kept = drop (length front) all in
    position_from-zero p front
    ∙ found_first p 0 front rest n h.rest
    ∙ ap (position_from p 0) (parts front all h)
    ∙ sym (position_from-zero p all)

-- some pass, or none is counted
pub any_counted : (p : Kept → Bool) (xs : List Kept) → list_any p xs ≡ not (nat_eq (count_by p xs) 0)
any_counted p [] = refl
any_counted p (x ∷ xs) = go (p x) (any_counted p xs) ∙ ap (λ c. not (nat_eq c 0)) (sym (sum_by-cons (λ k. cond (p k) 1 0) x xs))
  where
    go : (b : Bool) → list_any p xs ≡ not (nat_eq (count_by p xs) 0) → (b || list_any p xs) ≡ not (nat_eq (cond b 1 0 + count_by p xs) 0)
    go true ih = let some : 1 + count_by p xs ≡ 0 → ⊥ = λ e. absurd (omega (arith, e)) in sym (ap not (ne_eqb (1 + count_by p xs) 0 some))
    go false ih = let same : 0 + count_by p xs ≡ count_by p xs = omega arith in ih ∙ ap (λ c. not (nat_eq c 0)) (sym same)

-- what stands at a free place

free_got : (xs : List Kept) (n i : ℕ) (k : Kept) → AllFree (drop n xs) → n ≤ i → slice_get xs i ≡ Some k → is_free k.state ≡ true
free_got [] n zero k h l e = absurd (none-some k e)
free_got [] n (suc i) k h l e = absurd (none-some k e)
free_got (x ∷ xs) zero zero k h l e = ap (λ (z : Kept). is_free z.state) (sym (same_Some x k e)) ∙ h.0
free_got (x ∷ xs) zero (suc i) k h l e = free_got xs zero i k h.1 (omega arith) e
free_got (x ∷ xs) (suc n) zero k h l e = absurd (omega (arith, l))
free_got (x ∷ xs) (suc n) (suc i) k h l e = free_got xs n i k h (omega (arith, l)) e

-- ids behind the reached places have no session
pub free_past : (t : Table) (e : Sessions) (front : List Kept) (id : ℕ) → Stands t e → IsReached front t.sessions → length front < id → free (named e id) ≡ true
free_past t e front zero st h l = absurd (omega (arith, l))
free_past t e front (suc i) st h l =
    ⊎_elim {C = free (named e (suc i)) ≡ true}
    (λ w. let p : i + 1 ≡ suc i = omega arith in
    sym (free_shown e.master (named e (suc i)))
    ∙ free_got t.sessions (length front) i (stream_of e.master e.ceiling (named e (suc i))) h.rest (omega (arith, l)) (kept_here t e i (suc i) st p w))
    (λ w. ap free (past_blank t e (suc i) st (omega (arith, w))))
    (cases_lt i (length t.sessions))
