-- What a program keeps of sessions is what the lists of slots say.
use Rattle.std.proofs.Common.{◌≡◌, ℕ, zero, suc, ◌+◌, ap, ◌∙◌, refl, arith, Bool, true, false, cond, List, [], ◌∷◌, ◌++◌, length, nat_eq}
use Rattle.std.specs.Prelude.{Option, Some, None}
use Rattle.lat_model.specs.sessions.Slots.{Slot, credits_of, cost_of, credits, costs}
use Rattle.lat_model.proofs.sessions.Words.{credits-append, costs-append}
use Rattle.lat_captures.specs.Belonging.{place_on, last_place, asks_as, Owned, of_session}
use Rattle.lat_captures.specs.Stands.{last_ask}
use Rattle.lat_captures.proofs.Growing.{later_place, last_place-append, of_session-append}

-- words of one more slot

none_behind : (n k : ℕ) → later_place n k zero ≡ k
none_behind n k = refl

pub push_place : (p : Slot → Bool) (xs : List Slot) (x : Slot) → last_place p (xs ++ x ∷ []) ≡ cond (p x) (suc (length xs)) (last_place p xs)
push_place p xs x = last_place-append p xs (x ∷ []) ∙ go (p x)
  where
    go : (c : Bool) → later_place (length xs) (last_place p xs) (place_on c 0) ≡ cond c (suc (length xs)) (last_place p xs)
    go true = omega arith
    go false = refl

pub credits_push : (r : ℕ) (os : List Owned) (o : Owned) → credits (of_session r (os ++ o ∷ [])) ≡ credits (of_session r os) + cond (nat_eq o.session r) (credits_of o.slot) 0
credits_push r os o = ap credits (of_session-append r os (o ∷ [])) ∙ credits-append (of_session r os) (of_session r (o ∷ [])) ∙ go (nat_eq o.session r)
  where
    go : (c : Bool) → credits (of_session r os) + credits (cond c (o.slot ∷ []) []) ≡ credits (of_session r os) + cond c (credits_of o.slot) 0
    go true = omega arith
    go false = refl

pub costs_push : (r : ℕ) (os : List Owned) (o : Owned) → costs (of_session r (os ++ o ∷ [])) ≡ costs (of_session r os) + cond (nat_eq o.session r) (cost_of o.slot) 0
costs_push r os o = ap costs (of_session-append r os (o ∷ [])) ∙ costs-append (of_session r os) (of_session r (o ∷ [])) ∙ go (nat_eq o.session r)
  where
    go : (c : Bool) → costs (of_session r os) + costs (cond c (o.slot ∷ []) []) ≡ costs (of_session r os) + cond c (cost_of o.slot) 0
    go true = omega arith
    go false = refl

pub push_ask : (x : ℕ) (os : List Owned) (o : Owned) → last_ask x (os ++ o ∷ []) ≡ cond (asks_as x o.slot) (Some (credits_of o.slot)) (last_ask x os)
push_ask x [] o = refl
push_ask x (q ∷ os) o = go (asks_as x o.slot) (last_ask x os) (last_ask x (os ++ o ∷ [])) (push_ask x os o) refl
  where
    or_this : Option ℕ → Option ℕ
    or_this (Some c) = Some c
    or_this None = cond (asks_as x q.slot) (Some (credits_of q.slot)) None

    go : (c : Bool) (a b : Option ℕ) → b ≡ cond c (Some (credits_of o.slot)) a → last_ask x os ≡ a → or_this b ≡ cond c (Some (credits_of o.slot)) (or_this a)
    go true a b e f = ap or_this e
    go false a b e f = ap or_this e
