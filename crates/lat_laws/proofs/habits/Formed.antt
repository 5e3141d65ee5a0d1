-- Each slot of a session that only grows was formed at some event; where the session always has its credits, so has the slot.
use Rattle.std.proofs.Common.{◌≡◌, ℕ, zero, suc, ◌<◌, ◌≤◌, refl, sym, ap, subst, arith, Bool, true, false, List, [], ◌∷◌, ◌++◌, length, take, append_assoc, append-nil, nat_lt, ltb-true}
use Rattle.std.proofs.lemmas.Bool.{ltb-false}
use Rattle.lat_model.specs.sessions.Slots.{Slot, costs}
use Rattle.lat_model.specs.sessions.Session.{Session}
use Rattle.lat_laws.specs.habits.Credits.{IsCredited, HadItsCredit, EachHadItsCredit}
use Rattle.lat_laws.proofs.habits.Growing.{Grown}

-- the first slots of a list cost no more than those of a longer beginning
first_costs : (n : ℕ) (xs ys : List Slot) → n ≤ length xs → costs (take n (xs ++ ys)) ≤ costs xs
first_costs zero xs ys l = omega arith
first_costs (suc n) [] ys l = absurd (omega (arith, l))
first_costs (suc n) (x ∷ xs) ys l = (let h : costs (take n (xs ++ ys)) ≤ costs xs = first_costs n xs ys (omega (arith, l)) in omega (arith, h))

module _ {E : Type 0} (session : List E → Session) (within : (es : List E) → IsCredited (session es)) (grows : (es fs : List E) → Grown (session es) (session (es ++ fs))) where
  here : (before : List E) (e : E) (after : List E) (n : ℕ) → length (session before).out ≤ n → n < length (session (before ++ e ∷ [])).out → HadItsCredit session (before ++ e ∷ after) n
  here before e after n a f =
      let g : Grown (session (before ++ e ∷ [])) (session (before ++ e ∷ after)) = subst (λ z. Grown (session (before ++ e ∷ [])) (session z)) (append_assoc before (e ∷ []) after) (grows (before ++ e ∷ []) after) in
      let c : costs (take (suc n) (session (before ++ e ∷ after)).out) ≤ costs (session (before ++ e ∷ [])).out = subst (λ z. costs (take (suc n) z) ≤ costs (session (before ++ e ∷ [])).out) g.out.1 (first_costs (suc n) (session (before ++ e ∷ [])).out g.out.0 (omega (arith, f))) in
      let w : IsCredited (session (before ++ e ∷ [])) = within (before ++ e ∷ []) in
      record { before = before; event = e; after = after; among = refl; absent = a; formed = f; credited = omega (arith, c, w); out = g.out; came = g.came }

  at_some : (before rest : List E) (n : ℕ) → length (session before).out ≤ n → n < length (session (before ++ rest)).out → HadItsCredit session (before ++ rest) n
  at_some before [] n a f = (let q : length (session (before ++ [])).out ≡ length (session before).out = ap (λ z. length (session z).out) (append-nil before) in absurd (omega (arith, q, a, f)))
  at_some before (e ∷ es) n a f = go (nat_lt n (length (session (before ++ e ∷ [])).out)) refl (at_some (before ++ e ∷ []) es n)
    where
      q : (before ++ e ∷ []) ++ es ≡ before ++ e ∷ es
      q = append_assoc before (e ∷ []) es

      go : (b : Bool) → nat_lt n (length (session (before ++ e ∷ [])).out) ≡ b → (length (session (before ++ e ∷ [])).out ≤ n → n < length (session ((before ++ e ∷ []) ++ es)).out → HadItsCredit session ((before ++ e ∷ []) ++ es) n) → HadItsCredit session (before ++ e ∷ es) n
      go true i later = here before e es n a (ltb-true n (length (session (before ++ e ∷ [])).out) i)
      go false i later = subst (λ z. HadItsCredit session z n) q (later (ltb-false n (length (session (before ++ e ∷ [])).out) i) (subst (λ z. n < length (session z).out) (sym q) f))

  pub each_credited : (session []).out ≡ [] → (events : List E) → EachHadItsCredit session events
  each_credited none events n f = at_some [] events n (omega (arith, ap length none)) f
