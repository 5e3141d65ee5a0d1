-- The frame that comes next is a later one.
use Rattle.std.proofs.lemmas.Bool.{true≢false, false≢true}
use Rattle.std.proofs.Common.{◌||◌, ◌≡◌, ℕ, suc, ◌+◌, ◌<◌, ◌≤◌, sym, ap, ap₂, ◌∙◌, refl, subst, arith, Bool, true, false, not, cond, ◌&&◌, List, [], ◌∷◌, ◌++◌, Some, nat_eq, slice_get}
use Rattle.lat_machines.specs.values.Events.{Event}
use Rattle.lat_machines.specs.server.Server.{server_step}
use Rattle.lat_machines.specs.node.Node.{node_step}
use Rattle.lat_machines.specs.world.Machines.{Setups, Posted, Machines, HearsFrame, post_all, tell, is_for_other, heard_as, counted, marked_delivered, comes, happens}
use Rattle.lat_laws.specs.rounds.Lossless.{is_in}
use Rattle.lat_laws.specs.rounds.Rounds.{undelivered, undelivered_from}
use Rattle.lat_laws.proofs.rounds.rounds.Nexts.{in_middle, NextOf, next_of}

abbrev pub LowAt : Setups → ℕ → Machines → Type 0
LowAt u n x = (i : ℕ) → undelivered u x ≡ Some i → n ≤ i

from_least : (u : Setups) (done : List ℕ) (n : ℕ) (ps : List Posted) (j : ℕ) → undelivered_from u done n ps ≡ Some j → n ≤ j
from_least u done n [] j e = let z : ⊥ = cc in absurd z
from_least u done n (p ∷ ps) j e = go (is_for_other u p && not (is_in n done)) e (λ r. from_least u done (suc n) ps j r)
  where
    go : (b : Bool) → cond b (Some n) (undelivered_from u done (suc n) ps) ≡ Some j → (undelivered_from u done (suc n) ps ≡ Some j → suc n ≤ j) → n ≤ j
    go true r k = let same : n ≡ j = cc in omega (arith, same)
    go false r k = omega (arith, k r)

rises_from : (u : Setups) (done more : List ℕ) (n : ℕ) (ps qs : List Posted) (i j : ℕ) → ((k : ℕ) → is_in k done ≡ true → is_in k more ≡ true) → is_in i more ≡ true → undelivered_from u done n ps ≡ Some i → undelivered_from u more n (ps ++ qs) ≡ Some j → i < j
rises_from u done more n [] qs i j sub here e f = let z : ⊥ = cc in absurd z
rises_from u done more n (p ∷ ps) qs i j sub here e f = go (is_for_other u p) (is_in n done) refl (is_in n more) refl e f (λ r s. rises_from u done more (suc n) ps qs i j sub here r s)
  where
    go : (c d : Bool) → is_in n done ≡ d → (d' : Bool) → is_in n more ≡ d' → cond (c && not d) (Some n) (undelivered_from u done (suc n) ps) ≡ Some i → cond (c && not d') (Some n) (undelivered_from u more (suc n) (ps ++ qs)) ≡ Some j → (undelivered_from u done (suc n) ps ≡ Some i → undelivered_from u more (suc n) (ps ++ qs) ≡ Some j → i < j) → i < j
    go false d x d' y r s k = k r s
    go true true x true y r s k = k r s
    go true true x false y r s k = absurd (true≢false (sym (sub n x) ∙ y))
    go true false x true y r s k =
        let same : n ≡ i = cc in
        let l : suc n ≤ j = from_least u more (suc n) (ps ++ qs) j s in
        omega (arith, same, l)
    go true false x false y r s k = let same : n ≡ i = cc in absurd (true≢false (sym here ∙ (ap (λ z. is_in z more) (sym same) ∙ y)))

in_front : (k : ℕ) (xs ys : List ℕ) → is_in k xs ≡ true → is_in k (xs ++ ys) ≡ true
in_front k [] ys e = absurd (false≢true e)
in_front k (x ∷ xs) ys e = go (nat_eq k x) e (λ r. in_front k xs ys r)
  where
    go : (b : Bool) → (b || is_in k xs) ≡ true → (is_in k xs ≡ true → is_in k (xs ++ ys) ≡ true) → (b || is_in k (xs ++ ys)) ≡ true
    go true r f = refl
    go false r f = f r

-- what a delivery adds
record IsDelivered (i : ℕ) (w v : Machines) : Type 0 where
  pub sent : List Posted
  pub posts : v.posts ≡ w.posts ++ sent
  pub delivered : v.delivered ≡ w.delivered ++ i ∷ []

tell_adds : (u : Setups) (w : Machines) (i : ℕ) (b : Bool) (e : Event) (rates : List ℕ) → IsDelivered i w (tell u (marked_delivered i w) b e rates)
tell_adds u w i true e rates = record { sent = post_all true (server_step u.server w.server e).frames; posts = refl; delivered = refl }
tell_adds u w i false e rates = record { sent = post_all false (node_step u.node rates w.node e).frames; posts = refl; delivered = refl }

pub rises : (u : Setups) (now : ℕ) (rates : List ℕ) (w : Machines) (i j : ℕ) → undelivered u w ≡ Some i → undelivered u (happens u w (HearsFrame i now rates)) ≡ Some j → i < j
rises u now rates w i j e f =
    rises_from u w.delivered (w.delivered ++ i ∷ []) 0 w.posts a.sent i j (λ k. in_front k w.delivered (i ∷ [])) (in_middle i w.delivered []) e
    (sym (ap₂ (λ y z. undelivered_from u y 0 z) a.delivered a.posts) ∙ f)
  where
    n : NextOf u w.delivered 0 w.posts i
    n = next_of u w.delivered 0 w.posts i e

    at : slice_get w.posts i ≡ Some n.post
    at = subst (λ z. slice_get w.posts z ≡ Some n.post) (omega (arith, n.at)) n.there

    told : IsDelivered i w (cond (is_for_other u n.post) (tell u (marked_delivered i w) (not n.post.by_server) (heard_as u n.post now) rates) (counted (marked_delivered i w)))
    told = subst (λ z. IsDelivered i w (cond z (tell u (marked_delivered i w) (not n.post.by_server) (heard_as u n.post now) rates) (counted (marked_delivered i w)))) (sym n.other)
        (tell_adds u w i (not n.post.by_server) (heard_as u n.post now) rates)

    a : IsDelivered i w (happens u w (HearsFrame i now rates))
    a = subst (λ z. IsDelivered i w (comes u w i now rates z)) (sym at) told
