-- Where nothing is lost, a frame that comes for the first time comes in its turn: each frame of its side for the other end
-- before it has come.
use Rattle.std.proofs.Common.{◌≡◌, ℕ, ◌<◌, ◌≤◌, ◌⊎◌, ⊎_elim, sym, ap, ◌∙◌, refl, subst, arith, Bool, true, false, cond, List, [], ◌∷◌, ◌++◌, Some, slice_get, filter}
use Rattle.std.proofs.lemmas.Bool.{and_parts, and_from}
use Rattle.std.proofs.lemmas.List.{append_assoc}
use Rattle.std.proofs.lemmas.List.Elements.{filter-append}
use Rattle.lat_machines.specs.world.Machines.{Setups, Posted, Machines, is_for_other, marked_delivered}
use Rattle.lat_laws.specs.rounds.Lossless.{is_side, sent_from, is_sent_by, is_in, firsts, came_first, Lossless}
use Rattle.lat_laws.proofs.rounds.rounds.Nexts.{Rising, each_in, in_append, firsts_new, rising_above, sent_rising, sent_has}
use Rattle.lat_laws.proofs.rounds.rounds.Delivers.{came_is}

own_side : (b : Bool) → is_side b b ≡ true
own_side true = refl
own_side false = refl

-- one element behind, where it rises
rest_above : (n : ℕ) (xs : List ℕ) (i : ℕ) (rest : List ℕ) (k : ℕ) → Rising n (xs ++ i ∷ rest) → is_in k (i ∷ rest) ≡ true → i ≤ k
rest_above n xs i rest k r e = each_in (λ z. i ≤ z) k (i ∷ rest) (rising_above n xs i rest r) e

pub in_turn : (u : Setups) (w : Machines) (i : ℕ) (p : Posted) → Lossless u (marked_delivered i w) → slice_get w.posts i ≡ Some p → is_for_other u p ≡ true → is_in i w.delivered ≡ false → (k : ℕ) (q : Posted) → k < i → slice_get w.posts k ≡ Some q → q.by_server ≡ p.by_server → is_for_other u q ≡ true → is_in k w.delivered ≡ true
in_turn u w i p l at other new k q less there same_side q_other = old (in_append k (came_first u b w) (i ∷ rest) (subst (λ z. is_in k z ≡ true) (sym split) k_sent))
  where
    b : Bool
    b = p.by_server

    rest : List ℕ
    rest = (l p.by_server).0

    i_sent : is_sent_by u p.by_server (slice_get w.posts i) ≡ true
    i_sent = ap (is_sent_by u p.by_server) at ∙ and_from (is_side p.by_server p.by_server) (is_for_other u p) (own_side p.by_server) other

    came : came_first u p.by_server (marked_delivered i w) ≡ came_first u p.by_server w ++ i ∷ []
    came = ap (filter (λ j. is_sent_by u p.by_server (slice_get w.posts j))) (firsts_new i [] w.delivered refl new) ∙ (filter-append (λ j. is_sent_by u p.by_server (slice_get w.posts j)) (firsts [] w.delivered) (i ∷ []) ∙ ap (λ z. came_first u p.by_server w ++ cond z (i ∷ []) []) i_sent)

    split : came_first u p.by_server w ++ i ∷ (l p.by_server).0 ≡ sent_from u p.by_server 0 w.posts
    split = sym (append_assoc (came_first u p.by_server w) (i ∷ []) (l p.by_server).0) ∙ (ap (λ z. z ++ (l p.by_server).0) (sym came) ∙ (l p.by_server).1)

    k_sent : is_in k (sent_from u p.by_server 0 w.posts) ≡ true
    k_sent = sent_has u p.by_server 0 k k w.posts q (omega arith) there (and_from (is_side p.by_server q.by_server) (is_for_other u q) (ap (is_side p.by_server) same_side ∙ own_side p.by_server) q_other)

    old : (is_in k (came_first u p.by_server w) ≡ true) ⊎ (is_in k (i ∷ (l p.by_server).0) ≡ true) → is_in k w.delivered ≡ true
    old s = ⊎_elim {C = is_in k w.delivered ≡ true} (λ r. (and_parts (is_sent_by u p.by_server (slice_get w.posts k)) (is_in k w.delivered) (sym (came_is u p.by_server w k) ∙ r)).1) (λ r. absurd (omega (arith, less, rest_above 0 (came_first u p.by_server w) i (l p.by_server).0 k (subst (Rising 0) (sym split) (sent_rising u p.by_server 0 w.posts)) r))) s
