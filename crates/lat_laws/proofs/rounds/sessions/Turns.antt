-- Who has a turn: each session that is held, and each reject that waits.
use Rattle.std.proofs.Common.{◌≡◌, ℕ, zero, suc, ◌+◌, ◌-◌, ◌<◌, ◌≤◌, ◌⊎◌, inl, inr, ⊎_elim, sym, ap, ◌∙◌, refl, subst, arith, Bool, true, false, cond, List, [], ◌∷◌, ◌++◌, map}
use Rattle.std.proofs.lemmas.Bool.{cases_lt, or_parts, true≢false}
use Rattle.lat_model.specs.sessions.Session.{blank, free, rejecting}
use Rattle.lat_model.specs.sessions.Sessions.{Sessions}
use Rattle.lat_model.specs.sessions.Packing.{waiting_rejects, once_round, turns}
use Rattle.lat_model.specs.Lists.{upwards, keep}
use Rattle.lat_model.specs.sessions.EndOk.{EndOk, IdsWithin}
use Rattle.lat_model.proofs.sessions.Words.{not_blank}
use Rattle.lat_laws.specs.rounds.Idle.{In}

in_left : (k : ℕ) (xs ys : List ℕ) → In k xs → In k (xs ++ ys)
in_left k [] ys i = absurd i
in_left k (x ∷ xs) ys i = ⊎_elim {C = (k ≡ x) ⊎ In k (xs ++ ys)} (λ e. inl e) (λ e. inr (in_left k xs ys e)) i

in_right : (k : ℕ) (xs ys : List ℕ) → In k ys → In k (xs ++ ys)
in_right k [] ys i = i
in_right k (x ∷ xs) ys i = inr (in_right k xs ys i)

in_map : (f : ℕ → ℕ) (i : ℕ) (xs : List ℕ) → In i xs → In (f i) (map f xs)
in_map f i [] h = absurd h
in_map f i (x ∷ xs) h = ⊎_elim {C = (f i ≡ f x) ⊎ In (f i) (map f xs)} (λ e. inl (ap f e)) (λ e. inr (in_map f i xs e)) h

pub in_upwards : (i n k : ℕ) → n < i → i ≤ n + k → In i (upwards n k)
in_upwards i n zero h l = absurd (omega arith)
in_upwards i n (suc k) h l = ⊎_elim {C = (i ≡ suc n) ⊎ In i (upwards (suc n) k)} (λ e. inr (in_upwards i (suc n) k e (omega arith))) (λ e. inl (omega arith)) (cases_lt (suc n) i)

in_keep : (p : ℕ → Bool) (i : ℕ) (xs : List ℕ) → p i ≡ true → In i xs → In i (keep p xs)
in_keep p i [] e h = absurd h
in_keep p i (x ∷ xs) e h = go (p x) refl (in_keep p i xs e) h
  where
    go : (b : Bool) → p x ≡ b → (In i xs → In i (keep p xs)) → (i ≡ x) ⊎ In i xs → In i (cond b (x ∷ keep p xs) (keep p xs))
    go true q ih h = ⊎_elim {C = (i ≡ x) ⊎ In i (keep p xs)} (λ w. inl w) (λ w. inr (ih w)) h
    go false q ih h = ⊎_elim {C = In i (keep p xs)} (λ w. absurd (true≢false (sym e ∙ ap p w ∙ q))) ih h

in_round : (e : Sessions) (i : ℕ) → 0 < i → i ≤ 64 → In i (upwards e.served (64 - e.served) ++ upwards 0 e.served)
in_round e i h l = ⊎_elim {C = In i (upwards e.served (64 - e.served) ++ upwards 0 e.served)}
    (λ w. in_left i (upwards e.served (64 - e.served)) (upwards 0 e.served) (in_upwards i e.served (64 - e.served) w (omega arith)))
    (λ w. in_right i (upwards e.served (64 - e.served)) (upwards 0 e.served) (in_upwards i 0 e.served h (omega arith)))
    (cases_lt e.served i)

blank_free : free blank ≡ false → ⊥
blank_free e = true≢false e

pub held_turn : (e : Sessions) (k : ℕ) → EndOk e → IdsWithin 64 e → free (e.session k) ≡ false → In k (turns e)
held_turn e k ok low h = in_right k (waiting_rejects e) (once_round e) (subst (λ z. In z (once_round e)) found (in_map e.at_id i (upwards e.served (64 - e.served) ++ upwards 0 e.served) (in_round e i some most)))
  where
    i : ℕ
    i = (e.session k).id

    found : e.at_id i ≡ k
    found = ok.holds k h

    made : k ≡ 0 → ⊥
    made = not_blank e (λ s. free s ≡ false) blank_free ok.none k h

    rejects : (e.session k).rejects ≡ false
    rejects = (or_parts (e.session k).rejects _ (or_parts _ _ h).0).0

    pos : (n : ℕ) → (n ≡ 0 → ⊥) → 0 < n
    pos zero w = absurd (w refl)
    pos (suc n) w = omega arith

    some : 0 < i
    some = pos i ((ok.each k).id_some rejects)

    most : i ≤ 64
    most = ⊎_elim {C = i ≤ 64} (λ w. absurd (made (sym found ∙ low i (inr w)))) (λ w. w) (cases_lt 64 i)

pub reject_turn : (e : Sessions) (k : ℕ) → 0 < k → k ≤ e.made → rejecting (e.session k) ≡ true → In k (turns e)
reject_turn e k h l r = in_left k (waiting_rejects e) (once_round e) (in_keep (λ j. rejecting (e.session j)) k (upwards 0 e.made) r (in_upwards k 0 e.made h (omega arith)))
