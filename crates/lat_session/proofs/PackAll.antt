-- Turns one after the other.
use Rattle.std.proofs.Common.{◌≡◌, ◌≢◌, ℕ, zero, suc, ◌+◌, sym, ap, ◌∙◌, refl, arith, Bool, true, false, not, cond, ◌&&◌, List, [], ◌∷◌, ◌++◌, map, nat_le, ⊎_elim}
use Rattle.std.proofs.lemmas.Bool.{false≢true, and_parts, cases_eq, false_from_ne_true}
use Rattle.lat_model.specs.Lists.{upwards, is_empty}
use Rattle.lat_model.specs.sessions.Slots.{Slot, Reject, slot_len}
use Rattle.lat_model.specs.sessions.Session.{Session, rejecting, peer, free}
use Rattle.lat_model.specs.sessions.Offers.{Offer, Nothing, Unfit, Offers, fit, offer}
use Rattle.lat_model.specs.sessions.Packing.{Packing, turn_by, turn, turn_all}
use Rattle.lat_model.proofs.sessions.Forms.{formed_as, formed_free}
use Rattle.lat_session.specs.Packed.{NoRejects}
use Rattle.lat_stream.specs.FormsOffer.{reject_due}
use Rattle.lat_session.proofs.PackForm.{forms}
use Rattle.lat_session.proofs.PackTurn.{turn_turned}

pub turn_all-append : (xs ys : List ℕ) (p : Packing) → turn_all (xs ++ ys) p ≡ turn_all ys (turn_all xs p)
turn_all-append [] ys p = refl
turn_all-append (x ∷ xs) ys p = turn_all-append xs ys (turn p x)

pub turn_all-at_id : (xs : List ℕ) (p : Packing) → (turn_all xs p).after.at_id ≡ p.after.at_id
turn_all-at_id [] p = refl
turn_all-at_id (x ∷ xs) p = turn_all-at_id xs (turn p x) ∙ (turn_turned p x).at_id

-- numbers from a + 1 on

suc_over : (a m : ℕ) → suc a + m ≡ a + suc m
suc_over a m = omega arith

suc_out : (m k : ℕ) → suc m + k ≡ suc (m + k)
suc_out m k = omega arith

none_left : (a k : ℕ) → a ≡ a + 0
none_left a k = omega arith

none_more : (k : ℕ) → 0 + k ≡ k
none_more k = omega arith

pub upwards-append : (a m k : ℕ) → upwards a (m + k) ≡ upwards a m ++ upwards (a + m) k
upwards-append a zero k = ap (upwards a) (none_more k) ∙ ap (λ n. upwards n k) (none_left a k)
upwards-append a (suc m) k = ap (upwards a) (suc_out m k) ∙ ap (λ z. suc a ∷ z) (upwards-append (suc a) m k ∙ ap (λ n. upwards (suc a) m ++ upwards n k) (suc_over a m))

-- one more turn
pub turns_more : (f : ℕ → ℕ) (a m id : ℕ) (p : Packing) → id ≡ suc (a + m) → turn_all (map f (upwards a (m + 1))) p ≡ turn (turn_all (map f (upwards a m)) p) (f id)
turns_more f a m id p q = ap (λ z. turn_all (map f z) p) (upwards-append a m 1) ∙ go (upwards a m) p
  where
    go : (xs : List ℕ) (p : Packing) → turn_all (map f (xs ++ upwards (a + m) 1)) p ≡ turn (turn_all (map f xs) p) (f id)
    go [] p = ap (λ i. turn p (f i)) (sym q)
    go (x ∷ xs) p = go xs (turn p (f x))

-- what a turn does to other sessions, and to the one whose turn it is

pub turn_other : (p : Packing) (k j : ℕ) → j ≢ k → (turn p k).after.session j ≡ p.after.session j
turn_other p k j n = go p.going (offer p.after.master p.after.ceiling p.room (p.after.session k))
  where
    go : (b : Bool) (o : Offer) → (cond b (turn_by p k o) p).after.session j ≡ p.after.session j
    go true Nothing = refl
    go true Unfit = refl
    go true (Offers x) = (forms p.after k x).changed.other j n
    go false o = refl

pub turn_going : (p : Packing) (k : ℕ) → (turn p k).going ≡ true → p.going ≡ true
turn_going p k h = go p.going refl h
  where
    go : (b : Bool) → p.going ≡ b → (cond b (turn_by p k (offer p.after.master p.after.ceiling p.room (p.after.session k))) p).going ≡ true → p.going ≡ true
    go true e h = e
    go false e h = h

-- after its turn a session has no reject to tell, while the packing goes on
pub turn_tells : (p : Packing) (k : ℕ) → (turn p k).going ≡ true → reject_due ((turn p k).after.session k) ≡ false
turn_tells p k = go p.going (offer p.after.master p.after.ceiling p.room s) refl refl
  where
    s : Session
    s = p.after.session k

    offers_reject : reject_due s ≡ true → offer p.after.master p.after.ceiling p.room s ≡ fit p.room (Reject (peer s) 0 s.reason)
    offers_reject t =
        let a : (rejecting s ≡ true) × (not (is_empty s.came) ≡ true) = and_parts (rejecting s) (not (is_empty s.came)) t in
        let b : (s.rejects ≡ true) × (is_empty s.out ≡ true) = and_parts s.rejects (is_empty s.out) a.0 in
        rw (b.0, b.1, a.1) refl

    some : (n : Bool) → cond n (Offers (Reject (peer s) 0 s.reason)) Unfit ≡ Nothing → ⊥
    some true e = cc
    some false e = cc

    ended : (x : Slot) (n : ℕ) → reject_due (formed_as s n x) ≡ false
    ended x n = ap (λ b. (s.rejects && b) && not (is_empty s.came)) (full s.out) ∙ none s.rejects
      where
        full : (xs : List Slot) → is_empty (xs ++ x ∷ []) ≡ false
        full [] = refl
        full (y ∷ ys) = refl

        none : (b : Bool) → ((b && false) && not (is_empty s.came)) ≡ false
        none true = refl
        none false = refl

    go : (b : Bool) (o : Offer) → p.going ≡ b → offer p.after.master p.after.ceiling p.room s ≡ o → (cond b (turn_by p k o) p).going ≡ true → reject_due ((cond b (turn_by p k o) p).after.session k) ≡ false
    go true Nothing e q h = false_from_ne_true (reject_due s) (λ t. absurd (some (nat_le (slot_len (Reject (peer s) 0 s.reason)) p.room) (sym (offers_reject t) ∙ q)))
    go true Unfit e q h = absurd (false≢true h)
    go true (Offers x) e q h = ap reject_due (forms p.after k x).changed.same ∙ ended x (forms p.after k x).generation
    go false o e q h = absurd (false≢true (sym e ∙ h))

pub turn_no_rejects : (p : Packing) (k : ℕ) → NoRejects p → NoRejects (turn p k)
turn_no_rejects p k n g j =
    ⊎_elim {C = reject_due ((turn p k).after.session j) ≡ false}
    (λ z. ap (λ i. reject_due ((turn p k).after.session i)) z ∙ turn_tells p k g)
    (λ z. ap reject_due (turn_other p k j z) ∙ n (turn_going p k g) j)
    (cases_eq j k)

pub turns_no_rejects : (ks : List ℕ) (p : Packing) → NoRejects p → NoRejects (turn_all ks p)
turns_no_rejects [] p n = n
turns_no_rejects (k ∷ ks) p n = turns_no_rejects ks (turn p k) (turn_no_rejects p k n)

-- a session that is free stays free

formed_stays : (s : Session) (n : ℕ) (x : Slot) → free s ≡ true → free (formed_as s n x) ≡ true
formed_stays s n x h = go (free (formed_as s n x)) refl
  where
    go : (b : Bool) → free (formed_as s n x) ≡ b → b ≡ true
    go true e = refl
    go false e = absurd (false≢true (sym (formed_free s n x e) ∙ h))

turn_stays : (p : Packing) (k : ℕ) → free (p.after.session k) ≡ true → free ((turn p k).after.session k) ≡ true
turn_stays p k h = go p.going (offer p.after.master p.after.ceiling p.room (p.after.session k))
  where
    go : (b : Bool) (o : Offer) → free ((cond b (turn_by p k o) p).after.session k) ≡ true
    go true Nothing = h
    go true Unfit = h
    go true (Offers x) = ap free (forms p.after k x).changed.same ∙ formed_stays (p.after.session k) (forms p.after k x).generation x h
    go false o = h

pub turns_stay : (ks : List ℕ) (p : Packing) (j : ℕ) → free (p.after.session j) ≡ true → free ((turn_all ks p).after.session j) ≡ true
turns_stay [] p j h = h
turns_stay (k ∷ ks) p j h =
    turns_stay ks (turn p k) j
    (⊎_elim {C = free ((turn p k).after.session j) ≡ true}
    (λ z. ap (λ i. free ((turn p k).after.session i)) z ∙ turn_stays p k (ap (λ i. free (p.after.session i)) (sym z) ∙ h))
    (λ z. ap free (turn_other p k j z) ∙ h)
    (cases_eq j k))
