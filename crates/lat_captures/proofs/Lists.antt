-- Messages with the sessions of their slots, one after another and all in a row.
use Rattle.std.proofs.Common.{◌≡◌, ℕ, zero, suc, ◌+◌, ◌-◌, ◌≤◌, sym, ap, ap₂, ◌∙◌, refl, arith, Bool, true, false, cond, List, [], ◌∷◌, ◌++◌, length, take, drop, map, append_assoc, append-nil, nat_eq}
use Rattle.std.proofs.lemmas.List.{take-append-drop, map-append}
use Rattle.lat_model.specs.Lists.{IsPrefixOf}
use Rattle.lat_model.specs.sessions.Slots.{Slot, credits_of, credits}
use Rattle.lat_model.proofs.sessions.Words.{credits-append}
use Rattle.lat_captures.specs.Seen.{Both}
use Rattle.lat_captures.specs.Belonging.{all_slots, Owned, of_session, slave_owned, message_owned, master_owned}
use Rattle.lat_captures.proofs.Growing.{all_slots-append, slave_owned-append}
use Rattle.lat_captures.specs.Stands.{master_lists, slave_lists}

-- all of them in a row
abbrev pub all_of : {X : Type 0} → List (List X) → List X
all_of [] = []
all_of (m ∷ ms) = m ++ all_of ms

pub all_of-map : {X Y : Type 0} (f : X → Y) (ms : List (List X)) → all_of (map (map f) ms) ≡ map f (all_of ms)
all_of-map f [] = refl
all_of-map f (m ∷ ms) = ap (λ z. map f m ++ z) (all_of-map f ms) ∙ sym (map-append f m (all_of ms))

pub all_of-append : {X : Type 0} (ms ns : List (List X)) → all_of (ms ++ ns) ≡ all_of ms ++ all_of ns
all_of-append [] ns = refl
all_of-append (m ∷ ms) ns = ap (λ z. m ++ z) (all_of-append ms ns) ∙ sym (append_assoc m (all_of ms) (all_of ns))

pub all_master : (b : Both) (ms : List (List Slot)) (bs : List ℕ) → all_of (master_lists b ms bs) ≡ master_owned b ms bs
all_master b [] bs = refl
all_master b (m ∷ ms) [] = refl
all_master b (m ∷ ms) (a ∷ bs) = ap (λ z. message_owned b a m ++ z) (all_master b ms bs)

pub all_slave : (b : Both) (front : List Slot) (ms : List (List Slot)) → all_of (slave_lists b front ms) ≡ slave_owned b front (all_slots ms)
all_slave b front [] = refl
all_slave b front (m ∷ ms) = ap (λ z. slave_owned b front m ++ z) (all_slave b (front ++ m) ms) ∙ sym (slave_owned-append b front m (all_slots ms))

-- the first of them, and those behind

pub take_master : (b : Both) (k : ℕ) (ms : List (List Slot)) (bs : List ℕ) → take k (master_lists b ms bs) ≡ master_lists b (take k ms) bs
take_master b zero ms bs = refl
take_master b (suc k) [] bs = refl
take_master b (suc k) (m ∷ ms) [] = refl
take_master b (suc k) (m ∷ ms) (a ∷ bs) = ap (λ z. message_owned b a m ∷ z) (take_master b k ms bs)

pub take_slave : (b : Both) (k : ℕ) (front : List Slot) (ms : List (List Slot)) → take k (slave_lists b front ms) ≡ slave_lists b front (take k ms)
take_slave b zero front ms = refl
take_slave b (suc k) front [] = refl
take_slave b (suc k) front (m ∷ ms) = ap (λ z. slave_owned b front m ∷ z) (take_slave b k (front ++ m) ms)

pub drop_slave : (b : Both) (k : ℕ) (front : List Slot) (ms : List (List Slot)) → drop k (slave_lists b front ms) ≡ slave_lists b (front ++ all_slots (take k ms)) (drop k ms)
drop_slave b zero front ms = ap (λ z. slave_lists b z ms) (sym (append-nil front))
drop_slave b (suc k) front [] = refl
drop_slave b (suc k) front (m ∷ ms) = drop_slave b k (front ++ m) ms ∙ ap (λ z. slave_lists b z (drop k ms)) (append_assoc front m (all_slots (take k ms)))

pub length_slave : (b : Both) (front : List Slot) (ms : List (List Slot)) → length (slave_lists b front ms) ≡ length ms
length_slave b front [] = refl
length_slave b front (m ∷ ms) = ap suc (length_slave b (front ++ m) ms)

pub length_master : (b : Both) (ms : List (List Slot)) (bs : List ℕ) → length bs ≡ length ms → length (master_lists b ms bs) ≡ length ms
length_master b [] bs e = refl
length_master b (m ∷ ms) [] e = absurd (omega (arith, e))
length_master b (m ∷ ms) (a ∷ bs) e = ap suc (length_master b ms bs (omega (arith, e)))

-- one more

pub slave_lists_push : (b : Both) (front : List Slot) (ms : List (List Slot)) (m : List Slot) → slave_lists b front (ms ++ m ∷ []) ≡ slave_lists b front ms ++ slave_owned b (front ++ all_slots ms) m ∷ []
slave_lists_push b front [] m = ap (λ z. slave_owned b z m ∷ []) (sym (append-nil front))
slave_lists_push b front (n ∷ ms) m =
    ap (λ z. slave_owned b front n ∷ z) (slave_lists_push b (front ++ n) ms m ∙ ap (λ z. slave_lists b (front ++ n) ms ++ slave_owned b z m ∷ []) (append_assoc front n (all_slots ms)))

pub master_lists_push : (b : Both) (ms : List (List Slot)) (bs : List ℕ) (m : List Slot) (a : ℕ) → length bs ≡ length ms → master_lists b (ms ++ m ∷ []) (bs ++ a ∷ []) ≡ master_lists b ms bs ++ message_owned b a m ∷ []
master_lists_push b [] [] m a e = refl
master_lists_push b [] (c ∷ bs) m a e = absurd (omega (arith, e))
master_lists_push b (n ∷ ms) [] m a e = absurd (omega (arith, e))
master_lists_push b (n ∷ ms) (c ∷ bs) m a e = ap (λ z. message_owned b c n ∷ z) (master_lists_push b ms bs m a (omega (arith, e)))

take_none : (X : Type 0) (n : ℕ) → take {A = X} n [] ≡ []
take_none X zero = refl
take_none X (suc n) = refl

-- the first so many, and some more
pub take_on : {X : Type 0} (k j : ℕ) (xs : List X) → k ≤ j → take j xs ≡ take k xs ++ take (j - k) (drop k xs)
take_on zero j xs l = let e : j ≡ j - 0 = omega arith in ap (λ z. take z xs) e
take_on (suc k) zero xs l = absurd (omega (arith, l))
take_on {X} (suc k) (suc j) [] l = sym (take_none X (suc j - suc k))
take_on (suc k) (suc j) (x ∷ xs) l = ap (λ z. x ∷ z) (take_on k j xs (omega (arith, l)) ∙ (let e : j - k ≡ suc j - suc k = omega arith in ap (λ z. take k xs ++ take z (drop k xs)) e))

-- the slots of owned slots
abbrev pub slots_in : List Owned → List Slot
slots_in os = map (λ o. o.slot) os

pub slots_in-slave : (b : Both) (front xs : List Slot) → slots_in (slave_owned b front xs) ≡ xs
slots_in-slave b front [] = refl
slots_in-slave b front (x ∷ xs) = ap (λ z. x ∷ z) (slots_in-slave b (front ++ x ∷ []) xs)

slots_in-message : (b : Both) (a : ℕ) (xs : List Slot) → slots_in (message_owned b a xs) ≡ xs
slots_in-message b a [] = refl
slots_in-message b a (x ∷ xs) = ap (λ z. x ∷ z) (slots_in-message b a xs)

pub slots_in-master : (b : Both) (ms : List (List Slot)) (bs : List ℕ) → length ms ≤ length bs → slots_in (master_owned b ms bs) ≡ all_slots ms
slots_in-master b [] bs l = refl
slots_in-master b (m ∷ ms) [] l = absurd (omega (arith, l))
slots_in-master b (m ∷ ms) (a ∷ bs) l = map-append (λ (o : Owned). o.slot) (message_owned b a m) (master_owned b ms bs) ∙ ap₂ (λ u v. u ++ v) (slots_in-message b a m) (slots_in-master b ms bs (omega (arith, l)))

-- the credits of one session are some of all
pub credits_less : (r : ℕ) (os : List Owned) → credits (of_session r os) ≤ credits (slots_in os)
credits_less r [] = omega arith
credits_less r (o ∷ os) = go (nat_eq o.session r) (credits_less r os)
  where
    go : (c : Bool) → credits (of_session r os) ≤ credits (slots_in os) → credits (cond c (o.slot ∷ of_session r os) (of_session r os)) ≤ credits_of o.slot + credits (slots_in os)
    go true h = omega (arith, h)
    go false h = omega (arith, h)

pub credits_prefix : (xs ys : List Slot) → IsPrefixOf xs ys → credits xs ≤ credits ys
credits_prefix xs ys p = omega (arith, ap credits p.1, credits-append xs p.0)

pub prefix_trans : {X : Type 0} (xs ys zs : List X) → IsPrefixOf xs ys → IsPrefixOf ys zs → IsPrefixOf xs zs
prefix_trans xs ys zs p q = (p.0 ++ q.0, sym (append_assoc xs p.0 q.0) ∙ ap (λ z. z ++ q.0) p.1 ∙ q.1)

pub take_prefix : {X : Type 0} (k : ℕ) (xs : List X) → IsPrefixOf (take k xs) xs
take_prefix k xs = (drop k xs, take-append-drop k xs)

pub slots_prefix : (k : ℕ) (ms : List (List Slot)) → IsPrefixOf (all_slots (take k ms)) (all_slots ms)
slots_prefix k ms = (all_slots (drop k ms), sym (all_slots-append (take k ms) (drop k ms)) ∙ ap all_slots (take-append-drop k ms))
