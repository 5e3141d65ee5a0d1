-- What is kept of sessions goes on as whole messages are acknowledged and formed.
use Rattle.std.proofs.Common.{◌≡◌, ℕ, suc, ◌+◌, ◌≤◌, le_trans, sym, ap, ap₂, ◌∙◌, refl, arith, subst, Bool, true, false, ◌&&◌, List, [], ◌∷◌, ◌++◌, length, map, append_assoc, append-nil, length-append}
use Rattle.std.specs.Prelude.{Option, Some, None, option_and_then}
use Rattle.lat_model.specs.Lists.{Each, IsPrefixOf}
use Rattle.lat_model.specs.sessions.Slots.{Slot, destination, credits}
use Rattle.lat_model.proofs.sessions.Words.{credits-append}
use Rattle.lat_captures.specs.Seen.{Both}
use Rattle.lat_captures.specs.Belonging.{Owned, of_session, slave_owned, slave_session, ask_credits}
use Rattle.lat_captures.specs.Audit.{paid_test}
use Rattle.lat_captures.proofs.Growing.{of_session-append}
use Rattle.lat_captures.specs.declared.slot.OwnedSlot.{OwnedSlot}
use Rattle.lat_captures.specs.Facts.{is_reply, facts_of, owned_slot_of}
use Rattle.lat_captures.specs.Sums.{Sums, greatest, opening, slave_takes, takes_all, slave_forms, master_forms, next_place, kept_before, forms_all}
use Rattle.lat_captures.specs.Stands.{last_ask, Under, Holds}
use Rattle.lat_captures.proofs.Holding.{AskIsNone, holds_slave_takes}
use Rattle.lat_captures.proofs.Takings.{owned_push, holds_master_takes}
use Rattle.lat_captures.proofs.Formings.{covered, Opens, SlaveFormsAs, holds_slave_forms, sent_as, MasterFormsAs, holds_master_forms}
use Rattle.lat_captures.proofs.Lists.{slots_in-slave, credits_less, credits_prefix, prefix_trans}

-- acknowledged slots

front_less : (r : ℕ) (xs ys : List Owned) → credits (of_session r xs) ≤ credits (of_session r (xs ++ ys))
front_less r xs ys = omega (arith, ap credits (of_session-append r xs ys), credits-append (of_session r xs) (of_session r ys))

pub holds_slave_takes_all : (b : Both) (F TM : List Slot) (MO TS os : List Owned) (s : Sums) → Holds b F TM MO TS s → Each (Under destination TM) os → Each AskIsNone os
    → ((r : ℕ) → ask_credits b r + credits (of_session r (TS ++ os)) ≤ greatest) → Holds b F TM MO (TS ++ os) (takes_all false s (map owned_slot_of os))
holds_slave_takes_all b F TM MO TS [] s h u n fits = subst (λ z. Holds b F TM MO z s) (sym (append-nil TS)) h
holds_slave_takes_all b F TM MO TS (o ∷ os) s h u n fits =
    let whole : (TS ++ o ∷ []) ++ os ≡ TS ++ o ∷ os = append_assoc TS (o ∷ []) os in
    let rest : (r : ℕ) → ask_credits b r + credits (of_session r ((TS ++ o ∷ []) ++ os)) ≤ greatest = λ r. subst (λ z. ask_credits b r + credits (of_session r z) ≤ greatest) (sym whole) (fits r) in
    let one : Holds b F TM MO (TS ++ o ∷ []) (slave_takes s (owned_slot_of o)) =
    holds_slave_takes b F TM MO TS s o h u.0 n.0 (λ r. le_trans (let l = front_less r (TS ++ o ∷ []) os in omega (arith, l)) (rest r)) in
    subst (λ z. Holds b F TM MO z (takes_all false (slave_takes s (owned_slot_of o)) (map owned_slot_of os))) whole (holds_slave_takes_all b F TM MO (TS ++ o ∷ []) os (slave_takes s (owned_slot_of o)) one u.1 n.1 rest)

pub holds_master_takes_all : (b : Both) (F TM : List Slot) (MO TS : List Owned) (xs : List Slot) (s : Sums) → Holds b F TM MO TS s → IsPrefixOf (TM ++ xs) F → credits F ≤ greatest
    → Holds b F (TM ++ xs) MO TS (takes_all true s (map owned_slot_of (slave_owned b TM xs)))
holds_master_takes_all b F TM MO TS [] s h p l = subst (λ z. Holds b F z MO TS s) (sym (append-nil TM)) h
holds_master_takes_all b F TM MO TS (x ∷ xs) s h p l =
    let whole : (TM ++ x ∷ []) ++ xs ≡ TM ++ x ∷ xs = append_assoc TM (x ∷ []) xs in
    let q : IsPrefixOf ((TM ++ x ∷ []) ++ xs) F = subst (λ z. IsPrefixOf z F) (sym whole) p in
    let first : IsPrefixOf (TM ++ x ∷ []) F = prefix_trans (TM ++ x ∷ []) ((TM ++ x ∷ []) ++ xs) F (xs, refl) q in
    let fits : (r : ℕ) → credits (of_session r (slave_owned b [] (TM ++ x ∷ []))) ≤ greatest =
    λ r. le_trans (credits_less r (slave_owned b [] (TM ++ x ∷ [])))
    (le_trans (subst (λ z. credits z ≤ credits F) (sym (slots_in-slave b [] (TM ++ x ∷ []))) (credits_prefix (TM ++ x ∷ []) F first)) l) in
    let o : Owned = record { session = slave_session b TM x; slot = x } in
    subst (λ z. Holds b F z MO TS (takes_all true s (map owned_slot_of (slave_owned b TM (x ∷ xs))))) whole
    (holds_master_takes_all b F (TM ++ x ∷ []) MO TS xs _ (holds_master_takes b F TM MO TS s x h first fits) q l)

-- formed slots of the slave

abbrev pub slave_gives : Both → List Owned → ℕ → ℕ
slave_gives b TS r = ask_credits b r + credits (of_session r TS)

abbrev pub SlaveFormsAll : Both → List Slot → List Slot → List Owned → List Owned → List Slot → Option (Sums × List OwnedSlot) → Type 0
SlaveFormsAll b F TM MO TS xs None = paid_test (slave_gives b TS) (slave_owned b [] F) (slave_owned b F xs) ≡ false
SlaveFormsAll b F TM MO TS xs (Some r) =
    (paid_test (slave_gives b TS) (slave_owned b [] F) (slave_owned b F xs) ≡ true)
    × (r.1 ≡ map owned_slot_of (slave_owned b F xs)) × Holds b (F ++ xs) TM MO TS r.0

-- each reply among them opens its session
abbrev pub OpensAll : Both → List Slot → List Owned → List Slot → Type 0
OpensAll b F TS xs =
    (done : List Slot) (x : Slot) (rest : List Slot) → xs ≡ done ++ x ∷ rest → is_reply x ≡ true
    → Opens b (suc (length (F ++ done))) (opening (suc (length (F ++ done))) (last_ask (destination x) TS))

opens_on : (b : Both) (F : List Slot) (TS : List Owned) (x : Slot) (xs : List Slot) → OpensAll b F TS (x ∷ xs) → OpensAll b (F ++ x ∷ []) TS xs
opens_on b F TS x xs w done y rest e r =
    subst (λ z. Opens b (suc (length z)) (opening (suc (length z)) (last_ask (destination y) TS))) (sym (append_assoc F (x ∷ []) done)) (w (x ∷ done) y rest (ap (λ z. x ∷ z) e) r)

pub holds_slave_forms_all : (b : Both) (F TM : List Slot) (MO TS : List Owned) (xs : List Slot) (places : ℕ) (s : Sums) → Holds b F TM MO TS s → places ≡ length F → length F + length xs ≤ greatest
    → OpensAll b F TS xs → SlaveFormsAll b F TM MO TS xs (forms_all false places s (map facts_of xs))
holds_slave_forms_all b F TM MO TS [] places s h e l w = (refl, refl, subst (λ z. Holds b z TM MO TS s) (sym (append-nil F)) h)
holds_slave_forms_all b F TM MO TS (x ∷ xs) places s h e l w =
    go (slave_forms (next_place places) s (facts_of x)) (subst (λ z. SlaveFormsAs b F TM MO TS x (slave_forms z s (facts_of x))) (sym place) one)
    (λ t h. holds_slave_forms_all b (F ++ x ∷ []) TM MO TS xs (next_place places) t h (place ∙ sym long) (omega (arith, l, long)) (opens_on b F TS x xs w))
  where
    place : next_place places ≡ suc (length F)
    place = omega (arith, e, l)

    long : length (F ++ x ∷ []) ≡ suc (length F)
    long = omega (arith, length-append F (x ∷ []))

    o : Owned
    o = record { session = slave_session b F x; slot = x }

    one : SlaveFormsAs b F TM MO TS x (slave_forms (suc (length F)) s (facts_of x))
    one = holds_slave_forms b F TM MO TS s x h (λ r. subst (λ z. Opens b (suc (length F)) (opening (suc (length F)) z)) (sym (h.asked (destination x)))
        (subst (λ z. Opens b (suc (length z)) (opening (suc (length z)) (last_ask (destination x) TS))) (append-nil F) (w [] x xs refl r)))

    here : (c d : Bool) → covered (slave_gives b TS) (slave_owned b [] F) o ≡ c → paid_test (slave_gives b TS) (slave_owned b [] (F ++ x ∷ [])) (slave_owned b (F ++ x ∷ []) xs) ≡ d
        → paid_test (slave_gives b TS) (slave_owned b [] F) (slave_owned b F (x ∷ xs)) ≡ (c && d)
    here c d p q =
        ap₂ (λ u v. u && v) p (ap (λ z. paid_test (slave_gives b TS) z (slave_owned b (F ++ x ∷ []) xs)) (sym (owned_push b F x)) ∙ q)

    behind : (r : Sums × OwnedSlot) → covered (slave_gives b TS) (slave_owned b [] F) o ≡ true → r.1 ≡ owned_slot_of o → (q : Option (Sums × List OwnedSlot))
        → SlaveFormsAll b (F ++ x ∷ []) TM MO TS xs q → SlaveFormsAll b F TM MO TS (x ∷ xs) (kept_before r.1 q)
    behind r c k None v = here true false c v
    behind r c k (Some q) v =
        (here true true c v.0, ap₂ (λ y ys. y ∷ ys) k v.1, subst (λ z. Holds b z TM MO TS q.0) (append_assoc F (x ∷ []) xs) v.2)

    go : (q : Option (Sums × OwnedSlot)) → SlaveFormsAs b F TM MO TS x q
        → ((t : Sums) → Holds b (F ++ x ∷ []) TM MO TS t → SlaveFormsAll b (F ++ x ∷ []) TM MO TS xs (forms_all false (next_place places) t (map facts_of xs)))
        → SlaveFormsAll b F TM MO TS (x ∷ xs) (option_and_then (λ r. kept_before r.1 (forms_all false (next_place places) r.0 (map facts_of xs))) q)
    go None v ih = ap (λ c. c && paid_test (slave_gives b TS) (slave_owned b [] F ++ o ∷ []) (slave_owned b (F ++ x ∷ []) xs)) v
    go (Some r) v ih = behind r v.0 v.1 (forms_all false (next_place places) r.0 (map facts_of xs)) (ih r.0 v.2)

-- formed slots of the master

abbrev pub master_gives : Both → List Slot → ℕ → ℕ
master_gives b TM r = credits (of_session r (slave_owned b [] TM))

abbrev pub all_sent : Both → List Slot → List Slot → List Owned
all_sent b TM xs = map (sent_as b TM) xs

abbrev pub MasterFormsAll : Both → List Slot → List Slot → List Owned → List Owned → List Slot → Option (Sums × List OwnedSlot) → Type 0
MasterFormsAll b F TM MO TS xs None = paid_test (master_gives b TM) MO (all_sent b TM xs) ≡ false
MasterFormsAll b F TM MO TS xs (Some r) =
    (paid_test (master_gives b TM) MO (all_sent b TM xs) ≡ true) × (r.1 ≡ map owned_slot_of (all_sent b TM xs)) × Holds b F TM (MO ++ all_sent b TM xs) TS r.0

pub holds_master_forms_all : (b : Both) (F TM : List Slot) (MO TS : List Owned) (xs : List Slot) (places : ℕ) (s : Sums) → Holds b F TM MO TS s → MasterFormsAll b F TM MO TS xs (forms_all true places s (map facts_of xs))
holds_master_forms_all b F TM MO TS [] places s h = (refl, refl, subst (λ z. Holds b F TM z TS s) (sym (append-nil MO)) h)
holds_master_forms_all b F TM MO TS (x ∷ xs) places s h =
    go (master_forms s (facts_of x)) (holds_master_forms b F TM MO TS s x h) (λ t h. holds_master_forms_all b F TM (MO ++ o ∷ []) TS xs (next_place places) t h)
  where
    o : Owned
    o = sent_as b TM x

    behind : (r : Sums × OwnedSlot) → covered (master_gives b TM) MO o ≡ true → r.1 ≡ owned_slot_of o → (q : Option (Sums × List OwnedSlot))
        → MasterFormsAll b F TM (MO ++ o ∷ []) TS xs q → MasterFormsAll b F TM MO TS (x ∷ xs) (kept_before r.1 q)
    behind r c k None v = ap₂ (λ u v. u && v) c v
    behind r c k (Some q) v = (ap₂ (λ u v. u && v) c v.0, ap₂ (λ y ys. y ∷ ys) k v.1, subst (λ z. Holds b F TM z TS q.0) (append_assoc MO (o ∷ []) (all_sent b TM xs)) v.2)

    go : (q : Option (Sums × OwnedSlot)) → MasterFormsAs b F TM MO TS x q
        → ((t : Sums) → Holds b F TM (MO ++ o ∷ []) TS t → MasterFormsAll b F TM (MO ++ o ∷ []) TS xs (forms_all true (next_place places) t (map facts_of xs)))
        → MasterFormsAll b F TM MO TS (x ∷ xs) (option_and_then (λ r. kept_before r.1 (forms_all true (next_place places) r.0 (map facts_of xs))) q)
    go None v ih = ap (λ c. c && paid_test (master_gives b TM) (MO ++ o ∷ []) (all_sent b TM xs)) v
    go (Some r) v ih = behind r v.0 v.1 (forms_all true (next_place places) r.0 (map facts_of xs)) (ih r.0 v.2)
