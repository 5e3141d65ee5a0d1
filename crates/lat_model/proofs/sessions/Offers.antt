-- What a session offers it may form, and its accounts allow it.
use Rattle.std.proofs.Common.{◌≡◌, ℕ, zero, suc, ◌<◌, ◌≤◌, ◌⊎◌, inl, inr, sym, ap, ◌∙◌, refl, subst, arith, Bool, true, false, not, cond, ◌&&◌, List, [], ◌∷◌, ◌++◌, length, map, take, drop, min, Option, Some, None, nat_lt, nat_le, append_assoc, append-nil, ltb-true, le_refl}
use Rattle.std.proofs.lemmas.List.{drop_at}
use Rattle.std.proofs.lemmas.Bool.{and_parts, true≢false, false≢true, not-true}
use Rattle.lat_model.specs.sessions.Slots.{Item, Byte, Setting, Slot, Start, DataA, DataB, Attention, Reject, Stop, items, items_of, credits, credits_of, costs, cost_of, has_stop, turned, is_ask, slot_len, first_size}
use Rattle.lat_model.specs.sessions.Session.{Session, answered, peer, unframed, due}
use Rattle.lat_model.specs.sessions.Offers.{Nothing, Unfit, Offers, fit, start_of, leading, byte_room, bytes_offer, credit_offer, data_offer, stop_due, live_offer, offer}
use Rattle.lat_model.specs.Lists.{is_empty, IsPrefixOf}
use Rattle.lat_model.specs.sessions.EndOk.{Behind, SessionOk, Accounts}
use Rattle.lat_model.specs.sessions.MayForm.{MayForm, Starts, Rejects, Follows, Affords}

-- a slot that fits is the one offered
fit_is : (room : ℕ) (y x : Slot) → fit room y ≡ Offers x → y ≡ x
fit_is room y x = go (nat_le (slot_len y) room)
  where
    go : (b : Bool) → cond b (Offers y) Unfit ≡ Offers x → y ≡ x
    go true e = cc
    go false e = cc

empty_is : {A : Type 0} (xs : List A) → is_empty xs ≡ true → xs ≡ []
empty_is [] e = refl
empty_is (x ∷ xs) e = absurd (false≢true e)

full_is : {A : Type 0} (xs : List A) → is_empty xs ≡ false → xs ≡ [] → ⊥
full_is [] e q = true≢false e
full_is (x ∷ xs) e q = cc

ask_start : (n from c size : ℕ) (service : List ℕ) (request : Option ℕ) → (n ≡ 0 → ⊥) → is_ask (Start n from c size service request) ≡ false
ask_start zero from c size service request h = absurd (h refl)
ask_start (suc n) from c size service request h = refl

-- the items of a data slot stand next
leading_first : (n : ℕ) (xs : List Item) → IsPrefixOf (map Byte (take n (leading xs))) xs
leading_first zero xs = (xs, refl)
leading_first (suc n) [] = ([], refl)
leading_first (suc n) (Byte b ∷ xs) = let p : IsPrefixOf (map Byte (take n (leading xs))) xs = leading_first n xs in (p.0, ap (λ z. Byte b ∷ z) p.1)
leading_first (suc n) (Setting t ∷ xs) = (Setting t ∷ xs, refl)

next_items : (out put xs us : List Item) → IsPrefixOf out put → drop (length out) put ≡ us → IsPrefixOf xs us → IsPrefixOf (out ++ xs) put
next_items out put xs us p e q =
    let r : p.0 ≡ us = sym (drop_at out p.0 (length out) refl) ∙ ap (drop (length out)) p.1 ∙ e in
    (q.0, append_assoc out xs q.0 ∙ ap (λ z. out ++ z) q.1 ∙ ap (λ z. out ++ z) (sym r) ∙ p.1)

pub record Fine (master : Bool) (ceiling : ℕ) (s : Session) (x : Slot) : Type 0 where
  pub may : MayForm master s x
  pub affords : Affords ceiling s x

-- a slot of no items and no cost
free_slot : (c : ℕ) (s : Session) (x : Slot) → Accounts c s → cost_of x ≡ 0 → items_of x ≡ [] → credits_of x ≤ due c s → Affords c s x
free_slot c s x ac k i d = record {
  cost = omega (arith, ac.spends, k);
  gives = d;
  items = (ac.framed.0, ap (λ z. (items s.out ++ z) ++ ac.framed.0) i ∙ ap (λ z. z ++ ac.framed.0) (append-nil (items s.out)) ∙ ac.framed.1);
}

-- a session that may send behind its start
pub record Sends (s : Session) : Type 0 where
  pub rejects : s.rejects ≡ false
  pub started : s.out ≡ [] → ⊥
  pub answered : answered s ≡ true
  pub open_yet : has_stop s.out ≡ false

sends : (m : Bool) (s : Session) (x : Slot) → Sends s → Behind (peer s) s.id x → MayForm m s x
sends m s x w b = Follows w.rejects w.started w.answered w.open_yet b

credits_fine : (m : Bool) (c room n : ℕ) (s : Session) (x : Slot) → Sends s → Accounts c s → n ≤ due c s → credit_offer room n s ≡ Offers x → Fine m c s x
credits_fine m c room zero s x w ac d e = absurd (wrong e)
  where
    wrong : Nothing ≡ Offers x → ⊥
    wrong q = cc
credits_fine m c room (suc n) s x w ac d e =
    let y : Slot = DataA (peer s) s.id (suc n) [] in
    subst (Fine m c s) (fit_is room y x e)
    (record { may = sends m s y w (record { kind = refl; destination = refl; source = refl }); affords = free_slot c s y ac refl refl d })

bytes_fine : (m : Bool) (c n : ℕ) (s : Session) (x : Slot) (us : List Item) → Sends s → Accounts c s → costs s.out < credits s.came → drop (length (items s.out)) s.put ≡ us → (bs : List ℕ) → IsPrefixOf (map Byte bs) us → n ≤ due c s → bytes_offer n s bs ≡ Offers x → Fine m c s x
bytes_fine m c n s x us w ac k e [] p d q = absurd (wrong q)
  where
    wrong : Unfit ≡ Offers x → ⊥
    wrong r = cc
bytes_fine m c n s x us w ac k e (b ∷ bs) p d q =
    let y : Slot = DataA (peer s) s.id n (b ∷ bs) in
    let same : y ≡ x = cc in
    subst (Fine m c s) same
    (record {
      may = sends m s y w (record { kind = refl; destination = refl; source = refl });
      affords = record { cost = omega arith; gives = d; items = next_items (items s.out) s.put (map Byte (b ∷ bs)) us ac.framed e p };
    })

data_fine : (m : Bool) (c room : ℕ) (s : Session) (x : Slot) → Sends s → Accounts c s → (us : List Item) → (us ≡ [] → ⊥) ⊎ (us ≡ []) → ((us ≡ [] → ⊥) → drop (length (items s.out)) s.put ≡ us) → data_offer c room s us ≡ Offers x → Fine m c s x
data_fine m c room s x w ac [] n d e = credits_fine m c room (due c s) s x w ac (le_refl _) e
data_fine m c room s x w ac (Byte b ∷ xs) n d e = go (nat_lt (costs s.out) (credits s.came)) refl e
  where
    bs : List ℕ
    bs = take (min (min 255 (first_size s.came)) (byte_room room)) (leading (Byte b ∷ xs))

    go : (t : Bool) → nat_lt (costs s.out) (credits s.came) ≡ t → cond t (bytes_offer (due c s) s bs) (credit_offer room (due c s) s) ≡ Offers x → Fine m c s x
    go true q e = bytes_fine m c (due c s) s x (Byte b ∷ xs) w ac (ltb-true (costs s.out) (credits s.came) q) (d (λ z. cc)) bs (leading_first (min (min 255 (first_size s.came)) (byte_room room)) (Byte b ∷ xs)) (le_refl _) e
    go false q e = credits_fine m c room (due c s) s x w ac (le_refl _) e
data_fine m c room s x w ac (Setting t ∷ xs) n d e = go (nat_lt (costs s.out) (credits s.came)) refl e
  where
    y : Slot
    y = DataB (peer s) s.id (due c s) t

    go : (b : Bool) → nat_lt (costs s.out) (credits s.came) ≡ b → cond b (fit room y) (credit_offer room (due c s) s) ≡ Offers x → Fine m c s x
    go true q e =
        subst (Fine m c s) (fit_is room y x e)
        (record {
          may = sends m s y w (record { kind = refl; destination = refl; source = refl });
          affords = record { cost = omega (arith, ltb-true (costs s.out) (credits s.came) q); gives = le_refl _; items = next_items (items s.out) s.put (Setting t ∷ []) (Setting t ∷ xs) ac.framed (d (λ z. cc)) (xs, refl) };
        })
    go false q e = credits_fine m c room (due c s) s x w ac (le_refl _) e

live_fine : (m : Bool) (c room : ℕ) (s : Session) (x : Slot) → Sends s → Accounts c s → (o : Option ℕ) → live_offer c room s o ≡ Offers x → Fine m c s x
live_fine m c room s x w ac (Some flag) e =
    let y : Slot = Attention (peer s) s.id flag in
    subst (Fine m c s) (fit_is room y x e)
    (record { may = sends m s y w (record { kind = refl; destination = refl; source = refl }); affords = free_slot c s y ac refl refl (omega arith) })
live_fine m c room s x w ac None e = go (stop_due s) e
  where
    y : Slot
    y = Stop (peer s) s.id 1

    decide : (us : List Item) → (us ≡ [] → ⊥) ⊎ (us ≡ [])
    decide [] = inr refl
    decide (u ∷ us) = inl (λ z. cc)

    stands : (b : Bool) → has_stop s.came ≡ b → (cond b [] (drop (length (items s.out)) s.put) ≡ [] → ⊥) → drop (length (items s.out)) s.put ≡ cond b [] (drop (length (items s.out)) s.put)
    stands true q n = absurd (n refl)
    stands false q n = refl

    go : (b : Bool) → cond b (fit room y) (data_offer c room s (unframed s)) ≡ Offers x → Fine m c s x
    go true e =
        subst (Fine m c s) (fit_is room y x e)
        (record { may = sends m s y w (record { kind = refl; destination = refl; source = refl }); affords = free_slot c s y ac refl refl (omega arith) })
    go false e = data_fine m c room s x w ac (unframed s) (decide (unframed s)) (stands (has_stop s.came) refl) e

starts_fine : (m : Bool) (c room : ℕ) (s : Session) (x : Slot) → SessionOk m s → Accounts c s → (m ≡ false → s.generation ≡ 0 → ⊥) → s.out ≡ [] → s.accepted ≡ true → s.rejects ≡ false → turned s.came ≡ false → fit room (start_of m c s) ≡ Offers x → Fine m c s x
starts_fine true c room s x ok ac g o a r tu e =
    let y : Slot = start_of true c s in
    subst (Fine true c s) (fit_is room y x e)
    (record { may = Starts o a r tu refl refl refl (λ z. absurd (true≢false z)); affords = free_slot c s y ac refl refl (le_refl _) })
starts_fine false c room s x ok ac g o a r tu e =
    let y : Slot = start_of false c s in
    subst (Fine false c s) (fit_is room y x e)
    (record {
      may = Starts o a r tu refl (ask_start (peer s) s.id (due c s) 255 s.service None (ok.peer_some refl (g refl))) refl (λ z. refl);
      affords = free_slot c s y ac refl refl (le_refl _);
    })

pub offer_fine : (m : Bool) (c room : ℕ) (s : Session) (x : Slot) → SessionOk m s → Accounts c s → (m ≡ false → s.accepted ≡ true → s.generation ≡ 0 → ⊥) → offer m c room s ≡ Offers x → Fine m c s x
offer_fine m c room s x ok ac g = go s.rejects (is_empty s.out) (is_empty s.came) (s.accepted && not (turned s.came)) (answered s && not (has_stop s.out)) refl refl refl refl refl
  where
    nothing : Nothing ≡ Offers x → ⊥
    nothing q = cc

    y : Slot
    y = Reject (peer s) 0 s.reason

    go : (r o k a l : Bool) → s.rejects ≡ r → is_empty s.out ≡ o → is_empty s.came ≡ k → (s.accepted && not (turned s.came)) ≡ a → (answered s && not (has_stop s.out)) ≡ l →
        cond r (cond (o && not k) (fit room y) Nothing) (cond o (cond a (fit room (start_of m c s)) Nothing) (cond l (live_offer c room s s.attention) Nothing)) ≡ Offers x → Fine m c s x
    go true true true a l er eo ek ea el e = absurd (nothing e)
    go true true false a l er eo ek ea el e =
        subst (Fine m c s) (fit_is room y x e)
        (record { may = Rejects (empty_is s.out eo) er (full_is s.came ek) refl refl; affords = free_slot c s y ac refl refl (omega arith) })
    go true false k a l er eo ek ea el e = absurd (nothing e)
    go false true k true l er eo ek ea el e =
        let p : (s.accepted ≡ true) × (not (turned s.came) ≡ true) = and_parts s.accepted (not (turned s.came)) ea in
        starts_fine m c room s x ok ac (λ q. g q p.0) (empty_is s.out eo) p.0 er (not-true (turned s.came) p.1) e
    go false true k false l er eo ek ea el e = absurd (nothing e)
    go false false k a true er eo ek ea el e =
        let p : (answered s ≡ true) × (not (has_stop s.out) ≡ true) = and_parts (answered s) (not (has_stop s.out)) el in
        live_fine m c room s x (record { rejects = er; started = full_is s.out eo; answered = p.0; open_yet = not-true (has_stop s.out) p.1 }) ac s.attention e
    go false false k a false er eo ek ea el e = absurd (nothing e)
