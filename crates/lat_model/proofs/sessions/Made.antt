-- A new session under a free id: an end keeps what it knows.
use Rattle.std.proofs.Common.{◌≡◌, ◌≢◌, ℕ, zero, suc, ◌<◌, ◌≤◌, ◌⊎◌, inl, inr, ⊎_elim, le_trans, sym, ap, ◌∙◌, refl, subst, arith, Bool, true, false, not, cond, List, [], ◌∷◌, length, Option, nat_eq, nat_le, eqb-true, leb-false, le_refl}
use Rattle.std.proofs.lemmas.Bool.{true≢false, false≢true, both_ways, eqb-false}
use Rattle.lat_model.specs.sessions.Slots.{Slot, Start}
use Rattle.lat_model.specs.sessions.Session.{Session, free}
use Rattle.lat_model.specs.sessions.Sessions.{Sessions, named, held, least_free}
use Rattle.lat_model.specs.Lists.{updated, upwards, keep, least}
use Rattle.lat_model.specs.sessions.Hearing.{asked_session, ask_in}
use Rattle.lat_model.specs.sessions.Calls.{new_call, connect}
use Rattle.lat_model.specs.sessions.EndOk.{SessionOk, Accounts, EndOk}
use Rattle.lat_model.proofs.sessions.Words.{upd_same, upd_other, upd_all}

-- a list longer than its kept part has an element that isn't kept
least_found : (p : ℕ → Bool) (xs : List ℕ) → length (keep (λ i. not (p i)) xs) < length xs → p (least p xs) ≡ true
least_found p [] h = absurd (omega arith)
least_found p (x ∷ xs) h = go (p x) refl (least_found p xs) h
  where
    go : (b : Bool) → p x ≡ b → (length (keep (λ i. not (p i)) xs) < length xs → p (least p xs) ≡ true) → length (cond (not b) (x ∷ keep (λ i. not (p i)) xs) (keep (λ i. not (p i)) xs)) < suc (length xs) → p (cond b x (least p xs)) ≡ true
    go true e ih l = e
    go false e ih l = ih (omega arith)

pub least_is_free : (e : Sessions) → held e < e.agreed → e.agreed ≤ 64 → free (named e (least_free e)) ≡ true
least_is_free e h a = least_found (λ i. free (named e i)) (upwards 0 64) (le_trans h a)

-- what is found is no 0
least_pos : (p : ℕ → Bool) (n k : ℕ) → length (keep (λ i. not (p i)) (upwards n k)) < length (upwards n k) → least p (upwards n k) ≡ 0 → ⊥
least_pos p n zero h = absurd (omega arith)
least_pos p n (suc k) h = go (p (suc n)) (least_pos p (suc n) k) h
  where
    go : (b : Bool) → (length (keep (λ i. not (p i)) (upwards (suc n) k)) < length (upwards (suc n) k) → least p (upwards (suc n) k) ≡ 0 → ⊥) → length (cond (not b) (suc n ∷ keep (λ i. not (p i)) (upwards (suc n) k)) (keep (λ i. not (p i)) (upwards (suc n) k))) < suc (length (upwards (suc n) k)) → cond b (suc n) (least p (upwards (suc n) k)) ≡ 0 → ⊥
    go true ih l q = absurd (omega (arith, q))
    go false ih l q = ih (omega arith) q

pub least_some : (e : Sessions) → held e < e.agreed → e.agreed ≤ 64 → least_free e ≡ 0 → ⊥
least_some e h a = least_pos (λ i. free (named e i)) 0 64 (le_trans h a)

-- the end with one more session of this serial
abbrev pub add : Sessions → Session → (ℕ → ℕ) → ℕ → (ℕ → ℕ) → Sessions
add e s ids generations serial_of = record e { session = updated e.session (suc e.made) s; made = suc e.made; at_id = ids; generations = generations; serial_of = serial_of }

pub record Added (e : Sessions) (s : Session) (ids : ℕ → ℕ) (generations : ℕ) (serial_of : ℕ → ℕ) : Type 0 where
  pub session_ok : SessionOk e.master s
  pub accounts : Accounts e.ceiling s
  -- the new session and those that weren't free are found by their ids
  pub new_id : free s ≡ false → ids s.id ≡ suc e.made
  pub old_ids : (k : ℕ) → free (e.session k) ≡ false → e.at_id (e.session k).id ≡ k → ids (e.session k).id ≡ k
  pub ids_made : (i : ℕ) → ids i ≤ suc e.made
  pub ids_found : (i : ℕ) → ids i ≢ 0 → (updated e.session (suc e.made) s (ids i)).id ≡ i
  -- it has no generation, or the next one
  pub generation : ((s.generation ≡ 0) × (generations ≡ e.generations) × ((g : ℕ) → serial_of g ≡ e.serial_of g) × (e.master ≡ true)) ⊎ ((s.generation ≡ suc e.generations) × (generations ≡ suc e.generations) × ((g : ℕ) → serial_of g ≡ updated e.serial_of (suc e.generations) (suc e.made) g))

-- at a serial that was made, nothing changes
pub add_old : (e : Sessions) (s : Session) (ids : ℕ → ℕ) (generations : ℕ) (serial_of : ℕ → ℕ) (k : ℕ) → k ≤ e.made → (add e s ids generations serial_of).session k ≡ e.session k
add_old e s ids generations serial_of k h = upd_other e.session (suc e.made) s k (λ q. absurd (omega arith))

fresh_gen : (e : Sessions) → EndOk e → (k : ℕ) → (e.session k).generation ≡ suc e.generations → ⊥
fresh_gen e ok k q =
    let w : e.serial_of (e.session k).generation ≡ k = ok.serial_found k (λ z. absurd (omega (arith, q, z))) in
    let z : k ≡ 0 = sym w ∙ ap e.serial_of q ∙ ok.serial_past (suc e.generations) (le_refl _) in
    let b : (e.session k).generation ≡ 0 = ap (λ n. (e.session n).generation) z ∙ ap (λ (s : Session). s.generation) ok.none in
    absurd (omega (arith, q, b))

pub added_ok : (e : Sessions) (s : Session) (ids : ℕ → ℕ) (generations : ℕ) (serial_of : ℕ → ℕ) → EndOk e → Added e s ids generations serial_of → EndOk (add e s ids generations serial_of)
added_ok e s ids generations serial_of ok a = record {
  agreed = ok.agreed;
  each = upd_all (λ z. SessionOk e.master z) e.session (suc e.made) s a.session_ok ok.each;
  accounts = upd_all (λ z. Accounts e.ceiling z) e.session (suc e.made) s a.accounts ok.accounts;
  holds = λ j. holds j (nat_eq j (suc e.made)) refl;
  at_made = a.ids_made;
  found = a.ids_found;
  generation_found = λ g h. generation_found g h;
  serial_found = λ k h. serial_found k (nat_eq k (suc e.made)) refl h;
  serial_zero = serial_zero;
  serial_past = serial_past;
  serial_made = serial_made;
  none = upd_other e.session (suc e.made) s 0 (λ q. absurd (omega arith)) ∙ ok.none;
  past = λ k h. upd_other e.session (suc e.made) s k (λ q. absurd (omega arith)) ∙ ok.past k (omega arith);
  all_named = λ m k i j. all_named m k (nat_eq k (suc e.made)) refl i j;
}
  where
    new : ℕ
    new = suc e.made

    holds : (j : ℕ) (b : Bool) → nat_eq j new ≡ b → free (cond b s (e.session j)) ≡ false → ids (cond b s (e.session j)).id ≡ j
    holds j true q h = a.new_id h ∙ sym (eqb-true j new q)
    holds j false q h = a.old_ids j h (ok.holds j h)

    old : (g : ℕ) → (updated e.session new s) (e.serial_of g) ≡ e.session (e.serial_of g)
    old g = add_old e s ids generations serial_of (e.serial_of g) (ok.serial_made g)

    generation_found : (g : ℕ) → serial_of g ≢ 0 → (updated e.session new s (serial_of g)).generation ≡ g
    generation_found g h = ⊎_elim {C = (updated e.session new s (serial_of g)).generation ≡ g}
        (λ p. ap (λ z. (updated e.session new s z).generation) (p.2 g) ∙ ap (λ (z : Session). z.generation) (old g) ∙ ok.generation_found g (λ z. h (p.2 g ∙ z)))
        (λ p. ap (λ z. (updated e.session new s z).generation) (p.2 g) ∙ at (nat_eq g (suc e.generations)) refl (λ z. h (p.2 g ∙ z)) p.0)
        a.generation
      where
        at : (b : Bool) → nat_eq g (suc e.generations) ≡ b → (cond b new (e.serial_of g) ≡ 0 → ⊥) → s.generation ≡ suc e.generations → (updated e.session new s (cond b new (e.serial_of g))).generation ≡ g
        at true q n p = ap (λ (z : Session). z.generation) (upd_same e.session new s) ∙ p ∙ sym (eqb-true g (suc e.generations) q)
        at false q n p = ap (λ (z : Session). z.generation) (old g) ∙ ok.generation_found g n

    serial_found : (k : ℕ) (b : Bool) → nat_eq k new ≡ b → (cond b s (e.session k)).generation ≢ 0 → serial_of (cond b s (e.session k)).generation ≡ k
    serial_found k true q h = ⊎_elim {C = serial_of s.generation ≡ k}
        (λ p. absurd (h p.0))
        (λ p. p.2 s.generation ∙ ap (updated e.serial_of (suc e.generations) new) p.0 ∙ upd_same e.serial_of (suc e.generations) new ∙ sym (eqb-true k new q))
        a.generation
    serial_found k false q h = ⊎_elim {C = serial_of (e.session k).generation ≡ k}
        (λ p. p.2 (e.session k).generation ∙ ok.serial_found k h)
        (λ p. p.2 (e.session k).generation ∙ upd_other e.serial_of (suc e.generations) new (e.session k).generation (fresh_gen e ok k) ∙ ok.serial_found k h)
        a.generation

    serial_zero : serial_of 0 ≡ 0
    serial_zero = ⊎_elim {C = serial_of 0 ≡ 0} (λ p. p.2 0 ∙ ok.serial_zero) (λ p. p.2 0 ∙ upd_other e.serial_of (suc e.generations) new 0 (λ q. absurd (omega arith)) ∙ ok.serial_zero) a.generation

    serial_past : (g : ℕ) → generations < g → serial_of g ≡ 0
    serial_past g h = ⊎_elim {C = serial_of g ≡ 0}
        (λ p. p.2 g ∙ ok.serial_past g (omega (arith, p.1)))
        (λ p. p.2 g ∙ upd_other e.serial_of (suc e.generations) new g (λ q. absurd (omega (arith, p.1))) ∙ ok.serial_past g (omega (arith, p.1)))
        a.generation

    serial_made : (g : ℕ) → serial_of g ≤ new
    serial_made g = ⊎_elim {C = serial_of g ≤ new}
        (λ p. omega (arith, p.2 g, ok.serial_made g))
        (λ p. subst (λ z. z ≤ new) (sym (p.2 g)) (upd_all (λ z. z ≤ new) e.serial_of (suc e.generations) new (le_refl _) (λ j. omega (arith, ok.serial_made j)) g))
        a.generation

    all_named : e.master ≡ false → (k : ℕ) (b : Bool) → nat_eq k new ≡ b → 0 < k → k ≤ new → (cond b s (e.session k)).generation ≢ 0
    all_named m k true q i j = ⊎_elim {C = s.generation ≢ 0} (λ p z. true≢false (sym p.3 ∙ m)) (λ p z. absurd (omega (arith, p.0, z))) a.generation
    all_named m k false q i j = ok.all_named m k i (omega (arith, eqb-false k new q))

-- the ids with one more
ids_ok : (e : Sessions) (s : Session) → EndOk e → s.id ≡ least_free e → (i : ℕ) → (updated e.at_id (least_free e) (suc e.made) i ≤ suc e.made) × (updated e.at_id (least_free e) (suc e.made) i ≢ 0 → (updated e.session (suc e.made) s (updated e.at_id (least_free e) (suc e.made) i)).id ≡ i)
ids_ok e s ok q i = go (nat_eq i (least_free e)) refl
  where
    go : (b : Bool) → nat_eq i (least_free e) ≡ b → (cond b (suc e.made) (e.at_id i) ≤ suc e.made) × (cond b (suc e.made) (e.at_id i) ≢ 0 → (updated e.session (suc e.made) s (cond b (suc e.made) (e.at_id i))).id ≡ i)
    go true h = (le_refl _, λ n. ap (λ (z : Session). z.id) (upd_same e.session (suc e.made) s) ∙ q ∙ sym (eqb-true i (least_free e) h))
    go false h = (omega (arith, ok.at_made i), λ n. ap (λ (z : Session). z.id) (upd_other e.session (suc e.made) s (e.at_id i) (λ w. absurd (omega (arith, ok.at_made i, w)))) ∙ ok.found i n)

ids_same : (e : Sessions) (s : Session) → EndOk e → (i : ℕ) → (e.at_id i ≤ suc e.made) × (e.at_id i ≢ 0 → (updated e.session (suc e.made) s (e.at_id i)).id ≡ i)
ids_same e s ok i = (omega (arith, ok.at_made i), λ n. ap (λ (z : Session). z.id) (upd_other e.session (suc e.made) s (e.at_id i) (λ w. absurd (omega (arith, ok.at_made i, w)))) ∙ ok.found i n)

-- the master connects
pub connect_added : (e : Sessions) (service : List ℕ) (request : Option ℕ) → e.master ≡ true → held e < e.agreed → EndOk e → Added e (new_call e service request) (updated e.at_id (least_free e) (suc e.made)) e.generations e.serial_of
connect_added e service request m h ok = record {
  session_ok = record { shape = tt; unnamed = λ z. refl; asked = λ z n. absurd (n refl); id_some = λ z. least_some e h ok.agreed; peer_some = λ z n. absurd (n refl); ask_out = λ z n. absurd (n refl); never_rejects = λ z n. absurd (false≢true n) };
  accounts = record { spends = omega arith; spent = omega arith; gives = omega arith; framed = ([], refl); taken = omega arith };
  new_id = λ f. upd_same e.at_id (least_free e) (suc e.made);
  old_ids = λ k f q. upd_other e.at_id (least_free e) (suc e.made) (e.session k).id (λ z. both_ways (free (e.session k)) f (sym (ap (λ n. free (e.session n)) (sym (ap e.at_id z) ∙ q)) ∙ least_is_free e h ok.agreed)) ∙ q;
  ids_made = λ i. (ids_ok e (new_call e service request) ok refl i).0;
  ids_found = λ i. (ids_ok e (new_call e service request) ok refl i).1;
  generation = inl (refl, refl, λ g. refl, m);
}

pub connect_ok : (e : Sessions) (service : List ℕ) (request : Option ℕ) → e.master ≡ true → held e < e.agreed → EndOk e → EndOk (connect e service request)
connect_ok e service request m h ok = added_ok e (new_call e service request) (updated e.at_id (least_free e) (suc e.made)) e.generations e.serial_of ok (connect_added e service request m h ok)

-- the slave hears an ask
pub ask_added : (e : Sessions) (from c size : ℕ) (service : List ℕ) (request : Option ℕ) → e.master ≡ false → (from ≡ 0 → ⊥) → EndOk e →
    (let x : Slot = Start 0 from c size service request in Added e (asked_session e x service request) (cond (nat_le e.agreed (held e)) e.at_id (updated e.at_id (least_free e) (suc e.made))) (suc e.generations) (updated e.serial_of (suc e.generations) (suc e.made)))
ask_added e from c size service request m src ok = record {
  session_ok = record { shape = tt; unnamed = λ z. absurd (omega (arith, z)); asked = λ z n. refl; id_some = λ z q. least_some e (leb-false e.agreed (held e) z) ok.agreed (sym (ap (λ b. cond b 0 (least_free e)) z) ∙ q); peer_some = λ z n. src; ask_out = λ z n. absurd (true≢false (sym z ∙ m)); never_rejects = λ z n. absurd (true≢false (sym z ∙ m)) };
  accounts = record { spends = omega arith; spent = omega arith; gives = omega arith; framed = ([], refl); taken = omega arith };
  new_id = new_id (nat_le e.agreed (held e));
  old_ids = λ k f q. old_ids (nat_le e.agreed (held e)) refl k f q;
  ids_made = λ i. (ids (nat_le e.agreed (held e)) refl i).0;
  ids_found = λ i. (ids (nat_le e.agreed (held e)) refl i).1;
  generation = inr (refl, refl, λ g. refl);
}
  where
    x : Slot
    x = Start 0 from c size service request

    ids : (b : Bool) → nat_le e.agreed (held e) ≡ b → (i : ℕ) → ((cond b e.at_id (updated e.at_id (least_free e) (suc e.made))) i ≤ suc e.made) × ((cond b e.at_id (updated e.at_id (least_free e) (suc e.made))) i ≢ 0 → (updated e.session (suc e.made) (asked_session e x service request) ((cond b e.at_id (updated e.at_id (least_free e) (suc e.made))) i)).id ≡ i)
    ids true w i = ids_same e (asked_session e x service request) ok i
    ids false w i = ids_ok e (asked_session e x service request) ok (ap (λ b. cond b 0 (least_free e)) w) i

    new_id : (b : Bool) → free (record (asked_session e x service request) { rejects = b }) ≡ false → (cond b e.at_id (updated e.at_id (least_free e) (suc e.made))) (cond b 0 (least_free e)) ≡ suc e.made
    new_id true f = absurd (true≢false f)
    new_id false f = upd_same e.at_id (least_free e) (suc e.made)

    old_ids : (b : Bool) → nat_le e.agreed (held e) ≡ b → (k : ℕ) → free (e.session k) ≡ false → e.at_id (e.session k).id ≡ k → (cond b e.at_id (updated e.at_id (least_free e) (suc e.made))) (e.session k).id ≡ k
    old_ids true w k f q = q
    old_ids false w k f q = upd_other e.at_id (least_free e) (suc e.made) (e.session k).id (λ z. both_ways (free (e.session k)) f (sym (ap (λ n. free (e.session n)) (sym (ap e.at_id z) ∙ q)) ∙ least_is_free e (leb-false e.agreed (held e) w) ok.agreed)) ∙ q

pub ask_ok : (e : Sessions) (from c size : ℕ) (service : List ℕ) (request : Option ℕ) → e.master ≡ false → (from ≡ 0 → ⊥) → EndOk e → EndOk (ask_in e (Start 0 from c size service request) service request)
ask_ok e from c size service request m src ok =
    let x : Slot = Start 0 from c size service request in
    added_ok e (asked_session e x service request) (cond (nat_le e.agreed (held e)) e.at_id (updated e.at_id (least_free e) (suc e.made))) (suc e.generations) (updated e.serial_of (suc e.generations) (suc e.made)) ok (ask_added e from c size service request m src ok)
