-- A slave has room for one more ask, where no session names its source.
use Rattle.std.proofs.Common.{◌≡◌, ◌≢◌, ℕ, zero, suc, ◌+◌, ◌-◌, ◌<◌, ◌≤◌, ⊎_elim, le_trans, sym, ap, ◌∙◌, refl, subst, arith, Bool, true, false, not, cond, ◌&&◌, ◌||◌, List, [], ◌∷◌, length, Option, Some, None, nat_eq, eqb-true, eq-eqb, ne_eqb, length-append}
use Rattle.std.proofs.lemmas.List.{length-map}
use Rattle.std.proofs.lemmas.Bool.{cases_lt, and_parts, and_from, or_left, or_right, or_cases, true≢false, false≢true, not-true, false_from_ne_true, eqb-false}
use Rattle.lat_model.specs.Lists.{upwards, keep, any_up_to}
use Rattle.lat_model.specs.sessions.Slots.{Slot, starts}
use Rattle.lat_model.specs.sessions.Session.{Session, gone, answered, waits, rejecting, peer}
use Rattle.lat_model.specs.sessions.Sessions.{Sessions}
use Rattle.lat_model.specs.sessions.Hearing.{names, hear_slot, ask_in, asked_session}
use Rattle.lat_model.specs.sessions.EndOk.{EndOk}
use Rattle.lat_model.specs.sessions.PeersApart.{PeersApart}
use Rattle.lat_model.proofs.sessions.Words.{not_blank}
use Rattle.lat_model.proofs.sessions.Alone.{hear_alone}
use Rattle.lat_model.proofs.sessions.Peers.{hear_apart}
use Rattle.lat_session.specs.Table.{ask_is_open, ask_of, open_asks}
use Rattle.lat_session.proofs.HearAsk.{asks_for, asks_more}

-- counting

none_kept : (p : ℕ → Bool) (k n : ℕ) → ((j : ℕ) → k < j → p j ≡ false) → length (keep p (upwards k n)) ≤ 0
none_kept p k zero h = omega arith
none_kept p k (suc n) h = go (p (suc k)) (h (suc k) (omega arith)) (none_kept p (suc k) n (λ j i. h j (omega (arith, i))))
  where
    go : (b : Bool) → b ≡ false → length (keep p (upwards (suc k) n)) ≤ 0 → length (cond b (suc k ∷ keep p (upwards (suc k) n)) (keep p (upwards (suc k) n))) ≤ 0
    go true e ih = absurd (true≢false e)
    go false e ih = ih

fewer_kept : (p q : ℕ → Bool) (k n : ℕ) → ((j : ℕ) → k < j → j ≤ k + n → p j ≡ true → q j ≡ true) → length (keep p (upwards k n)) ≤ length (keep q (upwards k n))
fewer_kept p q k zero h = omega arith
fewer_kept p q k (suc n) h = go (p (suc k)) (q (suc k)) (h (suc k) (omega arith) (omega arith)) (fewer_kept p q (suc k) n (λ j i l. h j (omega (arith, i)) (omega (arith, l))))
  where
    go : (a b : Bool) → (a ≡ true → b ≡ true) → length (keep p (upwards (suc k) n)) ≤ length (keep q (upwards (suc k) n)) → length (cond a (suc k ∷ keep p (upwards (suc k) n)) (keep p (upwards (suc k) n))) ≤ length (cond b (suc k ∷ keep q (upwards (suc k) n)) (keep q (upwards (suc k) n)))
    go true true i ih = omega (arith, ih)
    go true false i ih = absurd (false≢true (i refl))
    go false true i ih = omega (arith, ih)
    go false false i ih = ih

-- where at most one has the value v, all but one have another
all_but_one : (p : ℕ → Bool) (f : ℕ → ℕ) (v k n : ℕ) → ((i j : ℕ) → p i ≡ true → p j ≡ true → f i ≡ f j → i ≡ j) → length (keep p (upwards k n)) ≤ suc (length (keep (λ j. p j && not (nat_eq (f j) v)) (upwards k n)))
all_but_one p f v k zero h = omega arith
all_but_one p f v k (suc n) h = go (p (suc k)) (nat_eq (f (suc k)) v) refl refl (all_but_one p f v (suc k) n h)
  where
    q : ℕ → Bool
    q j = p j && not (nat_eq (f j) v)

    go : (a b : Bool) → p (suc k) ≡ a → nat_eq (f (suc k)) v ≡ b → length (keep p (upwards (suc k) n)) ≤ suc (length (keep (λ j. p j && not (nat_eq (f j) v)) (upwards (suc k) n))) → length (cond a (suc k ∷ keep p (upwards (suc k) n)) (keep p (upwards (suc k) n))) ≤ suc (length (cond (a && not b) (suc k ∷ keep (λ j. p j && not (nat_eq (f j) v)) (upwards (suc k) n)) (keep (λ j. p j && not (nat_eq (f j) v)) (upwards (suc k) n))))
    go true true e g ih =
        let l : length (keep p (upwards (suc k) n)) ≤ length (keep (λ j. p j && not (nat_eq (f j) v)) (upwards (suc k) n)) = fewer_kept p (λ j. p j && not (nat_eq (f j) v)) (suc k) n
        (λ j i l u. and_from (p j) (not (nat_eq (f j) v)) u (ap not (ne_eqb (f j) v (λ w. absurd (omega (arith, i, h (suc k) j e u (eqb-true (f (suc k)) v g ∙ sym w))))))) in
        omega (arith, l)
    go true false e g ih = omega (arith, ih)
    go false b e g ih = ih

at_most : (m : ℕ) (p : ℕ → Bool) (f : ℕ → ℕ) (k n : ℕ) → ((j : ℕ) → p j ≡ true → f j < m) → ((i j : ℕ) → p i ≡ true → p j ≡ true → f i ≡ f j → i ≡ j) → length (keep p (upwards k n)) ≤ m
at_most zero p f k n l h = none_kept p k n (λ j i. false_from_ne_true (p j) (λ e. absurd (omega (arith, l j e))))
at_most (suc m) p f k n l h =
    le_trans (all_but_one p f m k n h)
    (omega (
      arith,
      at_most m (λ j. p j && not (nat_eq (f j) m)) f k n
          (λ j e. omega (arith, l j (and_parts (p j) (not (nat_eq (f j) m)) e).0, eqb-false (f j) m (not-true (nat_eq (f j) m) (and_parts (p j) (not (nat_eq (f j) m)) e).1)))
          (λ i j u v w. h i j (and_parts (p i) (not (nat_eq (f i) m)) u).0 (and_parts (p j) (not (nat_eq (f j) m)) v).0 w),
    ))

pub asks_fit : (e : Sessions) → e.master ≡ false → EndOk e → PeersApart e → length (keep (ask_is_open e) (upwards 0 e.made)) ≤ 255
asks_fit e m ok a =
    le_trans (fewer_kept (ask_is_open e) p 0 e.made (λ j i l u. and_from (ask_is_open e j) (starts (e.session j).came) u ((ok.each j).asked m (ok.all_named m j i (omega (arith, l))))))
    (at_most 255 p f 0 e.made small same)
  where
    p : ℕ → Bool
    p k = ask_is_open e k && starts (e.session k).came

    f : ℕ → ℕ
    f k = peer (e.session k) - 1

    stays : (s : Session) → (waits s || rejecting s) ≡ true → (not (gone s) || rejecting s) ≡ true
    stays s u = ⊎_elim {C = (not (gone s) || rejecting s) ≡ true} (λ w. or_left (not (gone s)) (rejecting s) (and_parts (not (answered s)) (not (gone s)) w).1) (λ r. or_right (not (gone s)) (rejecting s) r) (or_cases (waits s) (rejecting s) u)

    named_by : (j : ℕ) → p j ≡ true → names (peer (e.session j)) (e.session j) ≡ true
    named_by j u =
        let s : Session = e.session j in
        let v : (ask_is_open e j ≡ true) × (starts s.came ≡ true) = and_parts (ask_is_open e j) (starts s.came) u in
        and_from (starts s.came) (nat_eq (peer s) (peer s) && (not (gone s) || rejecting s)) v.1
        (and_from (nat_eq (peer s) (peer s)) (not (gone s) || rejecting s) (eq-eqb (peer s) (peer s) refl) (stays s (and_parts (not e.master) (waits s || rejecting s) v.0).1))

    some : (j : ℕ) → p j ≡ true → peer (e.session j) ≢ 0
    some j u =
        let st : starts (e.session j).came ≡ true = (and_parts (ask_is_open e j) (starts (e.session j).came) u).1 in
        let made : j ≤ e.made = ⊎_elim {C = j ≤ e.made} (λ h. absurd (false≢true (sym (ap (λ (z : Session). starts z.came) (ok.past j h)) ∙ st))) (λ h. h) (cases_lt e.made j) in
        (ok.each j).peer_some m (ok.all_named m j (pos j (not_blank e (λ z. starts z.came ≡ true) (λ z. false≢true z) ok.none j st)) made)
      where
        pos : (i : ℕ) → (i ≡ 0 → ⊥) → 0 < i
        pos zero h = absurd (h refl)
        pos (suc i) h = omega arith

    less : (n : ℕ) → n ≢ 0 → n < 256 → n - 1 < 255
    less zero n h = absurd (n refl)
    less (suc k) n h = omega (arith, h)

    small : (j : ℕ) → p j ≡ true → f j < 255
    small j u = less (peer (e.session j)) (some j u) (a.low (peer (e.session j)) j (named_by j u))

    back : (n k : ℕ) → n ≢ 0 → k ≢ 0 → n - 1 ≡ k - 1 → k ≡ n
    back zero k n h w = absurd (n refl)
    back (suc i) zero n h w = absurd (h refl)
    back (suc i) (suc j) n h w = omega (arith, w)

    same : (i j : ℕ) → p i ≡ true → p j ≡ true → f i ≡ f j → i ≡ j
    same i j u v w =
        let q : peer (e.session j) ≡ peer (e.session i) = back (peer (e.session i)) (peer (e.session j)) (some i u) (some j v) w in
        a.one (peer (e.session i)) i j (named_by i u) (subst (λ z. names z (e.session j) ≡ true) q (named_by j v))

-- one more ask has room
pub asks_room : (e : Sessions) (from c size : ℕ) (service : List ℕ) (request : Option ℕ) → e.master ≡ false → EndOk e → PeersApart e → from ≢ 0 → from < 256 → any_up_to (λ k. names from (e.session k)) e.made ≡ false → length (open_asks e) < 255
asks_room e from c size service request m ok a some byte none =
    let x : Slot = asks_for from c size service request in
    let f : Sessions = ask_in e x service request in
    let h : hear_slot e x ≡ Some f = ap (λ b. cond b None (Some f)) (ap (λ b. b || any_up_to (λ k. names from (e.session k)) e.made) m ∙ none) in
    let most : length (keep (ask_is_open f) (upwards 0 f.made)) ≤ 255 = asks_fit f m (hear_alone e f x (λ q. some) ok h) (hear_apart e f x m ok a byte h) in
    omega (
      arith,
      most,
      length-map (keep (ask_is_open f) (upwards 0 f.made)) (λ k. ask_of (f.session k)),
      ap length (asks_more e from c size service request m),
      length-append (open_asks e) (ask_of (asked_session e x service request) ∷ []),
    )
