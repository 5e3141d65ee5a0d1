-- The checker stands for what is seen once the slave has sent its next message, and so for either end.
use Rattle.std.proofs.Common.{◌≡◌, ◌≢◌, ℕ, zero, suc, ◌+◌, ◌-◌, ◌<◌, ◌≤◌, sym, ap, ap₂, ◌∙◌, refl, arith, subst, Bool, true, false, not, cond, List, [], ◌∷◌, ◌++◌, length, take, drop, map, nat_eq, nat_le, append_assoc, append-nil, length-append}
use Rattle.std.specs.Prelude.{Option, Some, None}
use Rattle.std.proofs.lemmas.Bool.{leb-true, le-leb}
use Rattle.std.proofs.lemmas.List.{take-append-drop, take-append-le, length-take-le}
use Rattle.lat_model.specs.sessions.Slots.{Slot, destination, credits_of, credits}
use Rattle.lat_captures.specs.Seen.{Both, own, Texts}
use Rattle.lat_captures.specs.Belonging.{all_slots, place_on, last_place, word_at, beside_at, asks_as, ask_of, session_at, Owned, of_session, slave_owned, master_owned, ask_credits}
use Rattle.lat_captures.specs.Legal.{given_to_slave}
use Rattle.lat_captures.specs.Audit.{paid_test}
use Rattle.lat_captures.proofs.Growing.{all_slots-append, word_more, place_bound, InReach}
use Rattle.lat_captures.specs.declared.slot.OwnedSlot.{OwnedSlot}
use Rattle.lat_captures.specs.declared.checker.Checker.{Checker}
use Rattle.lat_captures.specs.Facts.{facts_of, owned_slot_of}
use Rattle.lat_captures.specs.Sums.{Sums, greatest, opening, sums_of, forms_all}
use Rattle.lat_captures.specs.Stands.{last_ask, Holds, master_lists, slave_lists, SideStands, Bounded, Stands}
use Rattle.lat_captures.specs.Steps.{SendsNext}
use Rattle.lat_captures.proofs.Holding.{differ_false}
use Rattle.lat_captures.proofs.Formings.{Opens}
use Rattle.lat_captures.proofs.Lists.{slave_lists_push, slots_in, slots_in-master}
use Rattle.lat_captures.proofs.Messages.{slave_gives, SlaveFormsAll, OpensAll, holds_slave_forms_all}
use Rattle.lat_captures.proofs.Growth.{with_ack, with_message, Keeps, in_reach, keeps_message, holds_again, slave_lists_again, master_lists_again, master_owned_again}
use Rattle.lat_captures.proofs.Acks.{runs_fit}
use Rattle.lat_captures.proofs.Sends.{side_sends, each_grown, IsSmall, bounded_more, bounded_later, SentAs, master_sends}

-- the slot behind others, and what stands beside the last message

word_here : (w : Slot → ℕ) (front : List Slot) (x : Slot) (rest : List Slot) → word_at w (front ++ x ∷ rest) (suc (length front)) ≡ w x
word_here w [] x rest = refl
word_here w (y ∷ front) x rest = word_here w front x rest

beside_last : (ms : List (List Slot)) (bs : List ℕ) (m : List Slot) (a r : ℕ) → length bs ≡ length ms → length (all_slots ms) < r → r ≤ length (all_slots ms) + length m → beside_at (ms ++ m ∷ []) (bs ++ a ∷ []) r ≡ a
beside_last [] [] m a r e l k = ap (λ c. cond c a (beside_at [] [] (r - length m))) (le-leb r (length m) (omega (arith, k)))
beside_last [] (c ∷ bs) m a r e l k = absurd (omega (arith, e))
beside_last (n ∷ ms) [] m a r e l k = absurd (omega (arith, e))
beside_last (n ∷ ms) (c ∷ bs) m a r e l k =
    let long : length (n ++ all_slots ms) ≡ length n + length (all_slots ms) = length-append n (all_slots ms) in
    let past : nat_le r (length n) ≡ false = later (nat_le r (length n)) refl (omega (arith, l, long)) in
    ap (λ d. cond d c (beside_at (ms ++ m ∷ []) (bs ++ a ∷ []) (r - length n))) past
    ∙ beside_last ms bs m a (r - length n) (omega (arith, e)) (omega (arith, l, long)) (omega (arith, k, long))
  where
    later : (d : Bool) → nat_le r (length n) ≡ d → length n < r → d ≡ false
    later true q h = absurd (let j : r ≤ length n = leb-true r (length n) q in omega (arith, j, h))
    later false q h = refl

-- the last ask among slots with sessions is that of the places

abbrev pub AskAt : ℕ → List Owned → Option ℕ → Type 0
AskAt y os None = last_place (asks_as y) (slots_in os) ≡ 0
AskAt y os (Some c) = (last_place (asks_as y) (slots_in os) ≢ 0) × (word_at credits_of (slots_in os) (last_place (asks_as y) (slots_in os)) ≡ c)

ask_at : (y : ℕ) (os : List Owned) → AskAt y os (last_ask y os)
ask_at y [] = refl
ask_at y (o ∷ os) = go (last_ask y os) (ask_at y os)
  where
    or_this : Option ℕ → Option ℕ
    or_this (Some c) = Some c
    or_this None = cond (asks_as y o.slot) (Some (credits_of o.slot)) None

    k : ℕ
    k = last_place (asks_as y) (slots_in os)

    go : (q : Option ℕ) → AskAt y os q → AskAt y (o ∷ os) (or_this q)
    go (Some c) w = at k refl
      where
        at : (n : ℕ) → k ≡ n → AskAt y (o ∷ os) (Some c)
        at zero e = absurd (w.0 e)
        at (suc n) e =
            let here : place_on (asks_as y o.slot) k ≡ suc (suc n) = ap (place_on (asks_as y o.slot)) e in
            (λ z. omega (arith, z, here), ap (word_at credits_of (o.slot ∷ slots_in os)) here ∙ ap (word_at credits_of (slots_in os)) (sym e) ∙ w.1)
    go None w = at (asks_as y o.slot) refl
      where
        at : (c : Bool) → asks_as y o.slot ≡ c → AskAt y (o ∷ os) (cond c (Some (credits_of o.slot)) None)
        at true e =
            let here : place_on (asks_as y o.slot) k ≡ 1 = ap₂ place_on e w in
            (λ z. omega (arith, z, here), ap (word_at credits_of (o.slot ∷ slots_in os)) here)
        at false e = ap₂ place_on e w

-- a reply opens its session with the credits of its ask

opens_at : (b : Both) (p : ℕ) (q : Option ℕ) → (q ≡ None → ask_of b p ≡ 0) → ((c : ℕ) → q ≡ Some c → (ask_of b p ≢ 0) × (ask_credits b p ≡ c)) → Opens b p (opening p q)
opens_at b p None none some =
    let zero_at : session_at b p ≡ 0 = ap (λ z. cond (nat_eq z 0) 0 p) (none refl) in
    record { session = sym zero_at; given = λ n. absurd (n zero_at); spent = λ n. absurd (n zero_at) }
opens_at b p (Some c) none some =
    let w = some c refl in
    let here : session_at b p ≡ p = ap (λ z. cond z 0 p) (differ_false (ask_of b p) 0 w.0) in
    record { session = sym here; given = λ n. sym w.1 ∙ ap (ask_credits b) (sym here); spent = λ n. refl }

length_kept : (b : Both) (front xs : List Slot) → length (map owned_slot_of (slave_owned b front xs)) ≡ length xs
length_kept b front [] = refl
length_kept b front (x ∷ xs) = ap suc (length_kept b (front ++ x ∷ []) xs)

-- the slave sends

slave_sends : (tell : List ℕ → List Slot) (c : Checker) (b : Both) (x : Texts) (text : List ℕ) (xs : List Slot) → Stands tell c b x → runs_fit c → tell text ≡ xs → IsSmall xs
    → length b.slave.messages + 1 ≤ b.master.acknowledged + 8 → SentAs false tell c b x b.slave.acknowledged text xs (forms_all false c.places (sums_of c.accounts) (map facts_of xs))
slave_sends tell c b x text xs h fit told small window =
    go (forms_all false c.places (sums_of c.accounts) (map facts_of xs)) (holds_slave_forms_all b2 front ys os ts xs c.places (sums_of c.accounts) held h.places room opens)
  where
    ms : List (List Slot)
    ms = b.master.messages

    bs : List ℕ
    bs = b.master.beside

    ss : List (List Slot)
    ss = b.slave.messages

    a : ℕ
    a = b.slave.acknowledged

    front : List Slot
    front = all_slots ss

    b2 : Both
    b2 = with_message false b xs a

    reach : InReach b
    reach = in_reach b h.master_shows h.slave_shows

    keep : Keeps b b2
    keep = keeps_message false b xs a reach

    ys : List Slot
    ys = all_slots (take b.master.acknowledged ss)

    os : List Owned
    os = master_owned b ms bs

    ts : List Owned
    ts = master_owned b (take a ms) bs

    room : length front + length xs ≤ greatest
    room = omega (arith, h.slave_bounded.slots, small.few, fit)

    held : Holds b2 front ys os ts (sums_of c.accounts)
    held = holds_again b b2 front ys os ts (sums_of c.accounts) keep (omega arith) h.sums

    again : os ≡ master_owned b2 ms bs
    again = sym (master_owned_again b b2 ms bs keep reach.near_master)

    taken : ts ≡ master_owned b2 (take a ms) bs
    taken = sym (master_owned_again b b2 (take a ms) bs keep reach.near_master)

    whole : all_slots (ss ++ xs ∷ []) ≡ front ++ xs
    whole = all_slots-append ss (xs ∷ []) ∙ ap (λ z. front ++ z) (append-nil xs)

    heard : slots_in ts ≡ all_slots (take a ms)
    heard = slots_in-master b (take a ms) bs (omega (arith, length-take-le a ms h.slave_shows.sent, h.slave_shows.sent, h.master_shows.each))

    opens : OpensAll b2 front ts xs
    opens done y rest e r = opens_at b2 p (last_ask (destination y) ts) (λ q. none q) (λ k q. some k q)
      where
        p : ℕ
        p = suc (length (front ++ done))

        word : word_at destination (all_slots (ss ++ xs ∷ [])) p ≡ destination y
        word = ap (λ z. word_at destination z p) (whole ∙ ap (λ z. front ++ z) e ∙ sym (append_assoc front done (y ∷ rest))) ∙ word_here destination (front ++ done) y rest

        beside : beside_at (ss ++ xs ∷ []) (b.slave.beside ++ a ∷ []) p ≡ a
        beside = beside_last ss b.slave.beside xs a p h.slave_shows.each (omega (arith, length-append front done)) (omega (arith, length-append front done, ap length e, length-append done (y ∷ rest)))

        asked : ask_of b2 p ≡ last_place (asks_as (destination y)) (slots_in ts)
        asked = ap₂ (λ u v. last_place (asks_as u) (all_slots (take v ms))) word beside ∙ ap (last_place (asks_as (destination y))) (sym heard)

        none : last_ask (destination y) ts ≡ None → ask_of b2 p ≡ 0
        none q = asked ∙ subst (AskAt (destination y) ts) q (ask_at (destination y) ts)

        some : (k : ℕ) → last_ask (destination y) ts ≡ Some k → (ask_of b2 p ≢ 0) × (ask_credits b2 p ≡ k)
        some k q =
            let w : AskAt (destination y) ts (Some k) = subst (AskAt (destination y) ts) q (ask_at (destination y) ts) in
            let split : all_slots ms ≡ slots_in ts ++ all_slots (drop a ms) = ap all_slots (sym (take-append-drop a ms)) ∙ all_slots-append (take a ms) (drop a ms) ∙ ap (λ z. z ++ all_slots (drop a ms)) (sym heard) in (
              λ z. w.0 (sym asked ∙ z),
              ap₂ (λ u v. word_at credits_of u v) split asked
                  ∙ word_more credits_of (slots_in ts) (all_slots (drop a ms)) (last_place (asks_as (destination y)) (slots_in ts)) (place_bound (asks_as (destination y)) (slots_in ts))
                  ∙ w.1,
            )

    test : paid_test (given_to_slave b2 a) (slave_owned b2 [] front) (slave_owned b2 front xs) ≡ paid_test (slave_gives b2 ts) (slave_owned b2 [] front) (slave_owned b2 front xs)
    test = ap (λ z. paid_test (λ r. ask_credits b2 r + credits (of_session r z)) (slave_owned b2 [] front) (slave_owned b2 front xs)) (sym taken)

    lists : slave_lists b2 [] (ss ++ xs ∷ []) ≡ slave_lists b [] ss ++ slave_owned b2 front xs ∷ []
    lists = slave_lists_push b2 [] ss xs ∙ ap (λ z. z ++ slave_owned b2 front xs ∷ []) (slave_lists_again b b2 [] ss keep (omega arith))

    stands : (r : Sums × List OwnedSlot) → r.1 ≡ map owned_slot_of (slave_owned b2 front xs) → Holds b2 (front ++ xs) ys os ts r.0 → (d : Checker) → SendsNext false c d text r.0 r.1
        → Stands tell d b2 (record { master = x.master; slave = x.slave ++ text ∷ [] })
    stands r kept sums d k = record {
      master = subst (λ s. SideStands tell s b.master x.master (master_lists b2 ms bs)) (sym k.other) (subst (SideStands tell c.master b.master x.master) (sym (master_lists_again b b2 ms bs keep reach.near_master)) h.master);
      slave = subst (λ s. SideStands tell s b2.slave (x.slave ++ text ∷ []) (slave_lists b2 [] (ss ++ xs ∷ []))) (sym k.own)
          (side_sends tell c.slave b.slave x.slave (slave_lists b [] ss) (slave_lists b2 [] (ss ++ xs ∷ [])) text xs r.1 (slave_owned b2 front xs) (b.slave.beside ++ a ∷ []) lists kept told h.slave);
      sums = subst (Holds b2 (all_slots (ss ++ xs ∷ [])) (all_slots (take b.master.acknowledged (ss ++ xs ∷ []))) (master_owned b2 ms bs) (master_owned b2 (take a ms) bs)) (sym k.sums_are)
          (subst (λ z. Holds b2 z (all_slots (take b.master.acknowledged (ss ++ xs ∷ []))) (master_owned b2 ms bs) (master_owned b2 (take a ms) bs) r.0) (sym whole)
          (subst (λ z. Holds b2 (front ++ xs) (all_slots z) (master_owned b2 ms bs) (master_owned b2 (take a ms) bs) r.0) (sym (take-append-le b.master.acknowledged ss (xs ∷ []) h.master_shows.sent))
          (subst (λ z. Holds b2 (front ++ xs) ys z (master_owned b2 (take a ms) bs) r.0) again (subst (λ z. Holds b2 (front ++ xs) ys os z r.0) taken sums))));
      places = k.places ∙ (let long : length r.1 ≡ length xs = ap length kept ∙ length_kept b2 front xs in omega (arith, h.places, long, room, ap length whole, length-append front xs));
      master_shows = record {
        sent = omega (arith, length-append ss (xs ∷ []), h.master_shows.sent);
        near = omega (arith, length-append ss (xs ∷ []), window);
        each = h.master_shows.each;
        rising = h.master_shows.rising;
      };
      slave_shows = record {
        sent = h.slave_shows.sent;
        near = h.slave_shows.near;
        each = length-append b.slave.beside (a ∷ []) ∙ ap (λ z. z + 1) h.slave_shows.each ∙ sym (length-append ss (xs ∷ []));
        rising = each_grown a b.slave.beside h.slave_shows.rising;
      };
      master_bounded = subst (Bounded b2.master) (sym k.runs) (bounded_later b.master c.runs h.master_bounded);
      slave_bounded = subst (Bounded b2.slave) (sym k.runs) (bounded_more b.slave c.runs xs (b.slave.beside ++ a ∷ []) a small h.slave_bounded);
    }

    go : (q : Option (Sums × List OwnedSlot)) → SlaveFormsAll b2 front ys os ts xs q → SentAs false tell c b x a text xs q
    go None w = test ∙ w
    go (Some r) w = (test ∙ w.0, stands r w.1 w.2)

-- an end sends behind an acknowledgement

pub sends : (m : Bool) (tell : List ℕ → List Slot) (c : Checker) (b : Both) (x : Texts) (a : ℕ) (text : List ℕ) (xs : List Slot) → Stands tell c (with_ack m b a) x → runs_fit c → tell text ≡ xs → IsSmall xs
    → length (own b m).messages + 1 ≤ (own b (not m)).acknowledged + 8 → SentAs m tell c b x a text xs (forms_all m c.places (sums_of c.accounts) (map facts_of xs))
sends true tell c b x a text xs h fit told small window =
    at (forms_all true c.places (sums_of c.accounts) (map facts_of xs)) (master_sends tell c (with_ack true b a) x text xs h told small window)
  where
    at : (q : Option (Sums × List OwnedSlot)) → SentAs true tell c (with_ack true b a) x a text xs q → SentAs true tell c b x a text xs q
    at None w = w
    at (Some r) w = w
sends false tell c b x a text xs h fit told small window =
    at (forms_all false c.places (sums_of c.accounts) (map facts_of xs)) (slave_sends tell c (with_ack false b a) x text xs h fit told small window)
  where
    at : (q : Option (Sums × List OwnedSlot)) → SentAs false tell c (with_ack false b a) x a text xs q → SentAs false tell c b x a text xs q
    at None w = w
    at (Some r) w = w
