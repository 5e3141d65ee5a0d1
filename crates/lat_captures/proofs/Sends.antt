-- The checker stands for what is seen once an end has sent its next message.
use Rattle.std.proofs.Common.{◌≡◌, ℕ, ◌+◌, ◌-◌, ◌*◌, ◌<◌, ◌≤◌, sym, ap, ap₂, ◌∙◌, refl, arith, subst, Bool, true, false, cond, List, [], ◌∷◌, ◌++◌, length, take, drop, map, nat_le, append-nil, length-append}
use Rattle.std.specs.Prelude.{Option, Some, None}
use Rattle.std.proofs.lemmas.Bool.{leb-true, leb-false}
use Rattle.std.proofs.lemmas.List.{take-append-le, drop-drop, drop-append-le, drop-map, map-append, length-map, length-drop, length-take-le}
use Rattle.lat_model.specs.Lists.{Each}
use Rattle.lat_model.specs.sessions.Slots.{Slot, credits_of, credits}
use Rattle.lat_model.proofs.sessions.Words.{credits-append}
use Rattle.lat_captures.specs.Seen.{Seen, Both, own, Texts}
use Rattle.lat_captures.specs.Belonging.{all_slots, Owned, message_owned, master_owned}
use Rattle.lat_captures.specs.Legal.{given_to_master}
use Rattle.lat_captures.specs.Audit.{paid_test, spend_test}
use Rattle.lat_captures.proofs.Growing.{all_slots-append, master_owned-append, InReach}
use Rattle.lat_captures.specs.declared.slot.OwnedSlot.{OwnedSlot}
use Rattle.lat_captures.specs.declared.side.Side.{Side}
use Rattle.lat_captures.specs.declared.checker.Checker.{Checker}
use Rattle.lat_captures.specs.Facts.{facts_of, owned_slot_of}
use Rattle.lat_captures.specs.Recent.{Message, last_eight, pushed}
use Rattle.lat_captures.specs.Sums.{Sums, sums_of, forms_all}
use Rattle.lat_captures.specs.Stands.{Holds, master_lists, slave_lists, SideStands, Bounded, Stands}
use Rattle.lat_captures.specs.Steps.{sending, SendsNext}
use Rattle.lat_captures.proofs.Holding.{each_push}
use Rattle.lat_captures.proofs.Lists.{master_lists_push}
use Rattle.lat_captures.proofs.Messages.{master_gives, all_sent, MasterFormsAll, holds_master_forms_all}
use Rattle.lat_captures.proofs.Growth.{with_message, Keeps, in_reach, keeps_message, holds_again, slave_lists_again, master_lists_again, master_owned_again}

-- the last eight of one more

pub pushed_eight : {X : Type 0} (xs : List X) (x : X) → pushed (last_eight xs) x ≡ last_eight (xs ++ x ∷ [])
pushed_eight {X} xs x = go (nat_le 8 (length (last_eight xs))) refl
  where
    n : ℕ
    n = length xs

    long : length (last_eight xs) ≡ n - (n - 8)
    long = length-drop (n - 8) xs

    more : length (xs ++ x ∷ []) ≡ n + 1
    more = length-append xs (x ∷ [])

    go : (c : Bool) → nat_le 8 (length (last_eight xs)) ≡ c → cond c (drop 1 (last_eight xs)) (last_eight xs) ++ x ∷ [] ≡ last_eight (xs ++ x ∷ [])
    go true e =
        let full : 8 ≤ n = let l : 8 ≤ length (last_eight xs) = leb-true 8 (length (last_eight xs)) e in omega (arith, l, long) in
        let at : n - 8 + 1 ≡ length (xs ++ x ∷ []) - 8 = omega (arith, more, full) in
        let in_front : length (xs ++ x ∷ []) - 8 ≤ length xs = omega (arith, more, full) in
        ap (λ z. z ++ x ∷ []) (drop-drop 1 (n - 8) xs ∙ ap (λ z. drop z xs) at) ∙ sym (drop-append-le (length (xs ++ x ∷ []) - 8) xs (x ∷ []) in_front)
    go false e =
        let few : n < 8 = let l : length (last_eight xs) < 8 = leb-false 8 (length (last_eight xs)) e in omega (arith, l, long) in
        let here : n - 8 ≡ 0 = omega (arith, few) in
        let there : 0 ≡ length (xs ++ x ∷ []) - 8 = omega (arith, more, few) in
        ap (λ z. drop z xs ++ x ∷ []) here ∙ ap (λ z. drop z (xs ++ x ∷ [])) there

map_pushed : {X Y : Type 0} (f : X → Y) (xs : List X) (x : X) → map f (pushed xs x) ≡ pushed (map f xs) (f x)
map_pushed f xs x = map-append f (cond (nat_le 8 (length xs)) (drop 1 xs) xs) (x ∷ []) ∙ ap (λ z. z ++ f x ∷ []) (go (nat_le 8 (length xs)) ∙ ap (λ n. cond (nat_le 8 n) (drop 1 (map f xs)) (map f xs)) (sym (length-map xs f)))
  where
    go : (c : Bool) → map f (cond c (drop 1 xs) xs) ≡ cond c (drop 1 (map f xs)) (map f xs)
    go true = sym (drop-map f 1 xs)
    go false = refl

-- a side that sent a message

pub side_sends : (tell : List ℕ → List Slot) (s : Side) (seen : Seen) (texts : List (List ℕ)) (lists more : List (List Owned)) (text : List ℕ) (xs : List Slot) (kept : List OwnedSlot) (os : List Owned) (bs : List ℕ)
    → more ≡ lists ++ os ∷ [] → kept ≡ map owned_slot_of os → tell text ≡ xs → SideStands tell s seen texts lists
    → SideStands tell (sending s text kept) (record { messages = seen.messages ++ xs ∷ []; beside = bs; acknowledged = seen.acknowledged }) (texts ++ text ∷ []) more
side_sends tell s seen texts lists more text xs kept os bs e k t h = record {
  count = ap (λ z. z + 1) h.count ∙ sym (length-append seen.messages (xs ∷ []));
  acknowledged = h.acknowledged;
  reads = map-append tell texts (text ∷ []) ∙ ap₂ (λ u v. u ++ v ∷ []) h.reads t;
  texts_are = map_pushed (λ (m : Message). m.text) s.recent (record { text = text; slots = kept }) ∙ ap (λ z. pushed z text) h.texts_are ∙ pushed_eight texts text;
  slots_are =
      map_pushed (λ (m : Message). m.slots) s.recent (record { text = text; slots = kept }) ∙ ap₂ pushed h.slots_are k ∙ pushed_eight (map (map owned_slot_of) lists) (map owned_slot_of os)
      ∙ ap last_eight (sym (map-append (map owned_slot_of) lists (os ∷ [])) ∙ ap (map (map owned_slot_of)) (sym e));
}

-- what stands beside more messages than there are isn't looked at
owned_few : (b : Both) (ms : List (List Slot)) (bs cs : List ℕ) → length ms ≤ length bs → master_owned b ms (bs ++ cs) ≡ master_owned b ms bs
owned_few b [] bs cs l = refl
owned_few b (m ∷ ms) [] cs l = absurd (omega (arith, l))
owned_few b (m ∷ ms) (a ∷ bs) cs l = ap (λ z. message_owned b a m ++ z) (owned_few b ms bs cs (omega (arith, l)))

sent_all : (b : Both) (a : ℕ) (xs : List Slot) → message_owned b a xs ≡ all_sent b (all_slots (take a b.slave.messages)) xs
sent_all b a [] = refl
sent_all b a (x ∷ xs) = ap₂ (λ u v. u ∷ v) refl (sent_all b a xs)

pub each_grown : (n : ℕ) (bs : List ℕ) → Each (λ a. a ≤ n) bs → Each (λ a. a ≤ n) (bs ++ n ∷ [])
each_grown n bs e = each_push (λ a. a ≤ n) bs n e (omega arith)

credits_few : (xs : List Slot) → Each (λ x. credits_of x ≤ 255) xs → credits xs ≤ 255 * length xs
credits_few [] e = omega arith
credits_few (x ∷ xs) e = omega (arith, e.0, credits_few xs e.1)

-- a message has 255 slots at most, and each gives 255 credits at most
pub record IsSmall (xs : List Slot) : Type 0 where
  pub few : length xs ≤ 255
  pub low : Each (λ x. credits_of x ≤ 255) xs

pub bounded_more : (seen : Seen) (runs : ℕ) (xs : List Slot) (bs : List ℕ) (a : ℕ) → IsSmall xs → Bounded seen runs → Bounded (record { messages = seen.messages ++ xs ∷ []; beside = bs; acknowledged = a }) (runs + 1)
bounded_more seen runs xs bs a small h =
    let whole : all_slots (seen.messages ++ xs ∷ []) ≡ all_slots seen.messages ++ xs = all_slots-append seen.messages (xs ∷ []) ∙ ap (λ z. all_slots seen.messages ++ z) (append-nil xs) in
    record {
      messages = omega (arith, length-append seen.messages (xs ∷ []), h.messages);
      slots = omega (arith, ap length whole, length-append (all_slots seen.messages) xs, small.few, h.slots);
      credits = omega (arith, ap credits whole, credits-append (all_slots seen.messages) xs, credits_few xs small.low, small.few, h.credits);
    }

pub bounded_later : (seen : Seen) (runs : ℕ) → Bounded seen runs → Bounded seen (runs + 1)
bounded_later seen runs h = record { messages = omega (arith, h.messages); slots = omega (arith, h.slots); credits = omega (arith, h.credits) }

-- the master sends

-- with one more text
abbrev pub with_text : Bool → Texts → List ℕ → Texts
with_text true x text = record { master = x.master ++ text ∷ []; slave = x.slave }
with_text false x text = record { master = x.master; slave = x.slave ++ text ∷ [] }

-- an end sends what could be formed: its sessions have the credits, and the checker stands for what is seen then; or they haven't
abbrev pub SentAs : Bool → (List ℕ → List Slot) → Checker → Both → Texts → ℕ → List ℕ → List Slot → Option (Sums × List OwnedSlot) → Type 0
SentAs m tell c b x a text xs None = spend_test m (with_message m b xs a) (own b m) a xs ≡ false
SentAs m tell c b x a text xs (Some r) =
    (spend_test m (with_message m b xs a) (own b m) a xs ≡ true)
    × ((d : Checker) → SendsNext m c d text r.0 r.1 → Stands tell d (with_message m b xs a) (with_text m x text))

pub master_sends : (tell : List ℕ → List Slot) (c : Checker) (b : Both) (x : Texts) (text : List ℕ) (xs : List Slot) → Stands tell c b x → tell text ≡ xs → IsSmall xs
    → length b.master.messages + 1 ≤ b.slave.acknowledged + 8 → SentAs true tell c b x b.master.acknowledged text xs (forms_all true c.places (sums_of c.accounts) (map facts_of xs))
master_sends tell c b x text xs h told small window = go (forms_all true c.places (sums_of c.accounts) (map facts_of xs)) (holds_master_forms_all b2 (all_slots ss) ys os ts xs c.places (sums_of c.accounts) held)
  where
    ms : List (List Slot)
    ms = b.master.messages

    bs : List ℕ
    bs = b.master.beside

    ss : List (List Slot)
    ss = b.slave.messages

    a : ℕ
    a = b.master.acknowledged

    b2 : Both
    b2 = with_message true b xs a

    reach : InReach b
    reach = in_reach b h.master_shows h.slave_shows

    keep : Keeps b b2
    keep = keeps_message true b xs a reach

    ys : List Slot
    ys = all_slots (take a ss)

    os : List Owned
    os = master_owned b ms bs

    ts : List Owned
    ts = master_owned b (take b.slave.acknowledged ms) bs

    held : Holds b2 (all_slots ss) ys os ts (sums_of c.accounts)
    held = holds_again b b2 (all_slots ss) ys os ts (sums_of c.accounts) keep (omega arith) h.sums

    again : master_owned b2 ms bs ≡ os
    again = master_owned_again b b2 ms bs keep reach.near_master

    test : paid_test (given_to_master b2 a) (master_owned b2 ms bs) (message_owned b2 a xs) ≡ paid_test (master_gives b2 ys) os (all_sent b2 ys xs)
    test = ap₂ (λ u v. paid_test (master_gives b2 ys) u v) again (sent_all b2 a xs)

    all : os ++ all_sent b2 ys xs ≡ master_owned b2 (ms ++ xs ∷ []) (bs ++ a ∷ [])
    all = sym (
        master_owned-append b2 ms (xs ∷ []) bs (a ∷ []) h.master_shows.each
        ∙ ap₂ (λ u v. u ++ v) again (append-nil (message_owned b2 a xs) ∙ sent_all b2 a xs)
        )

    taken : ts ≡ master_owned b2 (take b.slave.acknowledged (ms ++ xs ∷ [])) (bs ++ a ∷ [])
    taken = sym (
        ap (λ z. master_owned b2 z (bs ++ a ∷ [])) (take-append-le b.slave.acknowledged ms (xs ∷ []) h.slave_shows.sent)
        ∙ owned_few b2 (take b.slave.acknowledged ms) bs (a ∷ []) (omega (arith, length-take-le b.slave.acknowledged ms h.slave_shows.sent, h.slave_shows.sent, h.master_shows.each))
        ∙ master_owned_again b b2 (take b.slave.acknowledged ms) bs keep reach.near_master
        )

    lists : master_lists b2 (ms ++ xs ∷ []) (bs ++ a ∷ []) ≡ master_lists b ms bs ++ message_owned b2 a xs ∷ []
    lists = master_lists_push b2 ms bs xs a h.master_shows.each ∙ ap (λ z. z ++ message_owned b2 a xs ∷ []) (master_lists_again b b2 ms bs keep reach.near_master)

    stands : (r : Sums × List OwnedSlot) → r.1 ≡ map owned_slot_of (all_sent b2 ys xs) → Holds b2 (all_slots ss) ys (os ++ all_sent b2 ys xs) ts r.0 → (d : Checker) → SendsNext true c d text r.0 r.1
        → Stands tell d b2 (record { master = x.master ++ text ∷ []; slave = x.slave })
    stands r kept sums d k = record {
      master = subst (λ s. SideStands tell s b2.master (x.master ++ text ∷ []) (master_lists b2 (ms ++ xs ∷ []) (bs ++ a ∷ []))) (sym k.own)
          (side_sends tell c.master b.master x.master (master_lists b ms bs) (master_lists b2 (ms ++ xs ∷ []) (bs ++ a ∷ [])) text xs r.1 (message_owned b2 a xs) (bs ++ a ∷ []) lists (kept ∙ ap (map owned_slot_of) (sym (sent_all b2 a xs))) told h.master);
      slave = subst (λ s. SideStands tell s b.slave x.slave (slave_lists b2 [] ss)) (sym k.other) (subst (SideStands tell c.slave b.slave x.slave) (sym (slave_lists_again b b2 [] ss keep (omega arith))) h.slave);
      sums = subst (Holds b2 (all_slots ss) ys (master_owned b2 (ms ++ xs ∷ []) (bs ++ a ∷ [])) (master_owned b2 (take b.slave.acknowledged (ms ++ xs ∷ [])) (bs ++ a ∷ []))) (sym k.sums_are)
          (subst (λ z. Holds b2 (all_slots ss) ys z (master_owned b2 (take b.slave.acknowledged (ms ++ xs ∷ [])) (bs ++ a ∷ [])) r.0) all (subst (λ z. Holds b2 (all_slots ss) ys (os ++ all_sent b2 ys xs) z r.0) taken sums));
      places = k.places ∙ h.places;
      master_shows = record {
        sent = h.master_shows.sent;
        near = h.master_shows.near;
        each = length-append bs (a ∷ []) ∙ ap (λ z. z + 1) h.master_shows.each ∙ sym (length-append ms (xs ∷ []));
        rising = each_grown a bs h.master_shows.rising;
      };
      slave_shows = record {
        sent = omega (arith, length-append ms (xs ∷ []), h.slave_shows.sent);
        near = omega (arith, length-append ms (xs ∷ []), window);
        each = h.slave_shows.each;
        rising = h.slave_shows.rising;
      };
      master_bounded = subst (Bounded b2.master) (sym k.runs) (bounded_more b.master c.runs xs (bs ++ a ∷ []) a small h.master_bounded);
      slave_bounded = subst (Bounded b2.slave) (sym k.runs) (bounded_later b.slave c.runs h.slave_bounded);
    }

    go : (q : Option (Sums × List OwnedSlot)) → MasterFormsAll b2 (all_slots ss) ys os ts xs q → SentAs true tell c b x a text xs q
    go None w = test ∙ w
    go (Some r) w = (test ∙ w.0, stands r w.1 w.2)
