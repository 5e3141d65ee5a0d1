-- The checker stands for what is seen once an end has acknowledged more messages.
use Rattle.std.proofs.Common.{◌≡◌, ℕ, zero, suc, ◌+◌, ◌-◌, ◌^◌, ◌<◌, ◌≤◌, le_trans, sym, ap, ap₂, ◌∙◌, refl, arith, subst, Bool, true, false, not, cond, List, [], ◌∷◌, ◌++◌, length, take, drop, map}
use Rattle.std.specs.List.{flat_map}
use Rattle.std.proofs.lemmas.List.{take-append-drop, drop-drop, drop-take, take-map, drop-map, length-map, length-take-le}
use Rattle.lat_model.specs.Lists.{Each, IsPrefixOf}
use Rattle.lat_model.specs.sessions.Slots.{Slot, destination, credits_of, credits}
use Rattle.lat_captures.specs.Seen.{Seen, Both, own, Texts}
use Rattle.lat_captures.specs.Belonging.{all_slots, last_place, replies_as, session_at, word_at, Owned, of_session, slave_owned, message_owned, master_owned, ask_credits, ask_of}
use Rattle.lat_captures.specs.Legal.{AcknowledgementFits}
use Rattle.lat_captures.proofs.Growing.{all_slots-append, InReach}
use Rattle.lat_captures.specs.declared.side.Side.{Side}
use Rattle.lat_captures.specs.declared.checker.Checker.{Checker}
use Rattle.lat_captures.specs.Facts.{owned_slot_of}
use Rattle.lat_captures.specs.Recent.{Message, last_eight, between}
use Rattle.lat_captures.specs.Sums.{Sums, greatest, sums_of, takes_all, hears}
use Rattle.lat_captures.specs.Stands.{Under, Holds, master_lists, slave_lists, SideStands, Bounded, Stands}
use Rattle.lat_captures.specs.Steps.{messages_between, acknowledging, Acknowledges}
use Rattle.lat_captures.proofs.Holding.{AskIsNone, each_append}
use Rattle.lat_captures.proofs.Lists.{all_of, all_of-map, all_of-append, all_master, all_slave, take_master, take_slave, drop_slave, length_slave, length_master, take_on, slots_in, slots_in-master, credits_less, credits_prefix, slots_prefix}
use Rattle.lat_captures.proofs.Messages.{holds_slave_takes_all, holds_master_takes_all}
use Rattle.lat_captures.proofs.Growth.{with_ack, Keeps, in_reach, holds_again, slave_lists_again, master_lists_again, master_owned_again}

-- an acknowledgement changes no session
pub keeps_ack : (m : Bool) (b : Both) (a : ℕ) → Keeps b (with_ack m b a)
keeps_ack true b a = record { sessions = λ r l. refl; asks = λ r n l. refl; slaves = λ front xs l. slaves front xs; masters = λ k xs l. masters k xs }
  where
    slaves : (front xs : List Slot) → slave_owned (with_ack true b a) front xs ≡ slave_owned b front xs
    slaves front [] = refl
    slaves front (x ∷ xs) = ap₂ (λ u v. u ∷ v) refl (slaves (front ++ x ∷ []) xs)

    masters : (k : ℕ) (xs : List Slot) → message_owned (with_ack true b a) k xs ≡ message_owned b k xs
    masters k [] = refl
    masters k (x ∷ xs) = ap₂ (λ u v. u ∷ v) refl (masters k xs)
keeps_ack false b a = record { sessions = λ r l. refl; asks = λ r n l. refl; slaves = λ front xs l. slaves front xs; masters = λ k xs l. masters k xs }
  where
    slaves : (front xs : List Slot) → slave_owned (with_ack false b a) front xs ≡ slave_owned b front xs
    slaves front [] = refl
    slaves front (x ∷ xs) = ap₂ (λ u v. u ∷ v) refl (slaves (front ++ x ∷ []) xs)

    masters : (k : ℕ) (xs : List Slot) → message_owned (with_ack false b a) k xs ≡ message_owned b k xs
    masters k [] = refl
    masters k (x ∷ xs) = ap₂ (λ u v. u ∷ v) refl (masters k xs)

-- messages one after another are all their slots in a row
heard_slots : (ms : List Message) → flat_map (λ m. m.slots) ms ≡ all_of (map (λ m. m.slots) ms)
heard_slots [] = refl
heard_slots (m ∷ ms) = ap (λ z. m.slots ++ z) (heard_slots ms)

-- of the last eight, those from one number on up to another
pub between_eight : {X : Type 0} (xs : List X) (n a c : ℕ) → length xs ≡ n → n ≤ a + 8 → a ≤ c → between (last_eight xs) (a - (n - 8)) (c - (n - 8)) ≡ take (c - a) (drop a xs)
between_eight xs n a c e l k =
    let from : n - 8 + (a - (n - 8)) ≡ a = omega arith in
    let to : c - (n - 8) ≡ (a - (n - 8)) + (c - a) = omega arith in
    ap (λ z. drop (a - (n - 8)) (take z (drop (length xs - 8) xs))) to
    ∙ drop-take (a - (n - 8)) (c - a) (drop (length xs - 8) xs)
    ∙ ap (take (c - a)) (drop-drop (a - (n - 8)) (length xs - 8) xs)
    ∙ ap (λ z. take (c - a) (drop z xs)) (ap (λ z. z - 8 + (a - (n - 8))) e ∙ from)

-- the kept slots of those messages
kept_between : (s : Side) (lists : List (List Owned)) (a c : ℕ) → s.count ≡ length lists → map (λ m. m.slots) s.recent ≡ last_eight (map (map owned_slot_of) lists) → s.count ≤ a + 8 → a ≤ c
    → flat_map (λ m. m.slots) (messages_between s a c) ≡ map owned_slot_of (all_of (take (c - a) (drop a lists)))
kept_between s lists a c e k l j =
    heard_slots (messages_between s a c)
    ∙ ap all_of (
    sym (drop-map (λ (m : Message). m.slots) (a - (s.count - 8)) (take (c - (s.count - 8)) s.recent))
    ∙ ap (drop (a - (s.count - 8))) (sym (take-map (λ (m : Message). m.slots) (c - (s.count - 8)) s.recent))
    ∙ ap (λ z. between z (a - (s.count - 8)) (c - (s.count - 8))) k
    ∙ between_eight (map (map owned_slot_of) lists) s.count a c (length-map lists (map owned_slot_of) ∙ sym e) l j
    ∙ ap (take (c - a)) (drop-map (map owned_slot_of) a lists)
    ∙ take-map (map owned_slot_of) (c - a) (drop a lists)
    )
    ∙ all_of-map owned_slot_of (take (c - a) (drop a lists))

-- what stands of a side where another one acknowledges
side_stays : (tell : List ℕ → List Slot) (s : Side) (seen : Seen) (texts : List (List ℕ)) (lists more : List (List Owned)) → more ≡ lists → SideStands tell s seen texts lists → SideStands tell s seen texts more
side_stays tell s seen texts lists more e h = subst (SideStands tell s seen texts) (sym e) h

side_acks : (tell : List ℕ → List Slot) (s : Side) (seen : Seen) (texts : List (List ℕ)) (lists more : List (List Owned)) (a : ℕ) → more ≡ lists → SideStands tell s seen texts lists
    → SideStands tell (acknowledging s a) (record { messages = seen.messages; beside = seen.beside; acknowledged = a }) texts more
side_acks tell s seen texts lists more a e h = record { count = h.count; acknowledged = refl; reads = h.reads; texts_are = h.texts_are; slots_are = h.slots_are ∙ ap (λ z. last_eight (map (map owned_slot_of) z)) (sym e) }

each_rise : (n k : ℕ) (bs : List ℕ) → n ≤ k → Each (λ a. a ≤ n) bs → Each (λ a. a ≤ k) bs
each_rise n k [] h e = tt
each_rise n k (a ∷ bs) h e = (le_trans e.0 h, each_rise n k bs h e.1)

each_left : {X : Type 0} (P : X → Type 0) (xs ys : List X) → Each P (xs ++ ys) → Each P xs
each_left P [] ys e = tt
each_left P (x ∷ xs) ys e = (e.0, each_left P xs ys e.1)

each_right : {X : Type 0} (P : X → Type 0) (xs ys : List X) → Each P (xs ++ ys) → Each P ys
each_right P [] ys e = e
each_right P (x ∷ xs) ys e = each_right P xs ys e.1

-- the master acknowledges

abbrev pub runs_fit : Checker → Type 0
runs_fit c = c.runs < 2 ^ 64

master_acks : (tell : List ℕ → List Slot) (c d : Checker) (b : Both) (x : Texts) (a : ℕ) → Stands tell c b x → runs_fit c → b.master.acknowledged ≤ a → a ≤ length b.slave.messages → length b.slave.messages ≤ a + 8
    → Acknowledges true c d a → Stands tell d (with_ack true b a) x
master_acks tell c d b x a h fit rise sent near k = record {
  master = subst (λ s. SideStands tell s b1.master x.master (master_lists b1 ms bs)) (sym k.own) (side_acks tell c.master b.master x.master (master_lists b ms bs) (master_lists b1 ms bs) a (master_lists_again b b1 ms bs keep reach.near_master) h.master);
  slave = subst (λ s. SideStands tell s b.slave x.slave (slave_lists b1 [] ss)) (sym k.other) (side_stays tell c.slave b.slave x.slave (slave_lists b [] ss) (slave_lists b1 [] ss) (slave_lists_again b b1 [] ss keep (omega arith)) h.slave);
  sums = subst (Holds b1 (all_slots ss) (all_slots (take a ss)) (master_owned b1 ms bs) (master_owned b1 (take b.slave.acknowledged ms) bs)) (sym sums_are) sums;
  places = k.places ∙ h.places;
  master_shows = record { sent = sent; near = near; each = h.master_shows.each; rising = each_rise b.master.acknowledged a bs rise h.master_shows.rising };
  slave_shows = record { sent = h.slave_shows.sent; near = h.slave_shows.near; each = h.slave_shows.each; rising = h.slave_shows.rising };
  master_bounded = subst (Bounded b1.master) (sym k.runs) (record { messages = h.master_bounded.messages; slots = h.master_bounded.slots; credits = h.master_bounded.credits });
  slave_bounded = subst (Bounded b1.slave) (sym k.runs) (record { messages = h.slave_bounded.messages; slots = h.slave_bounded.slots; credits = h.slave_bounded.credits });
}
  where
    ms : List (List Slot)
    ms = b.master.messages

    bs : List ℕ
    bs = b.master.beside

    ss : List (List Slot)
    ss = b.slave.messages

    b1 : Both
    b1 = with_ack true b a

    keep : Keeps b b1
    keep = keeps_ack true b a

    reach : InReach b
    reach = in_reach b h.master_shows h.slave_shows

    old : List Slot
    old = all_slots (take b.master.acknowledged ss)

    new : List Slot
    new = all_slots (take (a - b.master.acknowledged) (drop b.master.acknowledged ss))

    whole : old ++ new ≡ all_slots (take a ss)
    whole = sym (ap all_slots (take_on b.master.acknowledged a ss rise) ∙ all_slots-append (take b.master.acknowledged ss) (take (a - b.master.acknowledged) (drop b.master.acknowledged ss)))

    taken : Sums
    taken = takes_all true (sums_of c.accounts) (map owned_slot_of (slave_owned b old new))

    small : credits (all_slots ss) ≤ greatest
    small = omega (arith, h.slave_bounded.credits, fit)

    held : Holds b (all_slots ss) (old ++ new) (master_owned b ms bs) (master_owned b (take b.slave.acknowledged ms) bs) taken
    held = holds_master_takes_all b (all_slots ss) old (master_owned b ms bs) (master_owned b (take b.slave.acknowledged ms) bs) new (sums_of c.accounts) h.sums (subst (λ z. IsPrefixOf z (all_slots ss)) (sym whole) (slots_prefix a ss)) small

    moved : Holds b1 (all_slots ss) (all_slots (take a ss)) (master_owned b ms bs) (master_owned b (take b.slave.acknowledged ms) bs) taken
    moved = subst (λ z. Holds b1 (all_slots ss) z (master_owned b ms bs) (master_owned b (take b.slave.acknowledged ms) bs) taken) whole
        (holds_again b b1 (all_slots ss) (old ++ new) (master_owned b ms bs) (master_owned b (take b.slave.acknowledged ms) bs) taken keep (omega arith) held)

    sums : Holds b1 (all_slots ss) (all_slots (take a ss)) (master_owned b1 ms bs) (master_owned b1 (take b.slave.acknowledged ms) bs) taken
    sums = subst (λ z. Holds b1 (all_slots ss) (all_slots (take a ss)) z (master_owned b1 (take b.slave.acknowledged ms) bs) taken) (sym (master_owned_again b b1 ms bs keep reach.near_master))
        (subst (λ z. Holds b1 (all_slots ss) (all_slots (take a ss)) (master_owned b ms bs) z taken) (sym (master_owned_again b b1 (take b.slave.acknowledged ms) bs keep reach.near_master)) moved)

    listed : all_of (take (a - b.master.acknowledged) (drop b.master.acknowledged (slave_lists b [] ss))) ≡ slave_owned b old new
    listed =
        ap (λ z. all_of (take (a - b.master.acknowledged) z)) (drop_slave b b.master.acknowledged [] ss)
        ∙ ap all_of (take_slave b (a - b.master.acknowledged) old (drop b.master.acknowledged ss))
        ∙ all_slave b old (take (a - b.master.acknowledged) (drop b.master.acknowledged ss))

    sums_are : sums_of d.accounts ≡ taken
    sums_are =
        k.sums
        ∙ ap (λ z. hears true (sums_of c.accounts) (messages_between c.slave z a)) h.master.acknowledged
        ∙ ap (takes_all true (sums_of c.accounts)) (
        kept_between c.slave (slave_lists b [] ss) b.master.acknowledged a (h.slave.count ∙ sym (length_slave b [] ss)) h.slave.slots_are (omega (arith, h.slave.count, h.master_shows.near)) rise
        ∙ ap (map owned_slot_of) listed
        )

-- the slave acknowledges

word_credits : (xs : List Slot) (r : ℕ) → word_at credits_of xs r ≤ credits xs
word_credits [] r = omega arith
word_credits (x ∷ xs) zero = omega arith
word_credits (x ∷ xs) (suc zero) = omega arith
word_credits (x ∷ xs) (suc (suc r)) = le_trans (word_credits xs (suc r)) (omega arith)

none_asked : (b : Both) (a : ℕ) (xs : List Slot) → Each AskIsNone (message_owned b a xs)
none_asked b a [] = tt
none_asked b a (x ∷ xs) = (λ e. ap (λ c. cond c 0 (session_at b (last_place (replies_as (destination x)) (all_slots (take a b.slave.messages))))) e, none_asked b a xs)

all_none_asked : (b : Both) (ms : List (List Slot)) (bs : List ℕ) → Each AskIsNone (master_owned b ms bs)
all_none_asked b [] bs = tt
all_none_asked b (m ∷ ms) [] = tt
all_none_asked b (m ∷ ms) (a ∷ bs) = each_append AskIsNone (message_owned b a m) (master_owned b ms bs) (none_asked b a m) (all_none_asked b ms bs)

slave_acks : (tell : List ℕ → List Slot) (c d : Checker) (b : Both) (x : Texts) (a : ℕ) → Stands tell c b x → runs_fit c → b.slave.acknowledged ≤ a → a ≤ length b.master.messages → length b.master.messages ≤ a + 8
    → Acknowledges false c d a → Stands tell d (with_ack false b a) x
slave_acks tell c d b x a h fit rise sent near k = record {
  master = subst (λ s. SideStands tell s b.master x.master (master_lists b1 ms bs)) (sym k.other) (side_stays tell c.master b.master x.master (master_lists b ms bs) (master_lists b1 ms bs) (master_lists_again b b1 ms bs keep reach.near_master) h.master);
  slave = subst (λ s. SideStands tell s b1.slave x.slave (slave_lists b1 [] ss)) (sym k.own) (side_acks tell c.slave b.slave x.slave (slave_lists b [] ss) (slave_lists b1 [] ss) a (slave_lists_again b b1 [] ss keep (omega arith)) h.slave);
  sums = subst (Holds b1 (all_slots ss) (all_slots (take b.master.acknowledged ss)) (master_owned b1 ms bs) (master_owned b1 (take a ms) bs)) (sym sums_are) sums;
  places = k.places ∙ h.places;
  master_shows = record { sent = h.master_shows.sent; near = h.master_shows.near; each = h.master_shows.each; rising = h.master_shows.rising };
  slave_shows = record { sent = sent; near = near; each = h.slave_shows.each; rising = each_rise b.slave.acknowledged a b.slave.beside rise h.slave_shows.rising };
  master_bounded = subst (Bounded b1.master) (sym k.runs) (record { messages = h.master_bounded.messages; slots = h.master_bounded.slots; credits = h.master_bounded.credits });
  slave_bounded = subst (Bounded b1.slave) (sym k.runs) (record { messages = h.slave_bounded.messages; slots = h.slave_bounded.slots; credits = h.slave_bounded.credits });
}
  where
    ms : List (List Slot)
    ms = b.master.messages

    bs : List ℕ
    bs = b.master.beside

    ss : List (List Slot)
    ss = b.slave.messages

    b1 : Both
    b1 = with_ack false b a

    keep : Keeps b b1
    keep = keeps_ack false b a

    reach : InReach b
    reach = in_reach b h.master_shows h.slave_shows

    ys : List Slot
    ys = all_slots (take b.master.acknowledged ss)

    lists : List (List Owned)
    lists = master_lists b ms bs

    os : List Owned
    os = all_of (take (a - b.slave.acknowledged) (drop b.slave.acknowledged lists))

    old : List Owned
    old = master_owned b (take b.slave.acknowledged ms) bs

    listed : (j : ℕ) → all_of (take j lists) ≡ master_owned b (take j ms) bs
    listed j = ap all_of (take_master b j ms bs) ∙ all_master b (take j ms) bs

    whole : old ++ os ≡ master_owned b (take a ms) bs
    whole =
        ap (λ z. z ++ os) (sym (listed b.slave.acknowledged))
        ∙ sym (ap all_of (take_on b.slave.acknowledged a lists rise) ∙ all_of-append (take b.slave.acknowledged lists) (take (a - b.slave.acknowledged) (drop b.slave.acknowledged lists)))
        ∙ listed a

    all : (old ++ os) ++ all_of (drop a lists) ≡ master_owned b ms bs
    all =
        ap (λ z. z ++ all_of (drop a lists)) (whole ∙ sym (listed a))
        ∙ sym (all_of-append (take a lists) (drop a lists)) ∙ ap all_of (take-append-drop a lists) ∙ all_master b ms bs

    under : Each (Under destination ys) os
    under = each_right (Under destination ys) old os (each_left (Under destination ys) (old ++ os) (all_of (drop a lists)) (subst (Each (Under destination ys)) (sym all) h.sums.sent))

    none : Each AskIsNone os
    none = each_right AskIsNone old os (each_left AskIsNone (old ++ os) (all_of (drop a lists)) (subst (Each AskIsNone) (sym all) (all_none_asked b ms bs)))

    fits : (r : ℕ) → ask_credits b r + credits (of_session r (old ++ os)) ≤ greatest
    fits r =
        let asked : ask_credits b r ≤ credits (all_slots ms) = word_credits (all_slots ms) (ask_of b r) in
        let short : length (take a ms) ≤ length bs = omega (arith, length-take-le a ms sent, sent, h.master_shows.each) in
        let slots : slots_in (old ++ os) ≡ all_slots (take a ms) = ap slots_in whole ∙ slots_in-master b (take a ms) bs short in
        let given : credits (of_session r (old ++ os)) ≤ credits (all_slots (take a ms)) = subst (λ z. credits (of_session r (old ++ os)) ≤ credits z) slots (credits_less r (old ++ os)) in
        let fewer : credits (all_slots (take a ms)) ≤ credits (all_slots ms) = credits_prefix (all_slots (take a ms)) (all_slots ms) (slots_prefix a ms) in
        omega (arith, asked, given, fewer, h.master_bounded.credits, fit)

    taken : Sums
    taken = takes_all false (sums_of c.accounts) (map owned_slot_of os)

    held : Holds b (all_slots ss) ys (master_owned b ms bs) (old ++ os) taken
    held = holds_slave_takes_all b (all_slots ss) ys (master_owned b ms bs) old os (sums_of c.accounts) h.sums under none fits

    moved : Holds b1 (all_slots ss) ys (master_owned b ms bs) (master_owned b (take a ms) bs) taken
    moved = subst (λ z. Holds b1 (all_slots ss) ys (master_owned b ms bs) z taken) whole (holds_again b b1 (all_slots ss) ys (master_owned b ms bs) (old ++ os) taken keep (omega arith) held)

    sums : Holds b1 (all_slots ss) ys (master_owned b1 ms bs) (master_owned b1 (take a ms) bs) taken
    sums = subst (λ z. Holds b1 (all_slots ss) ys z (master_owned b1 (take a ms) bs) taken) (sym (master_owned_again b b1 ms bs keep reach.near_master))
        (subst (λ z. Holds b1 (all_slots ss) ys (master_owned b ms bs) z taken) (sym (master_owned_again b b1 (take a ms) bs keep reach.near_master)) moved)

    sums_are : sums_of d.accounts ≡ taken
    sums_are =
        k.sums
        ∙ ap (λ z. hears false (sums_of c.accounts) (messages_between c.master z a)) h.slave.acknowledged
        ∙ ap (takes_all false (sums_of c.accounts))
        (kept_between c.master lists b.slave.acknowledged a (h.master.count ∙ sym (length_master b ms bs h.master_shows.each)) h.master.slots_are (omega (arith, h.master.count, h.slave_shows.near)) rise)

-- an end acknowledges
pub acks : (m : Bool) (tell : List ℕ → List Slot) (c d : Checker) (b : Both) (x : Texts) (a : ℕ) → Stands tell c b x → runs_fit c → AcknowledgementFits (own b m) (own b (not m)) a → Acknowledges m c d a
    → Stands tell d (with_ack m b a) x
acks true tell c d b x a h fit f k = master_acks tell c d b x a h fit f.rising f.sent f.near k
acks false tell c d b x a h fit f k = slave_acks tell c d b x a h fit f.rising f.sent f.near k
