-- What is kept of sessions stands as more is seen.
use Rattle.std.proofs.Common.{◌≡◌, ◌≢◌, ℕ, zero, suc, ◌+◌, ◌≤◌, le_trans, sym, ap, ap₂, ◌∙◌, refl, arith, subst, Bool, true, false, cond, List, [], ◌∷◌, ◌++◌, length, take, nat_eq, append-nil, length-append}
use Rattle.lat_model.specs.Lists.{Each}
use Rattle.lat_model.specs.sessions.Slots.{Slot, destination, credits_of, credits, costs}
use Rattle.lat_captures.specs.Seen.{Both}
use Rattle.lat_captures.specs.Belonging.{all_slots, last_place, word_at, replies_as, asks_as, beside_at, ask_of, session_at, Owned, of_session, slave_owned, message_owned, master_owned, ask_credits}
use Rattle.lat_captures.proofs.Growing.{all_slots-append, place_bound, word_more, InReach, grown, ask_more, session_more, slave_owned_more, message_owned_more}
use Rattle.lat_captures.specs.Sums.{Sums}
use Rattle.lat_captures.specs.Stands.{session_under, AccountOf, Holds, master_lists, slave_lists, HasShown}
use Rattle.lat_captures.proofs.Holding.{given_more, spent_more}
use Rattle.lat_captures.proofs.Formings.{prefix_short}

-- with another acknowledgement, and with one more message that acknowledges so many
abbrev pub with_ack : Bool → Both → ℕ → Both
with_ack true b a = record b { master = record { messages = b.master.messages; beside = b.master.beside; acknowledged = a } }
with_ack false b a = record b { slave = record { messages = b.slave.messages; beside = b.slave.beside; acknowledged = a } }

abbrev pub with_message : Bool → Both → List Slot → ℕ → Both
with_message true b slots a = record b { master = record { messages = b.master.messages ++ slots ∷ []; beside = b.master.beside ++ a ∷ []; acknowledged = a } }
with_message false b slots a = record b { slave = record { messages = b.slave.messages ++ slots ∷ []; beside = b.slave.beside ++ a ∷ []; acknowledged = a } }

-- what stays as it was
pub record Keeps (b c : Both) : Type 0 where
  pub sessions : (r : ℕ) → r ≤ length (all_slots b.slave.messages) → session_at c r ≡ session_at b r
  pub asks : (r : ℕ) → r ≢ 0 → r ≤ length (all_slots b.slave.messages) → ask_credits c r ≡ ask_credits b r
  pub slaves : (front xs : List Slot) → length front + length xs ≤ length (all_slots b.slave.messages) → slave_owned c front xs ≡ slave_owned b front xs
  pub masters : (a : ℕ) (xs : List Slot) → a ≤ length b.slave.messages → message_owned c a xs ≡ message_owned b a xs

asked_within : (b : Both) (r : ℕ) → ask_of b r ≤ length (all_slots b.master.messages)
asked_within b r =
    le_trans (place_bound (asks_as (word_at destination (all_slots b.slave.messages) r)) (all_slots (take (beside_at b.slave.messages b.slave.beside r) b.master.messages)))
    (less (beside_at b.slave.messages b.slave.beside r) b.master.messages)
  where
    less : (k : ℕ) (ws : List (List Slot)) → length (all_slots (take k ws)) ≤ length (all_slots ws)
    less zero ws = omega arith
    less (suc k) [] = omega arith
    less (suc k) (w ∷ ws) = omega (arith, less k ws, length-append w (all_slots (take k ws)), length-append w (all_slots ws))

keeps_grown : (b : Both) (ms : List (List Slot)) (es : List ℕ) (x : ℕ) (ns : List (List Slot)) (bs : List ℕ) (y : ℕ) → InReach b → Keeps b (grown b ms es x ns bs y)
keeps_grown b ms es x ns bs y i = record {
  sessions = λ r l. session_more b ms es x ns bs y r i l;
  asks = asks;
  slaves = λ front xs l. slave_owned_more b ms es x ns bs y front xs i l;
  masters = λ a xs l. message_owned_more b ms es x ns bs y a xs i l;
}
  where
    asks : (r : ℕ) → r ≢ 0 → r ≤ length (all_slots b.slave.messages) → ask_credits (grown b ms es x ns bs y) r ≡ ask_credits b r
    asks zero n l = absurd (n refl)
    asks (suc r) n l =
        ap₂ (λ u v. word_at credits_of u v) (all_slots-append b.master.messages ms) (ask_more b ms es x ns bs y r i l)
        ∙ word_more credits_of (all_slots b.master.messages) (all_slots ms) (ask_of b (suc r)) (asked_within b (suc r))

-- what is in reach
pub in_reach : (b : Both) → HasShown b.master b.slave → HasShown b.slave b.master → InReach b
in_reach b m s = record {
  each_master = m.each;
  each_slave = s.each;
  near_master = further b.master.acknowledged (length b.slave.messages) b.master.beside m.sent m.rising;
  near_slave = further b.slave.acknowledged (length b.master.messages) b.slave.beside s.sent s.rising;
}
  where
    further : (n k : ℕ) (bs : List ℕ) → n ≤ k → Each (λ a. a ≤ n) bs → Each (λ a. a ≤ k) bs
    further n k [] h e = tt
    further n k (a ∷ bs) h e = (le_trans e.0 h, further n k bs h e.1)

pub keeps_message : (m : Bool) (b : Both) (slots : List Slot) (a : ℕ) → InReach b → Keeps b (with_message m b slots a)
keeps_message true b slots a i =
    let same : grown b (slots ∷ []) (a ∷ []) a [] [] b.slave.acknowledged ≡ with_message true b slots a =
    ap₂ (λ u v. let c : Both = record {
      master = record { messages = b.master.messages ++ slots ∷ []; beside = b.master.beside ++ a ∷ []; acknowledged = a };
      slave = record { messages = u; beside = v; acknowledged = b.slave.acknowledged };
    } in c) (append-nil b.slave.messages) (append-nil b.slave.beside) in
    subst (Keeps b) same (keeps_grown b (slots ∷ []) (a ∷ []) a [] [] b.slave.acknowledged i)
keeps_message false b slots a i =
    let same : grown b [] [] b.master.acknowledged (slots ∷ []) (a ∷ []) a ≡ with_message false b slots a =
    ap₂ (λ u v. let c : Both = record {
      master = record { messages = u; beside = v; acknowledged = b.master.acknowledged };
      slave = record { messages = b.slave.messages ++ slots ∷ []; beside = b.slave.beside ++ a ∷ []; acknowledged = a };
    } in c) (append-nil b.master.messages) (append-nil b.master.beside) in
    subst (Keeps b) same (keeps_grown b [] [] b.master.acknowledged (slots ∷ []) (a ∷ []) a i)

-- sums hold again

pub holds_again : (b c : Both) (F TM : List Slot) (MO TS : List Owned) (s : Sums) → Keeps b c → length F ≤ length (all_slots b.slave.messages) → Holds b F TM MO TS s → Holds c F TM MO TS s
holds_again b c F TM MO TS s k l h = record {
  asked = h.asked;
  slave = λ y. slave y;
  master = λ y. master y;
  sent = h.sent;
  taken = h.taken;
  first = h.first;
}
  where
    short : length TM ≤ length F
    short = prefix_short TM F h.first

    under : (y : ℕ) (xs : List Slot) → length xs ≤ length F → session_under b y xs ≡ session_under c y xs
    under y xs m = sym (k.sessions (last_place (replies_as y) xs) (le_trans (place_bound (replies_as y) xs) (le_trans m l)))

    slave : (y : ℕ) → AccountOf (s.slave y) (session_under c y F) (λ r. ask_credits c r + credits (of_session r TS)) (λ r. costs (of_session r (slave_owned c [] F)))
    slave y =
        let r : ℕ = session_under c y F in
        let old : AccountOf (s.slave y) r (λ r. ask_credits b r + credits (of_session r TS)) (λ r. costs (of_session r (slave_owned b [] F))) =
        subst (λ r. AccountOf (s.slave y) r (λ r. ask_credits b r + credits (of_session r TS)) (λ r. costs (of_session r (slave_owned b [] F)))) (under y F (omega arith)) (h.slave y) in
        let given : AccountOf (s.slave y) r (λ r. ask_credits c r + credits (of_session r TS)) (λ r. costs (of_session r (slave_owned b [] F))) =
        given_more (s.slave y) r (λ r. ask_credits b r + credits (of_session r TS)) (λ r. ask_credits c r + credits (of_session r TS)) (λ r. costs (of_session r (slave_owned b [] F))) old
        (λ n. ap (λ z. z + credits (of_session r TS)) (k.asks r n (within y))) in
        spent_more (s.slave y) r (λ r. ask_credits c r + credits (of_session r TS)) (λ r. costs (of_session r (slave_owned b [] F))) (λ r. costs (of_session r (slave_owned c [] F))) given
        (λ n. ap (λ z. costs (of_session r z)) (k.slaves [] F (omega (arith, l))))
      where
        within : (y : ℕ) → session_under c y F ≤ length (all_slots b.slave.messages)
        within y = subst (λ r. r ≤ length (all_slots b.slave.messages)) (under y F (omega arith)) (le_trans (bound (last_place (replies_as y) F)) (le_trans (place_bound (replies_as y) F) l))
          where
            bound : (r : ℕ) → session_at b r ≤ r
            bound r = go (nat_eq (ask_of b r) 0)
              where
                go : (d : Bool) → cond d 0 r ≤ r
                go true = omega arith
                go false = omega arith

    master : (y : ℕ) → AccountOf (s.master y) (session_under c y TM) (λ r. credits (of_session r (slave_owned c [] TM))) (λ r. costs (of_session r MO))
    master y =
        let r : ℕ = session_under c y TM in
        let old : AccountOf (s.master y) r (λ r. credits (of_session r (slave_owned b [] TM))) (λ r. costs (of_session r MO)) =
        subst (λ r. AccountOf (s.master y) r (λ r. credits (of_session r (slave_owned b [] TM))) (λ r. costs (of_session r MO))) (under y TM short) (h.master y) in
        given_more (s.master y) r (λ r. credits (of_session r (slave_owned b [] TM))) (λ r. credits (of_session r (slave_owned c [] TM))) (λ r. costs (of_session r MO)) old
        (λ n. ap (λ z. credits (of_session r z)) (k.slaves [] TM (le_trans (let z : length TM ≤ length F = short in omega (arith, z)) l)))

-- lists stay

pub slave_lists_again : (b c : Both) (front : List Slot) (ms : List (List Slot)) → Keeps b c → length front + length (all_slots ms) ≤ length (all_slots b.slave.messages) → slave_lists c front ms ≡ slave_lists b front ms
slave_lists_again b c front [] k l = refl
slave_lists_again b c front (m ∷ ms) k l =
    let long : length (m ++ all_slots ms) ≡ length m + length (all_slots ms) = length-append m (all_slots ms) in
    let front_long : length (front ++ m) ≡ length front + length m = length-append front m in
    ap₂ (λ u v. u ∷ v) (k.slaves front m (omega (arith, l, long))) (slave_lists_again b c (front ++ m) ms k (omega (arith, l, long, front_long)))

pub master_lists_again : (b c : Both) (ms : List (List Slot)) (bs : List ℕ) → Keeps b c → Each (λ a. a ≤ length b.slave.messages) bs → master_lists c ms bs ≡ master_lists b ms bs
master_lists_again b c [] bs k e = refl
master_lists_again b c (m ∷ ms) [] k e = refl
master_lists_again b c (m ∷ ms) (a ∷ bs) k e = ap₂ (λ u v. u ∷ v) (k.masters a m e.0) (master_lists_again b c ms bs k e.1)

pub master_owned_again : (b c : Both) (ms : List (List Slot)) (bs : List ℕ) → Keeps b c → Each (λ a. a ≤ length b.slave.messages) bs → master_owned c ms bs ≡ master_owned b ms bs
master_owned_again b c [] bs k e = refl
master_owned_again b c (m ∷ ms) [] k e = refl
master_owned_again b c (m ∷ ms) (a ∷ bs) k e = ap₂ (λ u v. u ++ v) (k.masters a m e.0) (master_owned_again b c ms bs k e.1)
