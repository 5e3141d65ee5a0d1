-- What the checker keeps, where the frames so far have shown this.
use Rattle.std.specs.Prelude.{◌≡◌, ◌≢◌, ℕ, ◌+◌, ◌*◌, ◌≤◌, cond, List, [], ◌∷◌, ◌++◌, length, take, map, Option, Some, None}
use Rattle.lat_model.specs.Lists.{Each, IsPrefixOf}
use Rattle.lat_model.specs.sessions.Slots.{Slot, destination, source, credits_of, credits, costs}
use Rattle.lat_captures.specs.Seen.{Seen, Both, Texts}
use Rattle.lat_captures.specs.Belonging.{all_slots, last_place, word_at, asks_as, replies_as, session_at, Owned, of_session, slave_owned, message_owned, master_owned, ask_credits}
use Rattle.lat_captures.specs.declared.accounts.Account.{Account}
use Rattle.lat_captures.specs.declared.side.Side.{Side}
use Rattle.lat_captures.specs.declared.checker.Checker.{Checker}
use Rattle.lat_captures.specs.Facts.{owned_slot_of}
use Rattle.lat_captures.specs.Sums.{Sums, sums_of}
use Rattle.lat_captures.specs.Recent.{last_eight}

-- the session under a source, among slots of the slave
abbrev pub session_under : Both → ℕ → List Slot → ℕ
session_under b y xs = session_at b (last_place (replies_as y) xs)

-- the credits of the last ask under a source, among slots with their sessions
abbrev pub last_ask : ℕ → List Owned → Option ℕ
last_ask x [] = None
last_ask x (o ∷ os) = or_this (last_ask x os)
  where
    or_this : Option ℕ → Option ℕ
    or_this (Some c) = Some c
    or_this None = cond (asks_as x o.slot) (Some (credits_of o.slot)) None

-- an account is that of a session, with what it was given and what it spent
pub record AccountOf (a : Account) (r : ℕ) (gives spends : ℕ → ℕ) : Type 0 where
  pub session : a.session ≡ r
  pub given : r ≢ 0 → a.given ≡ gives r
  pub spent : r ≢ 0 → a.spent ≡ spends r

-- a slot and its session, whose place is among these slots of the slave: the source of its reply is the id that the slot has
-- for it
pub record Under (w : Slot → ℕ) (xs : List Slot) (o : Owned) : Type 0 where
  pub bound : o.session ≤ length xs
  pub word : o.session ≢ 0 → word_at source xs o.session ≡ w o.slot

-- What is kept of sessions, where the slave has sent the slots xs and the master has taken the first of them, ys, and where the
-- master has sent the slots os and the slave has taken the first of them, ts
pub record Holds (b : Both) (xs ys : List Slot) (os ts : List Owned) (s : Sums) : Type 0 where
  pub asked : (x : ℕ) → s.asked x ≡ last_ask x ts
  pub slave : (y : ℕ) →
      AccountOf (s.slave y) (session_under b y xs)
      (λ r. ask_credits b r + credits (of_session r ts))
      (λ r. costs (of_session r (slave_owned b [] xs)))
  pub master : (y : ℕ) →
      AccountOf (s.master y) (session_under b y ys)
      (λ r. credits (of_session r (slave_owned b [] ys)))
      (λ r. costs (of_session r os))
  pub sent : Each (Under destination ys) os
  pub taken : Each (Under destination ys) ts
  pub first : IsPrefixOf ys xs

-- the messages of the master, and those of the slave behind these slots, with the sessions of their slots
abbrev pub master_lists : Both → List (List Slot) → List ℕ → List (List Owned)
master_lists b [] bs = []
master_lists b (m ∷ ms) [] = []
master_lists b (m ∷ ms) (a ∷ bs) = message_owned b a m ∷ master_lists b ms bs

abbrev pub slave_lists : Both → List Slot → List (List Slot) → List (List Owned)
slave_lists b front [] = []
slave_lists b front (m ∷ ms) = slave_owned b front m ∷ slave_lists b (front ++ m) ms

-- What is kept of one end: counts, and of the last eight messages the texts and the slots. A text tells the slots of its message
pub record SideStands (tell : List ℕ → List Slot) (s : Side) (seen : Seen)
    (texts : List (List ℕ)) (lists : List (List Owned)) : Type 0 where
  pub count : s.count ≡ length seen.messages
  pub acknowledged : s.acknowledged ≡ seen.acknowledged
  pub reads : map tell texts ≡ seen.messages
  pub texts_are : map (λ m. m.text) s.recent ≡ last_eight texts
  pub slots_are : map (λ m. m.slots) s.recent ≡ last_eight (map (map owned_slot_of) lists)

-- What an end has shown, beside the other: it has acknowledged messages that the other sent, and all but its last eight; the
-- acknowledgement beside each of its messages isn't above its last one
pub record HasShown (seen other : Seen) : Type 0 where
  pub sent : seen.acknowledged ≤ length other.messages
  pub near : length other.messages ≤ seen.acknowledged + 8
  pub each : length seen.beside ≡ length seen.messages
  pub rising : Each (λ a. a ≤ seen.acknowledged) seen.beside

-- so many RUNs have so many messages, slots and credits at most: a message has at most 255 slots, and a slot gives at most
-- 255 credits
pub record Bounded (seen : Seen) (runs : ℕ) : Type 0 where
  pub messages : length seen.messages ≤ runs
  pub slots : length (all_slots seen.messages) ≤ 255 * runs
  pub credits : credits (all_slots seen.messages) ≤ 65025 * runs

-- The checker stands for what the RUNs so far have shown
pub record Stands (tell : List ℕ → List Slot) (c : Checker) (b : Both) (x : Texts) : Type 0 where
  pub master : SideStands tell c.master b.master x.master (master_lists b b.master.messages b.master.beside)
  pub slave : SideStands tell c.slave b.slave x.slave (slave_lists b [] b.slave.messages)
  pub sums :
      Holds b (all_slots b.slave.messages) (all_slots (take b.master.acknowledged b.slave.messages))
      (master_owned b b.master.messages b.master.beside)
      (master_owned b (take b.slave.acknowledged b.master.messages) b.master.beside)
      (sums_of c.accounts)
  pub places : c.places ≡ length (all_slots b.slave.messages)
  pub master_shows : HasShown b.master b.slave
  pub slave_shows : HasShown b.slave b.master
  pub master_bounded : Bounded b.master c.runs
  pub slave_bounded : Bounded b.slave c.runs
