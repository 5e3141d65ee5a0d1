-- What the checker does as a RUN is taken, of the master or of the slave.
use Rattle.std.specs.Prelude.{◌≡◌, ℕ, ◌+◌, ◌-◌, Bool, true, false, not, cond, List, length, Option, Some, None, Result, min}
use Rattle.lat_captures.specs.declared.slot.SlotFacts.{SlotFacts}
use Rattle.lat_captures.specs.declared.slot.OwnedSlot.{OwnedSlot}
use Rattle.lat_captures.specs.declared.head.RunHead.{RunHead}
use Rattle.lat_captures.specs.declared.rule.Rule.{Rule}
use Rattle.lat_captures.specs.declared.side.Side.{Side}
use Rattle.lat_captures.specs.declared.side.Near.{Near}
use Rattle.lat_captures.specs.declared.checker.Checker.{Checker}
use Rattle.lat_captures.specs.Tests.{tests_hold}
use Rattle.lat_captures.specs.Recent.{Message, pushed, between}
use Rattle.lat_captures.specs.Sums.{Sums, greatest, sums_of, hears, forms_all}

-- what is kept of the end that sends, and of the other one
abbrev pub side_of : Checker → Bool → Side
side_of c by_master = cond by_master c.master c.slave

-- the tests of a RUN of an end, up to that on the window
abbrev pub tested : Checker → Bool → RunHead → Bool → List ℕ → Result Near Rule
tested c by_master head bare text =
    tests_hold c.title (side_of c by_master) (side_of c (not by_master)) by_master head bare text

-- the messages of a side from one number on up to another
abbrev pub messages_between : Side → ℕ → ℕ → List Message
messages_between s from to = between s.recent (from - (s.count - 8)) (to - (s.count - 8))

abbrev pub acknowledging : Side → ℕ → Side
acknowledging s a = record s { acknowledged = a }

-- an end acknowledges so many messages of the other
pub record Acknowledges (by_master : Bool) (c d : Checker) (a : ℕ) : Type 0 where
  pub title : d.title ≡ c.title
  pub own : side_of d by_master ≡ acknowledging (side_of c by_master) a
  pub other : side_of d (not by_master) ≡ side_of c (not by_master)
  pub sums :
      sums_of d.accounts
      ≡ hears by_master (sums_of c.accounts) (messages_between (side_of c (not by_master)) (side_of c by_master).acknowledged a)
  pub places : d.places ≡ c.places
  pub runs : d.runs ≡ c.runs

abbrev pub sending : Side → List ℕ → List OwnedSlot → Side
sending s text slots = record s { count = s.count + 1; recent = pushed s.recent (record { text = text; slots = slots }) }

-- the places of the slave's slots, with these slots of an end
abbrev pub places_with : Bool → ℕ → List OwnedSlot → ℕ
places_with by_master places slots = cond by_master places (min (places + length slots) greatest)

-- an end sends its next message, with these sums of the sessions then
pub record SendsNext (by_master : Bool) (c d : Checker) (text : List ℕ) (sums : Sums) (slots : List OwnedSlot) : Type 0 where
  pub title : d.title ≡ c.title
  pub own : side_of d by_master ≡ sending (side_of c by_master) text slots
  pub other : side_of d (not by_master) ≡ side_of c (not by_master)
  pub sums_are : sums_of d.accounts ≡ sums
  pub places : d.places ≡ places_with by_master c.places slots
  pub runs : d.runs ≡ c.runs + 1

-- a message is sent where its slots could be formed
abbrev pub SendsFormed : Bool → Checker → Checker → List ℕ → Option (Sums × List OwnedSlot) → Bool → Type 0
SendsFormed by_master c d text None sent = sent ≡ false
SendsFormed by_master c d text (Some r) sent = (sent ≡ true) × SendsNext by_master c d text r.0 r.1

abbrev pub SendsSlots : Bool → Checker → Checker → List SlotFacts → List ℕ → Bool → Type 0
SendsSlots by_master c d slots text sent =
    SendsFormed by_master c d text (forms_all by_master c.places (sums_of c.accounts) slots) sent

-- a RUN more
pub record Counts (c d : Checker) : Type 0 where
  pub title : d.title ≡ c.title
  pub master : d.master ≡ c.master
  pub slave : d.slave ≡ c.slave
  pub accounts : d.accounts ≡ c.accounts
  pub places : d.places ≡ c.places
  pub runs : d.runs ≡ c.runs + 1
