-- The messages of one end, and what holds of the order in which it formed them.
use Rattle.std.specs.Prelude.{◌≡◌, ◌≢◌, ℕ, suc, ◌<◌, ◌≤◌, true, [], length, get_or, take}
use Rattle.lat_model.specs.Lists.{Each}
use Rattle.lat_model.specs.sessions.Slots.{credits, costs, starts}
use Rattle.lat_model.specs.sessions.Sessions.{of_generation}
use Rattle.lat_model.specs.sessions.EndOk.{Shape, is_behind}
use Rattle.lat_model.specs.sessions.Joined.{slots_of, has_start}
use Rattle.lat_model.specs.ends.End.{Half}
use Rattle.lat_model.specs.circuits.Together.{Log, wires, flat, Over, Started}

-- All messages of one end with the generations of their slots: those that it formed, and those that it took. The slots of a
-- session are those of its generation in these messages, in order
pub record History (a : Half) : Type 0 where
  pub formed : Log
  pub taken : Log
  pub formed_is : wires formed ≡ a.link.sent
  pub taken_is : wires taken ≡ a.link.came
  pub out_is : (g : ℕ) → (of_generation a.sessions g).out ≡ slots_of g (flat formed)
  pub came_is : (g : ℕ) → (of_generation a.sessions g).came ≡ slots_of g (flat taken)

-- the messages that were taken when the message behind k others was formed
abbrev pub taken_before : (a : Half) → History a → ℕ → Log
taken_before a h k = take (get_or a.link.taken_then k 0) h.taken

-- Each credited slot had its credit: up to and with each message, each session has spent no more than the credits in the
-- messages that had been taken when this message was formed
pub record Credited (a : Half) : Type 0 where
  pub history : History a
  pub spends :
      (k g : ℕ) →
      k < length history.formed →
      costs (slots_of g (flat (take (suc k) history.formed))) ≤ credits (slots_of g (flat (taken_before a history k)))

-- The slots of a session are its start, then data, credits and attention, then one stop at most; or a reject and nothing
-- more. What stands behind a start stands in a message that was formed after the other end's start was taken
pub record StartsFirst (a : Half) : Type 0 where
  pub history : History a
  pub shape : (g : ℕ) → Shape a.sessions.master (of_generation a.sessions g) (of_generation a.sessions g).out
  pub answered :
      (k : ℕ) →
      k < length history.formed →
      Each (λ o. is_behind o.slot ≡ true → Started o.generation (taken_before a history k)) (get_or history.formed k [])

-- A start under an id that an earlier start of this end had stands in a message that was formed when the former session was
-- over: this end's stop formed and the other's taken, or its reject taken. No message has two starts under one id
pub record IdsUsedAgain (a : Half) : Type 0 where
  pub history : History a
  pub over :
      (k g h : ℕ) →
      k < length history.formed →
      has_start (slots_of g (get_or history.formed k [])) ≡ true →
      h ≢ g →
      (of_generation a.sessions h).id ≡ (of_generation a.sessions g).id →
      starts (slots_of h (flat (take k history.formed))) ≡ true →
      Over h (take k history.formed) (taken_before a history k)
  pub single :
      (k g h : ℕ) →
      k < length history.formed →
      has_start (slots_of g (get_or history.formed k [])) ≡ true →
      has_start (slots_of h (get_or history.formed k [])) ≡ true →
      (of_generation a.sessions h).id ≡ (of_generation a.sessions g).id →
      h ≡ g
