-- What the two halves of one circuit keep: their messages, and when each was formed.
use Rattle.std.specs.Prelude.{◌≡◌, ℕ, suc, ◌<◌, ◌≤◌, ◌⊎◌, Bool, true, false, List, [], ◌∷◌, ◌++◌, length, get_or, take}
use Rattle.lat_model.specs.sessions.Slots.{Slot, credits, costs, starts, turned, has_stop}
use Rattle.lat_model.specs.sessions.Sessions.{Sessions, of_generation}
use Rattle.lat_model.specs.sessions.Packing.{TaggedSlot}
use Rattle.lat_model.specs.numbers.Link.{Link}
use Rattle.lat_model.specs.Lists.{Each}
use Rattle.lat_model.specs.numbers.NetOk.{Way, FrameOf}
use Rattle.lat_model.specs.sessions.Joined.{Joined, slots_of, has_start}
use Rattle.lat_model.specs.sessions.EndOk.{is_behind}
use Rattle.lat_model.specs.ends.End.{wire_of, Sent, Run, CallStart, ReplyStart, Stopped, Half}
use Rattle.lat_model.specs.circuits.Pair.{Posted}

-- messages, with the generations of their slots
abbrev pub Log : Type 0
Log = List (List TaggedSlot)

-- the messages as they go over the wire
abbrev pub wires : Log → List (List Slot)
wires [] = []
wires (m ∷ ms) = wire_of m ∷ wires ms

abbrev pub flat : Log → List TaggedSlot
flat [] = []
flat (m ∷ ms) = m ++ flat ms

abbrev pub PostIs : Link (List Slot) → Link (List Slot) → Bool → Sent → Type 0
PostIs m s true (Run mark ask f) = FrameOf (List Slot) m f
PostIs m s false (Run mark ask f) = FrameOf (List Slot) s f
PostIs m s b CallStart = Unit {0}
PostIs m s b ReplyStart = Unit {0}
PostIs m s b (Stopped r) = Unit {0}

-- With each message one end spends no more than the credits that it had taken when it formed it
pub record Credit (sent : Log) (taken_then : List ℕ) (heard : Log) : Type 0 where
  pub each : length taken_then ≡ length sent
  pub taken : (k : ℕ) → k < length sent → get_or taken_then k 0 ≤ length heard
  pub spends :
      (k g : ℕ) →
      k < length sent →
      costs (slots_of g (flat (take (suc k) sent))) ≤ credits (slots_of g (flat (take (get_or taken_then k 0) heard)))

-- When a message with a start was formed, each older session of that id was over: both stops were in the messages
-- formed and taken before, or its reject was taken
abbrev pub Over : ℕ → Log → Log → Type 0
Over h sent heard =
    ((has_stop (slots_of h (flat sent)) ≡ true) × (has_stop (slots_of h (flat heard)) ≡ true)) ⊎ (turned (slots_of h (flat heard)) ≡ true)

pub record Renewed (a : Sessions) (sent : Log) (taken_then : List ℕ) (heard : Log) : Type 0 where
  pub over :
      (k g h : ℕ) →
      k < length sent →
      has_start (slots_of g (get_or sent k [])) ≡ true →
      (h ≡ g → ⊥) →
      (of_generation a h).id ≡ (of_generation a g).id →
      starts (slots_of h (flat (take k sent))) ≡ true →
      Over h (take k sent) (take (get_or taken_then k 0) heard)
  -- one message has at most one start under an id
  pub single :
      (k g h : ℕ) →
      k < length sent →
      has_start (slots_of g (get_or sent k [])) ≡ true →
      has_start (slots_of h (get_or sent k [])) ≡ true →
      (of_generation a h).id ≡ (of_generation a g).id →
      h ≡ g

-- a session of this generation begins with a start among these messages
abbrev pub Started : ℕ → Log → Type 0
Started g heard = starts (slots_of g (flat heard)) ≡ true

-- A slot behind a start stands in a message formed after the other end's start was taken
pub record Answered (sent : Log) (taken_then : List ℕ) (heard : Log) : Type 0 where
  pub each :
      (k : ℕ) →
      k < length sent →
      Each (λ o. is_behind o.slot ≡ true → Started o.generation (take (get_or taken_then k 0) heard)) (get_or sent k [])

-- All messages of both ends with the generations of their slots: those taken, those on their way
pub record Logs (m : Half) (s : Half) (up_done : Log) (up : Log) (down_done : Log) (down : Log) : Type 0 where
  pub done_up : wires up_done ≡ s.link.came
  pub done_down : wires down_done ≡ m.link.came
  pub log_up : (g : ℕ) → (of_generation m.sessions g).out ≡ slots_of g (flat (up_done ++ up))
  pub log_down : (g : ℕ) → (of_generation s.sessions g).out ≡ slots_of g (flat (down_done ++ down))
  pub credit_up : Credit (up_done ++ up) m.link.taken_then down_done
  pub credit_down : Credit (down_done ++ down) s.link.taken_then up_done
  pub renewed_up : Renewed m.sessions (up_done ++ up) m.link.taken_then down_done
  pub renewed_down : Renewed s.sessions (down_done ++ down) s.link.taken_then up_done
  pub answered_up : Answered (up_done ++ up) m.link.taken_then down_done
  pub answered_down : Answered (down_done ++ down) s.link.taken_then up_done

-- The two halves: their numbers, and, for some generations of the slots that weren't heard yet, their sessions
pub record Together (m : Half) (s : Half) (posts : List Posted) : Type 0 where
  pub up : Log
  pub down : Log
  pub up_done : Log
  pub down_done : Log
  pub logs : Logs m s up_done up down_done down
  pub way_up : Way (List Slot) m.link s.link
  pub way_down : Way (List Slot) s.link m.link
  pub up_is : s.link.came ++ wires up ≡ m.link.sent
  pub down_is : m.link.came ++ wires down ≡ s.link.sent
  pub joined : Joined m.sessions s.sessions (flat up) (flat down)
  pub frames : Each (λ p. PostIs m.link s.link p.by_master p.sent) posts
