-- Two ends above their numbers: the slots that one end formed and the other hasn't heard yet lie on a wire, in order.
use Rattle.std.specs.Prelude.{◌≡◌, ℕ, suc, ◌+◌, ◌≤◌, ◌≢◌, Bool, true, false, cond, ◌||◌, List, [], ◌∷◌, ◌++◌, nat_eq}
use Rattle.lat_model.specs.sessions.Slots.{Slot, is_start, is_ask, starts}
use Rattle.lat_model.specs.sessions.Sessions.{Sessions, of_generation}
use Rattle.lat_model.specs.sessions.Packing.{TaggedSlot}
use Rattle.lat_model.specs.Lists.{Each}
use Rattle.lat_model.specs.sessions.EndOk.{EndOk}

abbrev pub has_start : List Slot → Bool
has_start [] = false
has_start (x ∷ xs) = is_start x || has_start xs

abbrev pub slots_of : ℕ → List TaggedSlot → List Slot
slots_of g [] = []
slots_of g (o ∷ os) = cond (nat_eq o.generation g) (o.slot ∷ slots_of g os) (slots_of g os)

-- What a session formed is what the other end's session of its generation heard, then what lies on the wire
pub record Flows (a : Sessions) (b : Sessions) (wire : List TaggedSlot) : Type 0 where
  pub at_generation : (g : ℕ) → (of_generation a g).out ≡ (of_generation b g).came ++ slots_of g wire

-- Behind a start on the wire no slot of an older session of that id follows
pub record FreshHead (e : Sessions) (o : TaggedSlot) (wire : List TaggedSlot) : Type 0 where
  pub none :
      is_start o.slot ≡ true →
      (g : ℕ) →
      g ≢ o.generation →
      (of_generation e g).id ≡ (of_generation e o.generation).id →
      starts (of_generation e g).out ≡ true →
      slots_of g wire ≡ []

abbrev pub Fresh : Sessions → List TaggedSlot → Type 0
Fresh e [] = Unit {0}
Fresh e (o ∷ wire) = FreshHead e o wire × Fresh e wire

abbrev pub ask_count : Slot → ℕ
ask_count x = cond (is_ask x) 1 0

-- the asks on the wire are numbered on from n
abbrev pub AsksFrom : ℕ → List TaggedSlot → Type 0
AsksFrom n [] = Unit {0}
AsksFrom n (o ∷ wire) = (is_ask o.slot ≡ true → o.generation ≡ suc n) × AsksFrom (n + ask_count o.slot) wire

abbrev pub asks : List TaggedSlot → ℕ
asks [] = 0
asks (o ∷ wire) = ask_count o.slot + asks wire

-- the slots on a wire have generations that their end gave
abbrev pub Tags : ℕ → List TaggedSlot → Type 0
Tags n wire = Each (λ o. o.generation ≤ n) wire

-- a session without a generation has heard nothing, as the other end doesn't know it
abbrev pub Quiet : Sessions → Type 0
Quiet e = (k : ℕ) → (e.session k).generation ≡ 0 → (e.session k).came ≡ []

-- Two ends of one circuit, as far as their sessions go
pub record Joined (m : Sessions) (s : Sessions) (up : List TaggedSlot) (down : List TaggedSlot) : Type 0 where
  pub master : m.master ≡ true
  pub slave : s.master ≡ false
  pub ceilings : (m.ceiling ≤ 255) × (s.ceiling ≤ 255)
  pub master_ok : EndOk m
  pub slave_ok : EndOk s
  pub quiet_up : Quiet m
  pub quiet_down : Quiet s
  pub flow_up : Flows m s up
  pub flow_down : Flows s m down
  pub fresh_up : Fresh m up
  pub fresh_down : Fresh s down
  pub tags_up : Tags m.generations up
  pub tags_down : Tags s.generations down
  pub asks_up : AsksFrom s.generations up
  pub asked : m.generations ≡ s.generations + asks up
