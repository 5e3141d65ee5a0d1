-- What the rules look at in a slot.
use Rattle.std.specs.Prelude.{Bool, not, ◌&&◌}
use Rattle.lat_model.specs.sessions.Slots.{Slot, destination, source, credits_of, cost_of, is_start, is_ask}
use Rattle.lat_captures.specs.Belonging.{Owned}
use Rattle.lat_captures.specs.declared.slot.SlotFacts.{SlotFacts}
use Rattle.lat_captures.specs.declared.slot.OwnedSlot.{OwnedSlot}

abbrev pub is_reply : Slot → Bool
is_reply x = is_start x && not (is_ask x)

abbrev pub facts_of : Slot → SlotFacts
facts_of x = record {
  to = destination x;
  from = source x;
  credits = credits_of x;
  cost = cost_of x;
  asks = is_ask x;
  replies = is_reply x;
}

-- with its session
abbrev pub owned_slot_of : Owned → OwnedSlot
owned_slot_of o = record { session = o.session; slot = facts_of o.slot }
