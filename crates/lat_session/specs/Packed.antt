-- How far the packing of a message has come, in the table, in the payload and in the model.
use Rattle.std.specs.Prelude.{◌≡◌, ℕ, ◌+◌, ◌-◌, Bool, true, false, ◌&&◌, not, List, ◌++◌, length, nat_lt}
use Rattle.std.specs.List.{flat_map}
use Rattle.lat_base.specs.declared.state.SessionState.{SessionState}
use Rattle.lat_base.specs.declared.state.SessionState.TheVariants.{Free}
use Rattle.lat_stream.specs.declared.forming.Formed.{Formed}
use Rattle.lat_stream.specs.declared.forming.Formed.TheVariants.{Nothing, Unfit, Slot}
use Rattle.lat_model.specs.ends.End.{wire_of}
use Rattle.lat_model.specs.Lists.{keep, upwards, Each}
use Rattle.lat_model.specs.sessions.Sessions.{Sessions}
use Rattle.lat_model.specs.sessions.Packing.{Packing}
use Rattle.lat_model.specs.sessions.Slots as sessions
use Rattle.lat_slots.specs.Layout.{slot_text}
use Rattle.lat_stream.specs.FormsOffer.{reject_due}
use Rattle.lat_stream.specs.Wire.{IsFormed, formed_as}
use Rattle.lat_session.specs.declared.packing.Progress.{Progress}
use Rattle.lat_session.specs.Table.{Table, ask_is_open}
use Rattle.lat_session.specs.Stands.{Stands}

-- the texts of slots, end to end
abbrev pub slots_text : List sessions.Slot → List ℕ
slots_text xs = flat_map (λ x. slot_text (formed_as x)) xs

-- The packing of the model has come as far: the payload holds the texts of its slots behind what stood there before
pub record Packed (before : List ℕ) (t : Table) (w : Progress) (payload : List ℕ) (p : Packing) : Type 0 where
  pub stands : Stands t p.after
  pub room : w.room ≡ p.room
  pub formed : w.formed ≡ length p.slots
  pub left : w.formed + p.left ≡ 255
  pub going : (not w.ended && nat_lt w.formed 255) ≡ p.going
  pub text : payload ≡ before ++ slots_text (wire_of p.slots)
  pub slots : Each IsFormed (wire_of p.slots)

-- while the packing goes on, no reject waits any more
abbrev pub NoRejects : Packing → Type 0
NoRejects p = p.going ≡ true → (k : ℕ) → reject_due (p.after.session k) ≡ false

-- the serials of the sessions whose asks are open, in the order heard
abbrev pub open_serials : Sessions → List ℕ
open_serials e = keep (ask_is_open e) (upwards 0 e.made)

abbrev pub is_held : SessionState → Bool
is_held Free = false
is_held s = true

-- the progress after a turn that added so many bytes
abbrev pub counted : Formed → ℕ → Progress → Progress
counted Nothing bytes w = record w { room = w.room - bytes }
counted Unfit bytes w = record w { room = w.room - bytes; ended = true }
counted Slot bytes w = record w { room = w.room - bytes; formed = w.formed + 1 }

-- the id served last, after the turn of an id
abbrev pub served_next : Formed → (id served : ℕ) → ℕ
served_next Slot id served = id
served_next f id served = served
