-- Slots as sessions speak of them, and as they stand in a message.
use Rattle.std.specs.Prelude.{◌≡◌, ℕ, ◌+◌, ◌*◌, ◌&&◌, cond, List, [], ◌∷◌, length, Option, Some, None, nat_eq}
use Rattle.lat_fields.specs.declared.params.Param.{Param}
use Rattle.lat_fields.specs.Texts.{number}
use Rattle.lat_model.specs.sessions.Slots as sessions
use Rattle.lat_slots.specs.declared.slot.Slot.{Slot}
use Rattle.lat_slots.specs.declared.slot.Slot.TheVariants.{Start, DataA, DataB, Attention, Reject, Stop}
use Rattle.lat_slots.specs.Layout.{IsWritable}

-- the number of two bytes, low byte first
abbrev pub number_in : List ℕ → ℕ
number_in [] = 0
number_in (low ∷ []) = low
number_in (low ∷ high ∷ rest) = low + 256 * high

-- the request of a start: the first parameter with code 5 and two bytes
abbrev pub request_in : List Param → Option ℕ
request_in [] = None
request_in (p ∷ ps) = cond (nat_eq p.code 5 && nat_eq (length p.bytes) 2) (Some (number_in p.bytes)) (request_in ps)

-- what a slot tells a session
abbrev pub slot_heard : Slot → sessions.Slot
slot_heard (Start to from credits attention size service subject params) = sessions.Start to from credits size service (request_in params)
slot_heard (DataA to from credits bytes) = sessions.DataA to from credits bytes
slot_heard (DataB to from credits flag chars) = sessions.DataB to from credits (flag ∷ chars)
slot_heard (Attention to from flag) = sessions.Attention to from flag
slot_heard (Reject to from reason) = sessions.Reject to from reason
slot_heard (Stop to from reason) = sessions.Stop to from reason

abbrev pub request_params : Option ℕ → List Param
request_params None = []
request_params (Some id) = record { code = 5; bytes = number id } ∷ []

abbrev pub setting_slot : (to from credits : ℕ) → List ℕ → Slot
setting_slot to from credits [] = DataB to from credits 0 []
setting_slot to from credits (flag ∷ chars) = DataB to from credits flag chars

-- the slot that a session forms: a start takes attentions of one byte, has no subject, and no parameter but its request
abbrev pub formed_as : sessions.Slot → Slot
formed_as (sessions.Start to from credits size service request) = Start to from credits 1 size service [] (request_params request)
formed_as (sessions.DataA to from credits bytes) = DataA to from credits bytes
formed_as (sessions.DataB to from credits setting) = setting_slot to from credits setting
formed_as (sessions.Attention to from flag) = Attention to from flag
formed_as (sessions.Reject to from reason) = Reject to from reason
formed_as (sessions.Stop to from reason) = Stop to from reason

-- What is written of the slot can be written, and tells the slot
pub record IsFormed (x : sessions.Slot) : Type 0 where
  pub writable : IsWritable (formed_as x)
  pub tells : slot_heard (formed_as x) ≡ x
