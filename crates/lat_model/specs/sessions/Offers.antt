-- The first slot that a session may form now.
use Rattle.std.specs.Prelude.{ℕ, zero, suc, ◌-◌, ◌%◌, Bool, true, false, not, cond, ◌&&◌, ◌||◌, List, [], ◌∷◌, take, min, Option, Some, None, nat_lt, nat_le}
use Rattle.lat_model.specs.sessions.Slots.{Item, Byte, Setting, Slot, Start, DataA, DataB, Attention, Reject, Stop, credits, costs, has_stop, turned, first_size, slot_len}
use Rattle.lat_model.specs.sessions.Session.{Session, answered, peer, unframed, due}
use Rattle.lat_model.specs.Lists.{is_empty}
use Rattle.lat_model.specs.Reasons as reasons

-- nothing to send, a slot that is too long for the room, or the slot to send
pub data Offer : Type 0 where
  Nothing : Offer
  Unfit : Offer
  Offers : Slot → Offer

-- a slot is offered where it fits into the room
abbrev pub fit : ℕ → Slot → Offer
fit room x = cond (nat_le (slot_len x) room) (Offers x) Unfit

-- an ask of the master, a reply of the slave
abbrev pub start_of : Bool → ℕ → Session → Slot
start_of true ceiling s = Start 0 s.id (due ceiling s) 255 s.service s.request
start_of false ceiling s = Start (peer s) s.id (due ceiling s) 255 s.service None

-- the bytes that stand first
abbrev pub leading : List Item → List ℕ
leading [] = []
leading (Byte b ∷ xs) = b ∷ leading xs
leading (Setting t ∷ xs) = []

-- the most bytes that fit into a DataA of this room, with its pad
abbrev pub byte_room : ℕ → ℕ
byte_room room = (room - 4) - (room - 4) % 2

-- as many bytes as one slot takes: 255, what the peer's start stated, and the room left
abbrev pub most_bytes : ℕ → Session → ℕ
most_bytes room s = min (min 255 (first_size s.came)) (byte_room room)

-- a credit that came isn't used yet
abbrev pub may_spend : Session → Bool
may_spend s = nat_lt (costs s.out) (credits s.came)

-- a data slot that the room cuts to no byte doesn't fit
abbrev pub bytes_offer : ℕ → Session → List ℕ → Offer
bytes_offer c s [] = Unfit
bytes_offer c s (b ∷ bs) = Offers (DataA (peer s) s.id c (b ∷ bs))

-- credits alone, where at least one is due
abbrev pub credit_offer : ℕ → ℕ → Session → Offer
credit_offer room zero s = Nothing
credit_offer room (suc c) s = fit room (DataA (peer s) s.id (suc c) [])

-- what stands first of its items goes, where it may; else credits alone
abbrev pub data_offer : ℕ → ℕ → Session → List Item → Offer
data_offer ceiling room s [] = credit_offer room (due ceiling s) s
data_offer ceiling room s (Byte b ∷ xs) =
    cond (may_spend s)
    (bytes_offer (due ceiling s) s (take (most_bytes room s) (leading (Byte b ∷ xs))))
    (credit_offer room (due ceiling s) s)
data_offer ceiling room s (Setting t ∷ xs) =
    cond (may_spend s) (fit room (DataB (peer s) s.id (due ceiling s) t)) (credit_offer room (due ceiling s) s)

-- its stop is due: it heard the peer's, or it closed and all its items are framed
abbrev pub stop_due : Session → Bool
stop_due s = has_stop s.came || (s.closed && is_empty (unframed s))

-- its attention, its stop, its data, or credits alone
abbrev pub live_offer : ℕ → ℕ → Session → Option ℕ → Offer
live_offer ceiling room s (Some flag) = fit room (Attention (peer s) s.id flag)
live_offer ceiling room s None =
    cond (stop_due s) (fit room (Stop (peer s) s.id reasons.closed)) (data_offer ceiling room s (unframed s))

-- its reject, if that still waits
abbrev pub reject_offer : ℕ → Session → Offer
reject_offer room s = cond (is_empty s.out && not (is_empty s.came)) (fit room (Reject (peer s) 0 s.reason)) Nothing

-- its start. A session whose reject came before its start was formed has none any more
abbrev pub start_offer : Bool → ℕ → ℕ → Session → Offer
start_offer master ceiling room s = cond (s.accepted && not (turned s.came)) (fit room (start_of master ceiling s)) Nothing

-- what stands behind its start, until its stop was formed
abbrev pub later_offer : ℕ → ℕ → Session → Offer
later_offer ceiling room s = cond (answered s && not (has_stop s.out)) (live_offer ceiling room s s.attention) Nothing

abbrev pub offer : Bool → ℕ → ℕ → Session → Offer
offer master ceiling room s =
    cond s.rejects (reject_offer room s) (cond (is_empty s.out) (start_offer master ceiling room s) (later_offer ceiling room s))
