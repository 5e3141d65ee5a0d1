-- What a kept session sends next, and what is kept of it afterwards.
use Rattle.std.specs.Prelude.{◌≡◌, ℕ, ◌+◌, ◌-◌, Bool, true, false, cond, ◌&&◌, ◌||◌, List, [], ◌∷◌, ◌++◌, length, take, drop, min, Option, Some, None, nat_lt}
use Rattle.lat_base.specs.declared.item.Item.{Item}
use Rattle.lat_base.specs.declared.item.Item.TheVariants.{Byte, Set}
use Rattle.lat_base.specs.declared.state.SessionState.{SessionState}
use Rattle.lat_base.specs.declared.state.SessionState.TheVariants.{Free, Calling, Live, Closing, Left}
use Rattle.lat_base.specs.declared.state.SessionEnd.TheVariants as ends
use Rattle.lat_model.specs.Lists.{is_empty}
use Rattle.lat_model.specs.sessions.Slots as sessions
use Rattle.lat_model.specs.sessions.Offers.{Offer, Nothing, Unfit, Offers, fit, byte_room}
use Rattle.lat_slots.specs.Layout.{slot_text}
use Rattle.lat_stream.specs.declared.opening.Opening.{Opening}
use Rattle.lat_stream.specs.declared.forming.Formed.{Formed}
use Rattle.lat_stream.specs.declared.forming.Formed.TheVariants as answers
use Rattle.lat_stream.specs.declared.forming.Turn.{Turn}
use Rattle.lat_stream.specs.declared.forming.Turn.TheVariants as turns
use Rattle.lat_stream.specs.Kept.{Kept, saturated}
use Rattle.lat_stream.specs.Wire.{formed_as}

-- an item goes where a credit is left; else credits alone
abbrev pub data_turn : Bool → List Item → Turn
data_turn may [] = turns.Credits
data_turn may (Byte b ∷ xs) = cond may turns.Bytes turns.Credits
data_turn may (Set t ∷ xs) = cond may (turns.Setting t) turns.Credits

abbrev pub live_turn : Kept → Option ℕ → Turn
live_turn k (Some flag) = turns.Attention flag
live_turn k None = cond (k.stop_heard || (k.closed && is_empty k.unframed)) turns.Stop (data_turn (nat_lt 0 k.credits.unused) k.unframed)

-- what stands behind its start, until its stop was formed
abbrev pub later_turn : Kept → Turn
later_turn k = cond k.stop_formed turns.Nothing (live_turn k k.attention)

abbrev pub turn_in : SessionState → Option Opening → Turn → Turn
turn_in Calling (Some start) later = turns.Start start
turn_in Live (Some start) later = turns.Start start
turn_in Live None later = later
turn_in Closing (Some start) later = turns.Start start
turn_in Closing None later = later
turn_in _ _ later = turns.Nothing

abbrev pub turn_of : Kept → Turn
turn_of k = turn_in k.state k.start (later_turn k)

-- a slot with items goes, which costs a credit
abbrev pub spends : Turn → Bool
spends (turns.Setting t) = true
spends turns.Bytes = true
spends _ = false

-- the credits due
abbrev pub due : Kept → ℕ
due k = k.credits.ceiling - (k.credits.outstanding + k.credits.held)

-- the bytes that stand first
abbrev pub leading : List Item → List ℕ
leading [] = []
leading (Byte b ∷ xs) = b ∷ leading xs
leading (Set t ∷ xs) = []

-- those that one slot takes
abbrev pub next_bytes : ℕ → Kept → List ℕ
next_bytes room k = take (min (min 255 k.size) (byte_room room)) (leading k.unframed)

abbrev pub start_slot : Bool → ℕ → Kept → Opening → sessions.Slot
start_slot true id k start = sessions.Start 0 id (due k) 255 start.service start.request
start_slot false id k start = sessions.Start k.peer id (due k) 255 start.service None

-- a data slot that the room cuts to no byte doesn't fit
abbrev pub bytes_offer : ℕ → Kept → List ℕ → Offer
bytes_offer id k [] = Unfit
bytes_offer id k (b ∷ bs) = Offers (sessions.DataA k.peer id (due k) (b ∷ bs))

abbrev pub credits_offer : ℕ → ℕ → Kept → Offer
credits_offer id room k = cond (nat_lt 0 (due k)) (fit room (sessions.DataA k.peer id (due k) [])) Nothing

-- what goes at a turn
abbrev pub offer_at : Bool → ℕ → ℕ → Kept → Turn → Offer
offer_at master id room k turns.Nothing = Nothing
offer_at master id room k (turns.Start start) = fit room (start_slot master id k start)
offer_at master id room k (turns.Attention flag) = fit room (sessions.Attention k.peer id flag)
offer_at master id room k turns.Stop = fit room (sessions.Stop k.peer id 1)
offer_at master id room k (turns.Setting t) = fit room (sessions.DataB k.peer id (due k) t)
offer_at master id room k turns.Bytes = bytes_offer id k (next_bytes room k)
offer_at master id room k turns.Credits = credits_offer id room k

-- the credits due are given
abbrev pub gave : Kept → Kept
gave k = record k { credits = record k.credits { outstanding = k.credits.outstanding + due k }; given = saturated (k.given + due k) }

-- a credit is used, for a slot with the first n items
abbrev pub framed : ℕ → Kept → Kept
framed n k = record k { credits = record k.credits { unused = k.credits.unused - 1 }; used = saturated (k.used + 1); unframed = drop n k.unframed }

-- both stops were formed and heard: the session is over, or left until its items are taken
abbrev pub over : Kept → Kept
over k = cond (is_empty k.heard) (record k { state = Free; end = Some ends.Closed }) (record k { state = Left })

abbrev pub stopped : Kept → Kept
stopped k = cond k.stop_heard (over (record k { stop_formed = true })) (record k { stop_formed = true })

-- what is kept after a slot formed at a turn
abbrev pub kept_after : ℕ → Kept → Turn → Kept
kept_after room k turns.Nothing = k
kept_after room k (turns.Start start) = record (gave k) { start = None }
kept_after room k (turns.Attention flag) = record k { attention = None }
kept_after room k turns.Stop = stopped k
kept_after room k (turns.Setting t) = framed 1 (gave k)
kept_after room k turns.Bytes = framed (length (next_bytes room k)) (gave k)
kept_after room k turns.Credits = gave k

abbrev pub answer_to : Offer → Formed
answer_to Nothing = answers.Nothing
answer_to Unfit = answers.Unfit
answer_to (Offers x) = answers.Slot

abbrev pub kept_by : Offer → (next old : Kept) → Kept
kept_by Nothing next old = old
kept_by Unfit next old = old
kept_by (Offers x) next old = next

abbrev pub text_by : Offer → List ℕ
text_by Nothing = []
text_by Unfit = []
text_by (Offers x) = slot_text (formed_as x)

-- what is offered is done: nothing changes unless a slot is formed
pub record Meets (offer : Offer) (next old new : Kept) (before after : List ℕ) (result : Formed) : Type 0 where
  pub answer : result ≡ answer_to offer
  pub kept : new ≡ kept_by offer next old
  pub text : after ≡ before ++ text_by offer
