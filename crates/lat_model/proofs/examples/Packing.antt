-- What one packing takes: the room with the pads, and at most 255 slots.
use Rattle.std.proofs.Common.{◌≡◌, ℕ, refl, true, false, cond, ◌&&◌, [], ◌∷◌, length, Some, None, nat_le}
use Rattle.lat_model.specs.sessions.Slots.{Byte, Setting, Start, DataA, Attention, Reject, Stop}
use Rattle.lat_model.specs.sessions.Session.{Session, blank}
use Rattle.lat_model.specs.sessions.Sessions.{Sessions}
use Rattle.lat_model.specs.sessions.Offers.{Nothing, Unfit, Offers, offer}
use Rattle.lat_model.specs.sessions.Packing.{pack}
use Rattle.lat_model.specs.ends.Starting.{no_sessions}

-- a session of the master that was answered, with six bytes and a setting to send
abbrev pub six : Session
six = record (blank) {
  id = 1;
  generation = 1;
  accepted = true;
  rejects = false;
  put = Byte 1 ∷ Byte 2 ∷ Byte 3 ∷ Byte 4 ∷ Byte 5 ∷ Byte 6 ∷ Setting (0 ∷ 0 ∷ 0 ∷ 0 ∷ 0 ∷ []) ∷ [];
  out = Start 0 1 4 255 (86 ∷ []) None ∷ [];
  came = Start 1 9 4 255 (86 ∷ []) None ∷ [];
}

-- an even room of 10 takes six bytes, and a setting does not go with them
all_six : offer true 4 10 six ≡ Offers (DataA 9 1 0 (1 ∷ 2 ∷ 3 ∷ 4 ∷ 5 ∷ 6 ∷ []))
all_six = refl

-- an odd room of 9 takes four: the fifth would need the pad
cut_to_four : offer true 4 9 six ≡ Offers (DataA 9 1 0 (1 ∷ 2 ∷ 3 ∷ 4 ∷ []))
cut_to_four = refl

-- a room of 5 is cut to no byte, and nothing fits
cut_to_none : offer true 4 5 six ≡ Unfit
cut_to_none = refl

-- the peer takes at most 3 bytes a slot
cut_by_the_peer : offer true 4 1492 (record six { came = Start 1 9 4 3 (86 ∷ []) None ∷ [] }) ≡ Offers (DataA 9 1 0 (1 ∷ 2 ∷ 3 ∷ []))
cut_by_the_peer = refl

-- no credit came: nothing goes, and credits that are due go alone
no_credit : offer true 4 1492 (record six { came = Start 1 9 0 255 (86 ∷ []) None ∷ [] }) ≡ Nothing
no_credit = refl

credits_alone : offer true 4 1492 (record six { came = Start 1 9 0 255 (86 ∷ []) None ∷ DataA 1 9 0 (7 ∷ []) ∷ []; taken = 1 }) ≡ Offers (DataA 9 1 1 [])
credits_alone = refl

-- The peer's stop was heard: the items are dropped, but a waiting attention goes before the own stop
attention_first : offer true 4 1492 (record six { came = Start 1 9 4 255 (86 ∷ []) None ∷ Stop 1 9 1 ∷ []; attention = Some 5 }) ≡ Offers (Attention 9 1 5)
attention_first = refl

then_the_stop : offer true 4 1492 (record six { came = Start 1 9 4 255 (86 ∷ []) None ∷ Stop 1 9 1 ∷ [] }) ≡ Offers (Stop 9 1 1)
then_the_stop = refl

-- a reply came before the own start was formed: the start goes first. A reject came: nothing goes any more
start_first : offer true 4 1492 (record six { out = [] }) ≡ Offers (Start 0 1 4 255 [] None)
start_first = refl

rejected_before : offer true 4 1492 (record six { out = []; came = Reject 1 0 7 ∷ [] }) ≡ Nothing
rejected_before = refl

-- 300 rejects wait, which have room enough: 255 of them go
abbrev pub waiting : ℕ → Session
waiting from = record (blank) { generation = from; reason = 7; came = Start 0 from 0 255 (86 ∷ []) None ∷ [] }

abbrev pub crowded : Sessions
crowded = record (no_sessions false 1 4) { made = 300; session = λ k. cond (nat_le 1 k && nat_le k 300) (waiting k) blank }

at_most_255 : length (pack 1492 crowded).slots ≡ 255
at_most_255 = refl

-- where the room is for 10 of them, 10 go
ten_fit : length (pack 43 crowded).slots ≡ 10
ten_fit = refl
