-- A circuit whose number fields have one byte goes on past its 255th message.
use Rattle.std.proofs.Common.{◌≡◌, ℕ, zero, suc, refl, length}
use Rattle.lat_model.specs.numbers.Near.{near}
use Rattle.lat_model.specs.numbers.Link.{Link, fresh, showing, form_message, formed_frame, bare_frame, frame_in}
use Rattle.lat_model.specs.numbers.NetOk.{as_bytes}

-- two ends of messages that are numbers themselves
pub record Ends : Type 0 where
  pub one : Link ℕ
  pub other : Link ℕ

-- one end forms the message n, and the other acknowledges it; each hears the other's frame by its two bytes
abbrev pub exchange : ℕ → Ends → Ends
exchange n w =
    let a : Link ℕ = form_message w.one n in
    let b : Link ℕ = frame_in w.other (as_bytes 128 w.other (formed_frame w.one n)) in
    record { one = frame_in a (as_bytes 128 a (bare_frame b)); other = showing b }

-- the messages n + 1 to n + k
abbrev pub exchanges : ℕ → ℕ → Ends → Ends
exchanges n zero w = w
exchanges n (suc k) w = exchanges (suc n) k (exchange (suc n) w)

all_heard : (length (exchanges 0 260 (record { one = fresh; other = fresh })).other.came ≡ 260) × ((exchanges 0 260 (record { one = fresh; other = fresh })).one.known ≡ 260)
all_heard = (refl, refl)

-- 301 messages came: the frame of message 174, 127 behind, is heard as itself; one that is 129 behind is heard as one ahead
last_young : near 174 301 128 ≡ 174
last_young = refl

too_old : near 172 301 128 ≡ 428
too_old = refl

-- with two bytes a number both are heard as themselves
wide_numbers : (near 174 301 32768 ≡ 174) × (near 172 301 32768 ≡ 172)
wide_numbers = (refl, refl)
