-- The texts of the slots that sessions form: their lengths, and what they tell.
use Rattle.std.proofs.Common.{◌≡◌, ℕ, suc, ◌+◌, ◌*◌, ◌%◌, ◌/◌, ◌<◌, ap, refl, arith, List, [], ◌∷◌, ◌++◌, length, replicate, Option, Some, None, length-append}
use Rattle.std.proofs.lemmas.List.{length-replicate}
use Rattle.lat_fields.specs.Params.{params_text}
use Rattle.lat_model.specs.sessions.Slots.{Slot, Start, DataA, DataB, Attention, Reject, Stop, slot_len, params_len}
use Rattle.lat_slots.specs.Layout.{slot_text, body_of}
use Rattle.lat_slots.specs.declared.slot.Slot as wire
use Rattle.lat_stream.specs.Wire.{slot_heard, formed_as, request_params}

-- a setting has a flag and four characters
abbrev pub Whole : Slot → Type 0
Whole (DataB to from credits setting) = length setting ≡ 5
Whole x = Unit {0}

-- a request has two bytes
abbrev pub IsTold : Slot → Type 0
IsTold (Start to from credits size service (Some id)) = id < 65536
IsTold (DataB to from credits setting) = 0 < length setting
IsTold x = Unit {0}

text_len : (s : wire.Slot) → length (slot_text s) ≡ 4 + (length (body_of s) + length (body_of s) % 2)
text_len s =
    let pad : List ℕ = replicate (length (body_of s) % 2) 0 in
    let p : length pad ≡ length (body_of s) % 2 = length-replicate (length (body_of s) % 2) 0 in
    let q : length (body_of s ++ pad) ≡ length (body_of s) + length pad = length-append (body_of s) pad in
    omega (arith, p, q)

pub params_have : (request : Option ℕ) → length (params_text (request_params request)) ≡ params_len request
params_have None = refl
params_have (Some id) = refl

-- the text of a formed slot is as long as the model says
pub text_has : (x : Slot) → Whole x → length (slot_text (formed_as x)) ≡ slot_len x
text_has (Start to from credits size service request) h =
    let p : length (service ++ 0 ∷ params_text (request_params request)) ≡ length service + suc (length (params_text (request_params request))) = length-append service (0 ∷ params_text (request_params request)) in
    omega (arith, text_len (formed_as (Start to from credits size service request)), p, params_have request)
text_has (DataA to from credits bytes) h = omega (arith, text_len (formed_as (DataA to from credits bytes)))
text_has (DataB to from credits []) h = absurd (omega (arith, h))
text_has (DataB to from credits (flag ∷ chars)) h = omega (arith, text_len (formed_as (DataB to from credits (flag ∷ chars))), h)
text_has (Attention to from flag) h = refl
text_has (Reject to from reason) h = refl
text_has (Stop to from reason) h = refl

number_is : (n : ℕ) → n < 65536 → n % 256 + 256 * (n / 256) ≡ n
number_is n h = omega (arith, h)

-- what a formed slot tells is what the session formed
pub told_is : (x : Slot) → IsTold x → slot_heard (formed_as x) ≡ x
told_is (Start to from credits size service None) h = refl
told_is (Start to from credits size service (Some id)) h = ap (λ n. Start to from credits size service (Some n)) (number_is id h)
told_is (DataA to from credits bytes) h = refl
told_is (DataB to from credits []) h = absurd (omega (arith, h))
told_is (DataB to from credits (flag ∷ chars)) h = refl
told_is (Attention to from flag) h = refl
told_is (Reject to from reason) h = refl
told_is (Stop to from reason) h = refl
