-- The laws of payloads, from those of texts.
use Rattle.std.proofs.Common.{◌≡◌, ℕ, ◌+◌, ◌-◌, ◌<◌, ◌≤◌, Bool, true, false, leb, ◌⊎◌, inl, inr, List, [], ◌++◌, length, replicate, Result, Ok, Err, refl, sym, ap, ◌∙◌, subst, arith, length-append}
use Rattle.std.specs.Prelude.{IfOk}
use Rattle.std.proofs.lemmas.List.{length-replicate}
use Rattle.std.proofs.lemmas.Bool.Decides.{nat_tests}
use Rattle.lat_base.specs.declared.field.Bad.{Bad}
use Rattle.lat_fields.specs.declared.fault.LayoutFault.{LayoutFault}
use Rattle.lat_fields.specs.Reading.{Gives}
use Rattle.lat_fields.specs.Payloads.{PayloadText, padded}
use Rattle.lat_fields.proofs.Steps.{IsBytes}
use Rattle.lat_frames.specs.declared.message.Message.{Message}
use Rattle.lat_frames.specs.MessageText.{MessageText}
use Rattle.lat_frames.specs.Written.{IsWritable, message_text}
use Rattle.lat_frames.specs.Reading.{message_read}
use Rattle.lat_frames.specs.Laws.{IsRead, IsRefused}
use Rattle.lat_frames.proofs.Steps.{same_ok}
use Rattle.lat_frames.proofs.MessageTaken.{payload_read}
use Rattle.lat_frames.proofs.MessageFound.{payload_is}
use Rattle.lat_frames.proofs.Written.{written_is_text}

padded_length : (text : List ℕ) → length (padded text) ≡ length text + (46 - length text)
padded_length text = length-append text (replicate (46 - length text) 0) ∙ ap (λ n. length text + n) (length-replicate (46 - length text) 0)

padding_ends : (text : List ℕ) (b : Bool) → leb 46 (length text) ≡ b → (replicate {A = ℕ} (46 - length text) 0 ≡ []) ⊎ (length (padded text) ≤ 46)
padding_ends text true long =
    let most : 46 ≤ length text = grind (arith, nat_tests) in
    let none : 46 - length text ≡ 0 = omega arith in
    inl (ap (λ (n : ℕ). replicate {A = ℕ} n 0) none)
padding_ends text false short =
    let less : length text < 46 = grind (arith, nat_tests) in
    inr (omega (arith, padded_length text))

pub written_payload : (m : Message) → IsWritable m → PayloadText MessageText m (padded (message_text m))
written_payload m w =
    let text = message_text m in
    record {
      text = text;
      rest = replicate (46 - length text) 0;
      is = refl;
      of = written_is_text m w;
      size = omega (arith, padded_length text, w.room);
      trailing = padding_ends text (leb 46 (length text)) refl;
    }

pub text_read : (m : Message) (text rest : List ℕ) → MessageText m text → length (text ++ rest) ≤ 46 → message_read (text ++ rest) ≡ Ok m
text_read m text rest of short =
    payload_read m (text ++ rest) (record { text = text; rest = rest; is = refl; of = of; size = omega arith; trailing = inr short })

outcome : (payload : List ℕ) (r : Result Message Bad) → IsBytes payload → message_read payload ≡ r → IsRead payload ⊎ IsRefused payload
outcome payload (Ok m) all e =
    inl (record { message = m; text = payload_is payload m all e; read = e; one = λ n t. same_ok n m (sym (payload_read n payload t) ∙ e) })
outcome payload (Err b) all e =
    inr (record { first = b; read = e; none = λ m t. let no : Ok m ≡ Err b = sym (payload_read m payload t) ∙ e in cc })

pub one_outcome : (payload : List ℕ) → IsBytes payload → IsRead payload ⊎ IsRefused payload
one_outcome payload all = outcome payload (message_read payload) all refl

-- what a call answered, seen as a text
pub found_from : (r : Result Message LayoutFault) (payload : List ℕ) → IsBytes payload → Gives (λ (m : Message). m) r (message_read payload) → IfOk r (λ m. PayloadText MessageText m payload)
found_from (Ok m) payload all h = payload_is payload m all h
found_from (Err e) payload all h = tt

pub only_from : (r : Result Message LayoutFault) (payload : List ℕ) (m : Message) → Gives (λ (n : Message). n) r (message_read payload) → PayloadText MessageText m payload → Gives (λ (n : Message). n) r (Ok m)
only_from r payload m h text =
    let P : Result Message Bad → Type 0 = λ q. Gives (λ (n : Message). n) r q in
    subst P (payload_read m payload text) h
