-- The payloads of frames.
use Rattle.std.proofs.Common.{◌≡◌, ℕ, Bool, false, List, ◌++◌, length, refl, sym, ap, ◌∙◌, slice_set, Option, Some}
use Rattle.std.proofs.lemmas.List.{length-map}
use Rattle.lat_model.specs.sessions.Slots.{Slot}
use Rattle.lat_seq.specs.declared.span.Span.{Span}
use Rattle.lat_seq.specs.declared.span.Span.TheVariants.{Byte, Word}
use Rattle.lat_seq.specs.Spans.{field}
use Rattle.lat_stream.specs.Wire.{formed_as}
use Rattle.lat_circuit.specs.declared.ids.Ids.{Ids}
use Rattle.lat_circuit.specs.Payloads.{run_text, run_payload, head_bytes, frame_head, slots_as_text, acknowledged}

-- the acknowledgement may be replaced in the payload
pub run_acknowledged : (ids : Ids) (span : Span) (ask : Bool) (n a b : ℕ) (body : Option (List Slot)) → acknowledged span (run_payload ids span ask (record { number = n; acknowledgement = a; body = body })) (field span b) ≡ run_payload ids span ask (record { number = n; acknowledgement = b; body = body })
run_acknowledged ids Byte ask n a b body = refl
run_acknowledged ids Word ask n a b body = refl

-- the number of slots may be replaced in a text
pub run_formed : (ids : Ids) (span : Span) (n a : ℕ) (m : List Slot) (slots : ℕ) → length m ≡ slots → slice_set (frame_head ids span false (record { number = n; acknowledgement = a; body = Some m }) 0 ++ slots_as_text m) 1 slots ≡ run_text ids span false (record { number = n; acknowledgement = a; body = Some m })
run_formed ids Byte n a m slots e =
    ap (λ c. head_bytes ids Byte false c (field Byte n) (field Byte a) ++ slots_as_text m) (sym e ∙ sym (length-map m formed_as))
run_formed ids Word n a m slots e =
    ap (λ c. head_bytes ids Word false c (field Word n) (field Word a) ++ slots_as_text m) (sym e ∙ sym (length-map m formed_as))
