use Rattle.lat_slots.specs.Layout.{slot_text}
use Rattle.lat_slots.proofs.Written.{written_is_text, text_is_writable}
use Rattle.lat_slots.proofs.write.slot_ok.Goals as goal

pub returns-clause-text : goal.returns-clause-text
returns-clause-text c =
    let s = c.args.slot.now in
    (λ right. (slot_text s, written_is_text s (c.writable.ensures.0 right)), λ some. c.writable.ensures.1 (text_is_writable s some.0 some.1))
