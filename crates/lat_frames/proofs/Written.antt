-- Of which messages there is a text.
use Rattle.std.proofs.Common.{◌≡◌, ℕ, ◌≤◌, List, [], ◌∷◌, length, refl, sym, ap, ◌∙◌, arith, length-append}
use Rattle.std.specs.List.{AllByRecursion}
use Rattle.lat_slots.specs.declared.slot.Slot.{Slot}
use Rattle.lat_slots.specs.Layout.{SlotText, slot_text}
use Rattle.lat_slots.specs.Layout.{IsWritable as SlotIsWritable}
use Rattle.lat_slots.proofs.SlotTaken.{text_length}
use Rattle.lat_slots.proofs.Written.{written_is_text as slot_written, text_is_writable as slot_writable}
use Rattle.lat_frames.specs.declared.message.Message.{Message}
use Rattle.lat_frames.specs.declared.message.Message.TheVariants.{Run, Wide, Start, Stop}
use Rattle.lat_frames.specs.MessageText.{SlotsText, MessageText}
use Rattle.lat_frames.specs.Written.{IsWritable, message_text, slots_text}

slots_written : (ss : List Slot) → AllByRecursion SlotIsWritable ss → SlotsText ss (slots_text ss)
slots_written [] all = refl
slots_written (s ∷ ss) all = (slot_text s, slots_text ss, refl, slot_written s all.0, slots_written ss all.1)

slots_writable : (ss : List Slot) (b : List ℕ) → SlotsText ss b → AllByRecursion SlotIsWritable ss
slots_writable [] b h = tt
slots_writable (s ∷ ss) b h = (slot_writable s h.0 h.3, slots_writable ss h.1 h.4)

-- all texts of a slot have one length
slot_length : (s : Slot) (b : List ℕ) → SlotText s b → length (slot_text s) ≡ length b
slot_length s b t = text_length s (slot_text s) (slot_written s (slot_writable s b t)) ∙ sym (text_length s b t)

slots_length : (ss : List Slot) (b : List ℕ) → SlotsText ss b → length (slots_text ss) ≡ length b
slots_length [] b h = sym (ap length h)
slots_length (s ∷ ss) b h =
    omega (arith, length-append (slot_text s) (slots_text ss), length-append h.0 h.1, ap length h.2, slot_length s h.0 h.3, slots_length ss h.1 h.4)

-- what is written is a text
pub written_is_text : (m : Message) → IsWritable m → MessageText m (message_text m)
written_is_text (Run head slots) w =
    record { destination = w.fits.0; source = w.fits.1; count = w.fits.2; body = slots_text slots; texts = slots_written slots w.fits.3; is = refl }
written_is_text (Wide head slots) w =
    record { destination = w.fits.0; source = w.fits.1; count = w.fits.2; body = slots_text slots; texts = slots_written slots w.fits.3; is = refl }
written_is_text (Start master ask to from info) w =
    record { destination = w.fits.0; source = w.fits.1; fits = w.fits.2; slots = 0; seq = 0; ack = 0; is = refl }
written_is_text (Stop master ask to from reason text) w =
    record { destination = w.fits.0; short = w.fits.1; slots = 0; seq = 0; ack = 0; is = refl }

-- what has a text can be written
pub text_is_writable : (m : Message) (b : List ℕ) → MessageText m b → length b ≤ 1500 → IsWritable m
text_is_writable (Run head slots) b t room =
    record { fits = (t.destination, t.source, t.count, slots_writable slots t.body t.texts); room = omega (arith, ap length t.is, slots_length slots t.body t.texts, room) }
text_is_writable (Wide head slots) b t room =
    record { fits = (t.destination, t.source, t.count, slots_writable slots t.body t.texts); room = omega (arith, ap length t.is, slots_length slots t.body t.texts, room) }
text_is_writable (Start master ask to from info) b t room =
    record { fits = (t.destination, t.source, t.fits); room = omega (arith, ap length t.is, room) }
text_is_writable (Stop master ask to from reason text) b t room =
    record { fits = (t.destination, t.short); room = omega (arith, ap length t.is, room) }
