-- A slot that was read tells a slot that can be written.
use Rattle.std.proofs.Common.{ℕ, ◌<◌, List, [], ◌∷◌, map, ap, arith, suc}
use Rattle.std.specs.List.{AllByRecursion}
use Rattle.lat_slots.specs.declared.slot.Slot.{Slot}
use Rattle.lat_slots.specs.declared.slot.Slot.TheVariants.{Start, DataA, DataB, Attention, Reject, Stop}
use Rattle.lat_slots.specs.Layout.{SlotText, IsWritable}
use Rattle.lat_frames.specs.MessageText.{SlotsText}
use Rattle.lat_stream.specs.Wire.{slot_heard, formed_as, request_in}
use Rattle.lat_stream.proofs.FormsWritable.{start_formed, bytes_formed, setting_formed, attention_formed, reject_formed, stop_formed}

slot_formed : (s : Slot) (text : List ℕ) → SlotText s text → IsWritable (formed_as (slot_heard s))
slot_formed (Start to from credits attention size service subject params) text t =
    let low : credits < 16 = omega (arith, t.low_is, t.nibble) in
    (start_formed to from credits size service (request_in params) t.fits.0 t.fits.1 low t.fits.2).writable
slot_formed (DataA to from credits bytes) text t =
    let low : credits < 16 = omega (arith, t.low_is, t.nibble) in
    (bytes_formed to from credits bytes t.fits.0 t.fits.1 low t.count).writable
slot_formed (DataB to from credits flag chars) text t =
    let low : credits < 16 = omega (arith, t.low_is, t.nibble) in
    (setting_formed to from credits (flag ∷ chars) t.fits.0 t.fits.1 low (ap suc t.fits.2)).writable
slot_formed (Attention to from flag) text t = (attention_formed to from flag t.fits.0 t.fits.1).writable
slot_formed (Reject to from reason) text t =
    let low : reason < 16 = omega (arith, t.low_is, t.nibble) in
    (reject_formed to from reason t.fits low).writable
slot_formed (Stop to from reason) text t =
    let low : reason < 16 = omega (arith, t.low_is, t.nibble) in
    (stop_formed to from reason t.fits low).writable

pub slots_formed : (ss : List Slot) (body : List ℕ) → SlotsText ss body → AllByRecursion IsWritable (map formed_as (map slot_heard ss))
slots_formed [] body t = tt
slots_formed (s ∷ ss) body t = (slot_formed s t.0 t.3, slots_formed ss t.1 t.4)
