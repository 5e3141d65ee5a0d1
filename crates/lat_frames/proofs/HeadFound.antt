-- What is read of slots and circuits is their text.
use Rattle.std.proofs.Common.{◌≡◌, ℕ, zero, suc, ◌<◌, Bool, true, List, [], ◌∷◌, ◌++◌, length, Result, Ok, refl, sym, ap, ◌∙◌, subst, append_assoc}
use Rattle.lat_base.specs.declared.field.Bad.{Bad}
use Rattle.lat_base.specs.declared.field.Field.TheVariants.{SlotCount, DestinationCircuit, SourceCircuit}
use Rattle.lat_fields.specs.Reading.{◌>>=◌, wanted, byte_at, number_at}
use Rattle.lat_fields.specs.Texts.{number}
use Rattle.lat_fields.proofs.Steps.{IsBytes, bind_ok, wanted_ok}
use Rattle.lat_fields.proofs.Found.{byte_found, number_found}
use Rattle.lat_slots.specs.declared.slot.Slot.{Slot}
use Rattle.lat_slots.specs.Reading.{slot_at}
use Rattle.lat_slots.proofs.SlotFound.{slot_found}
use Rattle.lat_frames.specs.declared.kind.MessageKind.{MessageKind}
use Rattle.lat_frames.specs.declared.read_head.Circuits.{Circuits}
use Rattle.lat_frames.specs.MessageText.{SlotsText}
use Rattle.lat_frames.specs.Reading.{destination_fits, source_fits, circuits_at, slots_at}
use Rattle.lat_frames.proofs.Taken.{circuits}

pub record FoundSlots (count : ℕ) (bytes : List ℕ) (x : List Slot × ℕ × List ℕ) : Type 0 where
  pub body : List ℕ
  pub texts : SlotsText x.0 body
  pub count_is : length x.0 ≡ count
  pub is : bytes ≡ body ++ x.2

pub slots_found : (count place : ℕ) (bytes : List ℕ) (x : List Slot × ℕ × List ℕ) → IsBytes bytes → slots_at count place bytes ≡ Ok x → FoundSlots count bytes x
unfolding slots_at
slots_found zero place bytes x all h =
    let e : ([], place, bytes) ≡ x = cc in
    let P : (List Slot × ℕ × List ℕ) → Type 0 = FoundSlots 0 bytes in
    subst P e (record { body = []; texts = refl; count_is = refl; is = refl })
slots_found (suc count) place bytes x all h =
    let s = bind_ok (slot_at place bytes) (λ s. (slots_at count s.1 s.2 >>= (λ more. Ok (s.0 ∷ more.0, more.1, more.2)))) x h in
    let f = slot_found place bytes s.0 all s.1 in
    let m = bind_ok (slots_at count s.0.1 s.0.2) (λ more. Ok (s.0.0 ∷ more.0, more.1, more.2)) x s.2 in
    let g = slots_found count s.0.1 s.0.2 m.0 f.others m.1 in
    let e : (s.0.0 ∷ m.0.0, m.0.1, m.0.2) ≡ x = let same = m.2 in cc in
    let P : (List Slot × ℕ × List ℕ) → Type 0 = FoundSlots (suc count) bytes in
    subst P e (record {
      body = f.text ++ g.body;
      texts = (f.text, g.body, refl, f.slot, g.texts);
      count_is = ap suc g.count_is;
      is = f.is ∙ ap (λ bs. f.text ++ bs) g.is ∙ sym (append_assoc f.text g.body m.0.2);
    })

pub record FoundCircuits (kind : MessageKind) (master : Bool) (bytes : List ℕ) (x : Circuits × ℕ × List ℕ) : Type 0 where
  pub is : bytes ≡ x.0.slots ∷ number x.0.to ++ (number x.0.from ++ x.2)
  pub slots : x.0.slots < 256
  pub destination : destination_fits kind master x.0.to ≡ true
  pub source : source_fits kind x.0.from ≡ true
  pub others : IsBytes x.2

abbrev Read : Type 0
Read = ℕ × ℕ × List ℕ

abbrev after_source : Read → Read → Read → Unit {0} → Result (Circuits × ℕ × List ℕ) Bad
after_source slots to from u = Ok (circuits slots.0 to.0 from.0, from.1, from.2)

abbrev after_from : MessageKind → Read → Read → Read → Result (Circuits × ℕ × List ℕ) Bad
after_from kind slots to from = wanted (source_fits kind from.0) SourceCircuit to.1 >>= after_source slots to from

abbrev after_destination : MessageKind → Read → Read → Unit {0} → Result (Circuits × ℕ × List ℕ) Bad
after_destination kind slots to u = number_at SourceCircuit to.1 to.2 >>= after_from kind slots to

abbrev after_to : MessageKind → Bool → Read → Read → Result (Circuits × ℕ × List ℕ) Bad
after_to kind master slots to = wanted (destination_fits kind master to.0) DestinationCircuit slots.1 >>= after_destination kind slots to

abbrev after_slots : MessageKind → Bool → Read → Result (Circuits × ℕ × List ℕ) Bad
after_slots kind master slots = number_at DestinationCircuit slots.1 slots.2 >>= after_to kind master slots

pub circuits_found : (kind : MessageKind) (master : Bool) (place : ℕ) (bytes : List ℕ) (x : Circuits × ℕ × List ℕ) → IsBytes bytes → circuits_at kind master place bytes ≡ Ok x → FoundCircuits kind master bytes x
unfolding circuits_at
circuits_found kind master place bytes x all h =
    let slots = bind_ok (byte_at SlotCount place place bytes) (after_slots kind master) x h in
    let f = byte_found SlotCount place place bytes slots.0 all slots.1 in
    let to = bind_ok (number_at DestinationCircuit slots.0.1 slots.0.2) (after_to kind master slots.0) x slots.2 in
    let g = number_found DestinationCircuit slots.0.1 slots.0.2 to.0 f.others to.1 in
    let d = bind_ok (wanted (destination_fits kind master to.0.0) DestinationCircuit slots.0.1) (after_destination kind slots.0 to.0) x to.2 in
    let from = bind_ok (number_at SourceCircuit to.0.1 to.0.2) (after_from kind slots.0 to.0) x d.2 in
    let k = number_found SourceCircuit to.0.1 to.0.2 from.0 g.others from.1 in
    let s = bind_ok (wanted (source_fits kind from.0.0) SourceCircuit to.0.1) (after_source slots.0 to.0 from.0) x from.2 in
    let e : (circuits slots.0.0 to.0.0 from.0.0, from.0.1, from.0.2) ≡ x = let same = s.2 in cc in
    let P : (Circuits × ℕ × List ℕ) → Type 0 = FoundCircuits kind master bytes in
    subst P e (record {
      is = f.is ∙ ap (λ bs. slots.0.0 ∷ bs) (g.is ∙ ap (λ bs. number to.0.0 ++ bs) k.is);
      slots = f.byte;
      destination = wanted_ok (destination_fits kind master to.0.0) DestinationCircuit slots.0.1 d.0 d.1;
      source = wanted_ok (source_fits kind from.0.0) SourceCircuit to.0.1 s.0 s.1;
      others = k.others;
    })
