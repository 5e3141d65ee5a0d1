-- From the function on lists to the texts.
use Rattle.std.proofs.Common.{◌≡◌, ℕ, List, drop, Result, Ok, Err, sym, ap, ◌∙◌, subst}
use Rattle.std.specs.Prelude.{IfOk}
use Rattle.lat_base.specs.declared.field.Bad.{Bad}
use Rattle.lat_fields.specs.declared.fault.LayoutFault.{LayoutFault}
use Rattle.lat_fields.specs.declared.fault.LayoutFault.TheVariants as faults
use Rattle.lat_fields.specs.Reading.{Gives}
use Rattle.lat_fields.proofs.Steps.{IsBytes}
use Rattle.lat_slots.specs.declared.slot.Slot.{Slot}
use Rattle.lat_slots.specs.Reading.{slot_at}
use Rattle.lat_slots.specs.Layout.{StandsAt}
use Rattle.lat_slots.proofs.SlotFound.{slot_found}
use Rattle.lat_slots.proofs.SlotTaken.{slot_taken}

-- a slot and the place behind it, with the bytes from there on
abbrev pub seen : List ℕ → (Slot × ℕ) → (Slot × ℕ × List ℕ)
seen payload x = (x.0, x.1, drop x.1 payload)

pub found_from : (r : Result (Slot × ℕ) LayoutFault) (at : ℕ) (payload bytes : List ℕ) → IsBytes bytes → Gives (seen payload) r (slot_at at bytes) → IfOk r (λ x. StandsAt at bytes x.0 x.1)
found_from (Ok x) at payload bytes all h =
    let f = slot_found at bytes (seen payload x) all h in
    record { text = f.text; rest = drop x.1 payload; is = f.is; slot = f.slot; ends = f.next }
found_from (Err e) at payload bytes all h = tt

answer_is : (r : Result (Slot × ℕ) LayoutFault) (payload rest : List ℕ) (s : Slot) (next : ℕ) → Gives (seen payload) r (Ok (s, next, rest)) → Gives (λ (x : Slot × ℕ). x) r (Ok (s, next))
answer_is (Ok x) payload rest s next h =
    let read : Slot × ℕ × List ℕ = (s, next, rest) in
    let same : read ≡ seen payload x = cc in
    ap (λ (y : Slot × ℕ × List ℕ). Ok (y.0, y.1)) same
answer_is (Err faults.Memory) payload rest s next h = tt
answer_is (Err (faults.Bad b)) payload rest s next h = absurd (let no : Ok (s, next, rest) ≡ Err b = h in cc)

pub only_from : (r : Result (Slot × ℕ) LayoutFault) (at : ℕ) (payload bytes : List ℕ) (s : Slot) (next : ℕ) → Gives (seen payload) r (slot_at at bytes) → StandsAt at bytes s next → Gives (λ (x : Slot × ℕ). x) r (Ok (s, next))
only_from r at payload bytes s next h stands =
    let read : slot_at at bytes ≡ Ok (s, next, stands.rest) =
    ap (slot_at at) stands.is ∙ slot_taken s stands.text at stands.rest stands.slot ∙ ap (λ (n : ℕ). Ok (s, n, stands.rest)) (sym stands.ends) in
    let P : Result (Slot × ℕ × List ℕ) Bad → Type 0 = λ q. Gives (seen payload) r q in
    answer_is r payload stands.rest s next (subst P read h)
