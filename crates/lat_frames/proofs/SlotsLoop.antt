-- The loop over slots.
use Rattle.std.proofs.Common.{◌≡◌, ℕ, suc, List, [], ◌∷◌, ◌++◌, append_assoc, append-nil, Result, Ok, Err, refl, sym, ap, ◌∙◌}
use Rattle.lat_base.specs.declared.field.Bad.{Bad}
use Rattle.lat_fields.specs.declared.fault.LayoutFault.{LayoutFault}
use Rattle.lat_fields.specs.declared.fault.LayoutFault.TheVariants as faults
use Rattle.lat_fields.specs.Reading.{◌>>=◌, Fails}
use Rattle.lat_slots.specs.declared.slot.Slot.{Slot}
use Rattle.lat_slots.specs.Reading.{slot_at}
use Rattle.lat_frames.specs.Reading.{slots_at}

-- what was read, behind these
abbrev pub with_front : List Slot → Result (List Slot × ℕ × List ℕ) Bad → Result (List Slot × ℕ × List ℕ) Bad
with_front front read = read >>= (λ x. Ok (front ++ x.0, x.1, x.2))

with_front-more : (front : List Slot) (s : Slot) (read : Result (List Slot × ℕ × List ℕ) Bad) → with_front (front ++ s ∷ []) read ≡ with_front front (read >>= (λ more. Ok (s ∷ more.0, more.1, more.2)))
with_front-more front s (Ok x) = ap (λ ss. Ok (ss, x.1, x.2)) (append_assoc front (s ∷ []) x.0)
with_front-more front s (Err b) = refl

pub none_yet : (read : Result (List Slot × ℕ × List ℕ) Bad) → with_front [] read ≡ read
none_yet (Ok x) = refl
none_yet (Err b) = refl

-- no slot is left
pub ends : (front : List Slot) (n at : ℕ) (bytes : List ℕ) (all : Result (List Slot × ℕ × List ℕ) Bad)
    → with_front front (slots_at n at bytes) ≡ all → n ≡ 0 → all ≡ Ok (front, at, bytes)
unfolding slots_at
ends front n at bytes all same is =
    sym same ∙ ap (λ m. with_front front (slots_at m at bytes)) is ∙ ap (λ ss. Ok (ss, at, bytes)) (append-nil front)

-- a slot more
pub goes_on : (front : List Slot) (k n at : ℕ) (bytes : List ℕ) (s : Slot) (next : ℕ) (rest : List ℕ) (all : Result (List Slot × ℕ × List ℕ) Bad)
    → with_front front (slots_at n at bytes) ≡ all → n ≡ suc k → slot_at at bytes ≡ Ok (s, next, rest) → with_front (front ++ s ∷ []) (slots_at k next rest) ≡ all
unfolding slots_at
goes_on front k n at bytes s next rest all same is read =
    with_front-more front s (slots_at k next rest)
    ∙ sym (sym same ∙ ap (λ m. with_front front (slots_at m at bytes)) is ∙ rw read refl)

-- a fault in a slot
pub no_slot : (e : LayoutFault) (front : List Slot) (k n at : ℕ) (bytes : List ℕ) (all : Result (List Slot × ℕ × List ℕ) Bad)
    → with_front front (slots_at n at bytes) ≡ all → n ≡ suc k → Fails e (slot_at at bytes) → Fails e all
unfolding slots_at
no_slot faults.Memory front k n at bytes all same is read = tt
no_slot (faults.Bad b) front k n at bytes all same is read = sym same ∙ ap (λ m. with_front front (slots_at m at bytes)) is ∙ rw read refl
