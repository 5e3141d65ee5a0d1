-- What is read as a body is the body of the slot.
use Rattle.std.proofs.Common.{◌≡◌, ℕ, true, false, eqb, ltb, List, [], ◌∷◌, length, Ok, refl, subst, arith}
use Rattle.std.proofs.lemmas.Bool.Decides.{nat_tests}
use Rattle.lat_fields.proofs.Steps.{IsBytes}
use Rattle.lat_slots.specs.declared.kind.SlotKind.{SlotKind}
use Rattle.lat_slots.specs.declared.kind.SlotKind.TheVariants as kinds
use Rattle.lat_slots.specs.declared.slot.Slot.{Slot}
use Rattle.lat_slots.specs.declared.slot.Slot.TheVariants.{DataA, DataB, Attention, Reject, Stop}
use Rattle.lat_slots.specs.Reading.{headed, destination_fits, source_fits, count_fits, body_at}
use Rattle.lat_slots.proofs.StartFound.{FoundBody, start_found}

found_data : (most low to from count place : ℕ) (body : List ℕ) (s : Slot) → ltb 0 to ≡ true → ltb 0 from ≡ true → body_at most (headed kinds.DataA low to from count) place body ≡ Ok s → FoundBody (headed kinds.DataA low to from count) body s
unfolding body_at
found_data most low to from count place body s p q read =
    let same : DataA to from low body ≡ s = let e = read in cc in
    let P : Slot → Type 0 = FoundBody (headed kinds.DataA low to from count) body in
    subst P same (record { is = refl; type_is = refl; to_is = refl; from_is = refl; low_is = refl; fits = (grind (arith, nat_tests), grind (arith, nat_tests)) })

found_start : (most low to from count place : ℕ) (body : List ℕ) (s : Slot) → IsBytes body → ltb 0 from ≡ true → body_at most (headed kinds.Start low to from count) place body ≡ Ok s → FoundBody (headed kinds.Start low to from count) body s
unfolding body_at
found_start most low to from count place body s all q read = start_found most (headed kinds.Start low to from count) place body s all refl (grind (arith, nat_tests)) read

found_setting : (most low to from count place : ℕ) (body : List ℕ) (s : Slot) → eqb (length body) 5 ≡ true → ltb 0 to ≡ true → ltb 0 from ≡ true → body_at most (headed kinds.DataB low to from count) place body ≡ Ok s
    → FoundBody (headed kinds.DataB low to from count) body s
unfolding body_at
found_setting most low to from count place [] s five p q read = absurd (let no : false ≡ true = five in cc)
found_setting most low to from count place (flag ∷ chars) s five p q read =
    let same : DataB to from low flag chars ≡ s = let e = read in cc in
    let four : length chars ≡ 4 = grind (arith, nat_tests) in
    let P : Slot → Type 0 = FoundBody (headed kinds.DataB low to from count) (flag ∷ chars) in
    subst P same (record { is = refl; type_is = refl; to_is = refl; from_is = refl; low_is = refl; fits = (grind (arith, nat_tests), grind (arith, nat_tests), four) })

found_attention : (most low to from count place : ℕ) (body : List ℕ) (s : Slot) → eqb (length body) 1 ≡ true → ltb 0 to ≡ true → ltb 0 from ≡ true → body_at most (headed kinds.Attention low to from count) place body ≡ Ok s
    → FoundBody (headed kinds.Attention low to from count) body s
unfolding body_at
found_attention most low to from count place [] s one p q read = absurd (let no : false ≡ true = one in cc)
found_attention most low to from count place (x ∷ []) s one p q read =
    let same : Attention to from x ≡ s = let e = read in cc in
    let P : Slot → Type 0 = FoundBody (headed kinds.Attention low to from count) (x ∷ []) in
    subst P same (record { is = refl; type_is = refl; to_is = refl; from_is = refl; low_is = tt; fits = (grind (arith, nat_tests), grind (arith, nat_tests)) })
found_attention most low to from count place (x ∷ y ∷ body) s one p q read = absurd (grind (arith, nat_tests))

found_reject : (most low to from count place : ℕ) (body : List ℕ) (s : Slot) → eqb (length body) 0 ≡ true → ltb 0 to ≡ true → body_at most (headed kinds.Reject low to from count) place body ≡ Ok s → FoundBody (headed kinds.Reject low to from count) body s
unfolding body_at
found_reject most low to from count place [] s none p read =
    let same : Reject to from low ≡ s = let e = read in cc in
    let P : Slot → Type 0 = FoundBody (headed kinds.Reject low to from count) [] in
    subst P same (record { is = refl; type_is = refl; to_is = refl; from_is = refl; low_is = refl; fits = grind (arith, nat_tests) })
found_reject most low to from count place (x ∷ body) s none p read = absurd (grind (arith, nat_tests))

found_stop : (most low to from count place : ℕ) (body : List ℕ) (s : Slot) → eqb (length body) 0 ≡ true → ltb 0 to ≡ true → body_at most (headed kinds.Stop low to from count) place body ≡ Ok s → FoundBody (headed kinds.Stop low to from count) body s
unfolding body_at
found_stop most low to from count place [] s none p read =
    let same : Stop to from low ≡ s = let e = read in cc in
    let P : Slot → Type 0 = FoundBody (headed kinds.Stop low to from count) [] in
    subst P same (record { is = refl; type_is = refl; to_is = refl; from_is = refl; low_is = refl; fits = grind (arith, nat_tests) })
found_stop most low to from count place (x ∷ body) s none p read = absurd (grind (arith, nat_tests))

pub body_found : (k : SlotKind) (most low to from count place : ℕ) (body : List ℕ) (s : Slot) → IsBytes body → destination_fits k to ≡ true → source_fits k from ≡ true → count_fits k (length body) ≡ true
    → body_at most (headed k low to from count) place body ≡ Ok s → FoundBody (headed k low to from count) body s
body_found kinds.DataA most low to from count place body s all p q n read = found_data most low to from count place body s p q read
body_found kinds.Start most low to from count place body s all p q n read = found_start most low to from count place body s all q read
body_found kinds.DataB most low to from count place body s all p q n read = found_setting most low to from count place body s n p q read
body_found kinds.Attention most low to from count place body s all p q n read = found_attention most low to from count place body s n p q read
body_found kinds.Reject most low to from count place body s all p q n read = found_reject most low to from count place body s n p read
body_found kinds.Stop most low to from count place body s all p q n read = found_stop most low to from count place body s n p read
