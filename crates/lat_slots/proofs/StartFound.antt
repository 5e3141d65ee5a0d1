-- What is read as the body of a start is one.
use Rattle.std.proofs.Common.{◌≡◌, ℕ, suc, ◌+◌, ◌<◌, eqb, ltb, List, [], ◌∷◌, ◌++◌, length, Result, Ok, refl, sym, ap, ◌∙◌, subst, arith, append-nil}
use Rattle.std.proofs.lemmas.Bool.Decides.{nat_tests}
use Rattle.lat_base.specs.declared.field.Bad.{Bad}
use Rattle.lat_base.specs.declared.field.Field.TheVariants.{ServiceClass, AttentionSize, DataSize, Service, Subject, SlotEnd}
use Rattle.lat_fields.specs.declared.params.Param.{Param}
use Rattle.lat_fields.specs.Reading.{◌>>=◌, bad, wanted, counted_at, name_at}
use Rattle.lat_fields.specs.ParamsReading.{params_at}
use Rattle.lat_fields.specs.Texts.{counted}
use Rattle.lat_fields.specs.Params.{params_text}
use Rattle.lat_fields.proofs.Steps.{IsBytes, bind_ok, wanted_ok, no_bytes}
use Rattle.lat_fields.proofs.Found.{counted_found, name_found, params_found}
use Rattle.lat_slots.specs.declared.head.SlotHead.{SlotHead}
use Rattle.lat_slots.specs.declared.kind.SlotKind.TheVariants as kinds
use Rattle.lat_slots.specs.declared.slot.Slot.{Slot}
use Rattle.lat_slots.specs.declared.slot.Slot.TheVariants.{Start}
use Rattle.lat_slots.specs.Reading.{asked_at, start_at}
use Rattle.lat_slots.specs.Layout.{body_of, type_of, to_of, from_of, HasLow, Fits}

-- a slot with this head and body
pub record FoundBody (h : SlotHead) (body : List ℕ) (s : Slot) : Type 0 where
  pub is : body ≡ body_of s
  pub type_is : type_of s ≡ h.kind
  pub to_is : to_of s ≡ h.to
  pub from_is : from_of s ≡ h.from
  pub low_is : HasLow s h.low
  pub fits : Fits s

-- what follows each field
abbrev after_params : SlotHead → ℕ → ℕ → List ℕ → List ℕ → (List Param × ℕ × List ℕ) → Result Slot Bad
after_params h attention size service subject params =
    wanted (eqb (length params.2) 0) SlotEnd params.1 >>= (λ w. Ok (Start h.to h.from h.low attention size service subject params.0))

abbrev after_subject : ℕ → SlotHead → ℕ → ℕ → List ℕ → (List ℕ × ℕ × List ℕ) → Result Slot Bad
after_subject most h attention size service subject = params_at most subject.1 subject.2 >>= after_params h attention size service subject.0

abbrev after_service : ℕ → SlotHead → ℕ → ℕ → (List ℕ × ℕ × List ℕ) → Result Slot Bad
after_service most h attention size service =
    counted_at Subject service.1 service.1 service.2 >>= after_subject most h attention size service.0

abbrev after_size : ℕ → SlotHead → ℕ → ℕ → ℕ → List ℕ → Unit {0} → Result Slot Bad
after_size most h attention size place bytes v = name_at Service (place + 1 + 1 + 1) bytes >>= after_service most h attention size

pub start_found : (most : ℕ) (h : SlotHead) (place : ℕ) (bytes : List ℕ) (s : Slot) → IsBytes bytes → h.kind ≡ kinds.Start → 0 < h.from → start_at most h place bytes ≡ Ok s → FoundBody h bytes s
unfolding start_at asked_at
start_found most h place [] s all kind source read = absurd (let no : bad ServiceClass place ≡ Ok s = read in cc)
start_found most h place (class ∷ []) s all kind source read =
    let one = bind_ok (wanted (eqb class 1) ServiceClass place) (λ u. bad AttentionSize (place + 1)) s read in
    absurd (let no : bad AttentionSize (place + 1) ≡ Ok s = one.2 in cc)
start_found most h place (class ∷ attention ∷ []) s all kind source read =
    let one = bind_ok (wanted (eqb class 1) ServiceClass place) (λ u. bad DataSize (place + 1 + 1)) s read in
    absurd (let no : bad DataSize (place + 1 + 1) ≡ Ok s = one.2 in cc)
start_found most h place (class ∷ attention ∷ size ∷ bytes) s all kind source read =
    let one = bind_ok (wanted (eqb class 1) ServiceClass place) (λ u. (wanted (ltb 0 size) DataSize (place + 1 + 1) >>= after_size most h attention size place bytes)) s read in
    let is_one : class ≡ 1 = let b = wanted_ok (eqb class 1) ServiceClass place one.0 one.1 in grind (arith, nat_tests) in
    let two = bind_ok (wanted (ltb 0 size) DataSize (place + 1 + 1)) (after_size most h attention size place bytes) s one.2 in
    let big : 0 < size = let b = wanted_ok (ltb 0 size) DataSize (place + 1 + 1) two.0 two.1 in grind (arith, nat_tests) in
    let service = bind_ok (name_at Service (place + 1 + 1 + 1) bytes) (after_service most h attention size) s two.2 in
    let named = name_found Service (place + 1 + 1 + 1) bytes service.0 (λ i. all (suc (suc (suc i)))) service.1 in
    let subject = bind_ok (counted_at Subject service.0.1 service.0.1 service.0.2) (after_subject most h attention size service.0.0) s service.2 in
    let text = counted_found Subject service.0.1 service.0.1 service.0.2 subject.0 named.0.others subject.1 in
    let params = bind_ok (params_at most subject.0.1 subject.0.2) (after_params h attention size service.0.0 subject.0.0) s subject.2 in
    let entries = params_found most subject.0.1 subject.0.2 params.0 text.others params.1 in
    let ended = bind_ok (wanted (eqb (length params.0.2) 0) SlotEnd params.0.1) (λ w. Ok (Start h.to h.from h.low attention size service.0.0 subject.0.0 params.0.0)) s params.2 in
    let none : params.0.2 ≡ [] = no_bytes params.0.2 (wanted_ok (eqb (length params.0.2) 0) SlotEnd params.0.1 ended.0 ended.1) in
    let e : Start h.to h.from h.low attention size service.0.0 subject.0.0 params.0.0 ≡ s = let same = ended.2 in cc in
    let P : Slot → Type 0 = FoundBody h (class ∷ attention ∷ size ∷ bytes) in
    let is : bytes ≡ counted service.0.0 ++ (counted subject.0.0 ++ params_text params.0.0) =
    named.0.is ∙ ap (λ bs. counted service.0.0 ++ bs) (text.is ∙ ap (λ bs. counted subject.0.0 ++ bs) (entries.is ∙ ap (λ bs. params_text params.0.0 ++ bs) none ∙ append-nil (params_text params.0.0))) in
    subst P e (record {
      is = (λ i. is_one i ∷ attention ∷ size ∷ is i);
      type_is = sym kind;
      to_is = refl;
      from_is = refl;
      low_is = refl;
      fits = (source, big, named.1, text.short, entries.entries);
    })
