-- What is read of the fields that notices alone have is their texts.
use Rattle.std.proofs.Common.{◌≡◌, ℕ, zero, suc, ◌≤◌, Bool, true, eqb, leb, ltb, List, [], ◌∷◌, ◌++◌, length, Some, Result, Ok, refl, sym, ap, ◌∙◌, subst, arith, append_assoc}
use Rattle.std.specs.List.{flat_map, AllByRecursion}
use Rattle.std.proofs.lemmas.Bool.Decides.{nat_tests}
use Rattle.lat_base.specs.declared.field.Bad.{Bad}
use Rattle.lat_base.specs.declared.field.Field.{Field}
use Rattle.lat_base.specs.declared.field.Field.TheVariants as fields
use Rattle.lat_base.specs.declared.kept.Kept.TheVariants.{Waiting, Granted, Cancelled, QueueFull, NoService, RecordsFull, Done}
use Rattle.lat_fields.specs.Reading.{◌>>=◌, wanted, known, byte_at, number_at, counted_at, name_at}
use Rattle.lat_fields.specs.Texts.{counted, number}
use Rattle.lat_fields.proofs.Steps.{IsBytes, bind_ok, wanted_ok, known_ok}
use Rattle.lat_fields.proofs.Found.{FoundByte, FoundText, byte_found, number_found, counted_found, name_found}
use Rattle.lat_notices.specs.declared.notice.Action.{Action}
use Rattle.lat_notices.specs.declared.notice.Outcome.{Outcome}
use Rattle.lat_notices.specs.declared.notice.Outcome.TheVariants.{Kept, Unknown}
use Rattle.lat_notices.specs.declared.services.Service.{Service}
use Rattle.lat_notices.specs.Outcomes.{action_number, action_of, outcome_number, outcome_place, IsOutcome, outcome_of, place_fits, placed}
use Rattle.lat_notices.specs.Services.{HasName, HasShortDescription, service_text}
use Rattle.lat_notices.specs.Fields.{byte_for, groups_at, action_at, outcome_at}
use Rattle.lat_notices.specs.ServicesReading.{service, service_at, services_at}

pub right_byte_found : (right : ℕ → Bool) (f : Field) (place : ℕ) (bytes : List ℕ) (x : ℕ × ℕ × List ℕ) → IsBytes bytes → byte_for right f place bytes ≡ Ok x → FoundByte place bytes x × right x.0 ≡ true
unfolding byte_for
right_byte_found right f place bytes x all h =
    let b = bind_ok (byte_at f place place bytes) (λ b. (wanted (right b.0) f place >>= (λ w. Ok b))) x h in
    let w = bind_ok (wanted (right b.0.0) f place) (λ w. Ok b.0) x b.2 in
    let e : b.0 ≡ x = let same = w.2 in cc in
    let P : (ℕ × ℕ × List ℕ) → Type 0 = λ y. FoundByte place bytes y × right y.0 ≡ true in
    subst P e (byte_found f place place bytes b.0 all b.1, wanted_ok (right b.0.0) f place w.0 w.1)

pub groups_found : (place : ℕ) (bytes : List ℕ) (x : List ℕ × ℕ × List ℕ) → IsBytes bytes → groups_at place bytes ≡ Ok x → FoundText place bytes x × length x.0 ≤ 32
unfolding groups_at
groups_found place bytes x all h =
    let m = bind_ok (counted_at fields.Groups place place bytes) (λ m. (wanted (leb (length m.0) 32) fields.Groups place >>= (λ w. Ok m))) x h in
    let w = bind_ok (wanted (leb (length m.0.0) 32) fields.Groups place) (λ w. Ok m.0) x m.2 in
    let e : m.0 ≡ x = let same = w.2 in cc in
    let small : length m.0.0 ≤ 32 = let b = wanted_ok (leb (length m.0.0) 32) fields.Groups place w.0 w.1 in grind (arith, nat_tests) in
    let P : (List ℕ × ℕ × List ℕ) → Type 0 = λ y. FoundText place bytes y × length y.0 ≤ 32 in
    subst P e (counted_found fields.Groups place place bytes m.0 all m.1, small)

action_is : (n : ℕ) (a : Action) → action_of n ≡ Some a → n ≡ action_number a
action_is n a is = grind (arith, nat_tests)

pub record FoundAction (bytes : List ℕ) (x : Action × ℕ × List ℕ) : Type 0 where
  pub is : bytes ≡ action_number x.0 ∷ x.2
  pub others : IsBytes x.2

pub action_found : (place : ℕ) (bytes : List ℕ) (x : Action × ℕ × List ℕ) → IsBytes bytes → action_at place bytes ≡ Ok x → FoundAction bytes x
unfolding action_at
action_found place bytes x all h =
    let n = bind_ok (byte_at fields.Action place place bytes) (λ n. (known (action_of n.0) fields.Action place >>= (λ a. Ok (a, n.1, n.2)))) x h in
    let f = byte_found fields.Action place place bytes n.0 all n.1 in
    let a = bind_ok (known (action_of n.0.0) fields.Action place) (λ a. Ok (a, n.0.1, n.0.2)) x n.2 in
    let e : (a.0, n.0.1, n.0.2) ≡ x = let same = a.2 in cc in
    let back : n.0.0 ≡ action_number a.0 = action_is n.0.0 a.0 (known_ok (action_of n.0.0) fields.Action place a.0 a.1) in
    let P : (Action × ℕ × List ℕ) → Type 0 = FoundAction bytes in
    subst P e (record { is = f.is ∙ ap (λ k. k ∷ n.0.2) back; others = f.others })

outcome_is : (n : ℕ) (o : Outcome) → outcome_of n ≡ Some o → n ≡ outcome_number o
outcome_is n o is = grind (arith, nat_tests)

-- what an outcome and a place that fits it tell of the two together
record Stands (o : Outcome) (place : ℕ) : Type 0 where
  number_is : outcome_number o ≡ outcome_number (placed o place)
  place_is : place ≡ outcome_place (placed o place)
  fits : IsOutcome (placed o place)

none : (place : ℕ) → eqb place 0 ≡ true → place ≡ 0
none place h = grind (arith, nat_tests)

stands : (o : Outcome) (place : ℕ) → place_fits o place ≡ true → Stands o place
stands (Kept (Waiting unplaced)) place h =
    let some : ltb 0 place ≡ true = h in
    record { number_is = refl; place_is = refl; fits = grind (arith, nat_tests) }
stands (Kept Granted) place h = record { number_is = refl; place_is = none place h; fits = tt }
stands (Kept Cancelled) place h = record { number_is = refl; place_is = none place h; fits = tt }
stands (Kept QueueFull) place h = record { number_is = refl; place_is = none place h; fits = tt }
stands (Kept NoService) place h = record { number_is = refl; place_is = none place h; fits = tt }
stands (Kept RecordsFull) place h = record { number_is = refl; place_is = none place h; fits = tt }
stands (Kept Done) place h = record { number_is = refl; place_is = none place h; fits = tt }
stands Unknown place h = record { number_is = refl; place_is = none place h; fits = tt }

pub record FoundOutcome (bytes : List ℕ) (x : Outcome × ℕ × List ℕ) : Type 0 where
  pub is : bytes ≡ outcome_number x.0 ∷ number (outcome_place x.0) ++ x.2
  pub fits : IsOutcome x.0
  pub others : IsBytes x.2

abbrev outcome_given : Outcome → (ℕ × ℕ × List ℕ) → Result (Outcome × ℕ × List ℕ) Bad
outcome_given outcome queue = Ok (placed outcome queue.0, queue.1, queue.2)

abbrev after_place : Outcome → ℕ → (ℕ × ℕ × List ℕ) → Result (Outcome × ℕ × List ℕ) Bad
after_place outcome place queue = wanted (place_fits outcome queue.0) fields.Place place >>= (λ w. outcome_given outcome queue)

abbrev after_outcome : (ℕ × ℕ × List ℕ) → Outcome → Result (Outcome × ℕ × List ℕ) Bad
after_outcome number outcome = number_at fields.Place number.1 number.2 >>= after_place outcome number.1

outcome_joined : (bytes : List ℕ) (n q : ℕ × ℕ × List ℕ) (o : Outcome) (x : Outcome × ℕ × List ℕ) → n.0 ≡ outcome_number o → Stands o q.0 → bytes ≡ n.0 ∷ n.2 → n.2 ≡ number q.0 ++ q.2
    → IsBytes q.2 → outcome_given o q ≡ Ok x → FoundOutcome bytes x
outcome_joined bytes n q o x known_is s is1 is2 others same =
    let e : (placed o q.0, q.1, q.2) ≡ x = cc in
    let number_is = known_is ∙ s.number_is in
    let P : (Outcome × ℕ × List ℕ) → Type 0 = FoundOutcome bytes in
    subst P e (record {
      is = is1 ∙ ap (λ r. n.0 ∷ r) is2 ∙ (λ i. number_is i ∷ number (s.place_is i) ++ q.2);
      fits = s.fits;
      others = others;
    })

pub outcome_found : (place : ℕ) (bytes : List ℕ) (x : Outcome × ℕ × List ℕ) → IsBytes bytes → outcome_at place bytes ≡ Ok x → FoundOutcome bytes x
unfolding outcome_at
outcome_found place bytes x all h =
    let n = bind_ok (byte_at fields.Outcome place place bytes) (λ n. (known (outcome_of n.0) fields.Outcome place >>= after_outcome n)) x h in
    let f = byte_found fields.Outcome place place bytes n.0 all n.1 in
    let o = bind_ok (known (outcome_of n.0.0) fields.Outcome place) (after_outcome n.0) x n.2 in
    let q = bind_ok (number_at fields.Place n.0.1 n.0.2) (after_place o.0 n.0.1) x o.2 in
    let g = number_found fields.Place n.0.1 n.0.2 q.0 f.others q.1 in
    let w = bind_ok (wanted (place_fits o.0 q.0.0) fields.Place n.0.1) (λ w. outcome_given o.0 q.0) x q.2 in
    let s = stands o.0 q.0.0 (wanted_ok (place_fits o.0 q.0.0) fields.Place n.0.1 w.0 w.1) in
    let number_is = outcome_is n.0.0 o.0 (known_ok (outcome_of n.0.0) fields.Outcome place o.0 o.1) in
    outcome_joined bytes n.0 q.0 o.0 x number_is s f.is g.is g.others w.2

pub record FoundService (bytes : List ℕ) (x : Service × ℕ × List ℕ) : Type 0 where
  pub is : bytes ≡ service_text x.0 ++ x.2
  pub named : HasName x.0
  pub short : HasShortDescription x.0
  pub others : IsBytes x.2

abbrev after_description : ℕ → List ℕ → (List ℕ × ℕ × List ℕ) → Result (Service × ℕ × List ℕ) Bad
after_description rating name d = Ok (service rating name d.0, d.1, d.2)

abbrev after_name : ℕ → (List ℕ × ℕ × List ℕ) → Result (Service × ℕ × List ℕ) Bad
after_name rating n = counted_at fields.ServiceDescription n.1 n.1 n.2 >>= after_description rating n.0

service_of_fields : (place : ℕ) (bytes : List ℕ) (x : Service × ℕ × List ℕ) (r : ℕ × ℕ × List ℕ) (n d : List ℕ × ℕ × List ℕ) → IsBytes bytes
    → byte_at fields.Rating place place bytes ≡ Ok r → name_at fields.Service r.1 r.2 ≡ Ok n → counted_at fields.ServiceDescription n.1 n.1 n.2 ≡ Ok d
    → after_description r.0 n.0 d ≡ Ok x → FoundService bytes x
service_of_fields place bytes x r n d all r_read n_read d_read last =
    let one = byte_found fields.Rating place place bytes r all r_read in
    let two = name_found fields.Service r.1 r.2 n one.others n_read in
    let three = counted_found fields.ServiceDescription n.1 n.1 n.2 d two.0.others d_read in
    let e : (service r.0 n.0 d.0, d.1, d.2) ≡ x = cc in
    let regroup : r.0 ∷ (counted n.0 ++ (counted d.0 ++ d.2)) ≡ service_text (service r.0 n.0 d.0) ++ d.2 = simp append_assoc in
    let P : (Service × ℕ × List ℕ) → Type 0 = FoundService bytes in
    subst P e (record {
      is = one.is ∙ ap (λ bs. r.0 ∷ bs) (two.0.is ∙ ap (λ bs. counted n.0 ++ bs) three.is) ∙ regroup;
      named = two.1;
      short = three.short;
      others = three.others;
    })

service_found : (place : ℕ) (bytes : List ℕ) (x : Service × ℕ × List ℕ) → IsBytes bytes → service_at place bytes ≡ Ok x → FoundService bytes x
unfolding service_at
service_found place bytes x all h =
    let r = bind_ok (byte_at fields.Rating place place bytes) (λ r. (name_at fields.Service r.1 r.2 >>= after_name r.0)) x h in
    let n = bind_ok (name_at fields.Service r.0.1 r.0.2) (after_name r.0.0) x r.2 in
    let d = bind_ok (counted_at fields.ServiceDescription n.0.1 n.0.1 n.0.2) (after_description r.0.0 n.0.0) x n.2 in
    service_of_fields place bytes x r.0 n.0 d.0 all r.1 n.1 d.1 d.2

pub record FoundServices (count : ℕ) (bytes : List ℕ) (x : List Service × ℕ × List ℕ) : Type 0 where
  pub is : bytes ≡ flat_map service_text x.0 ++ x.2
  pub all : length x.0 ≡ count
  pub named : AllByRecursion HasName x.0
  pub short : AllByRecursion HasShortDescription x.0
  pub others : IsBytes x.2

pub services_found : (count place : ℕ) (bytes : List ℕ) (x : List Service × ℕ × List ℕ) → IsBytes bytes → services_at count place bytes ≡ Ok x → FoundServices count bytes x
unfolding services_at
services_found zero place bytes x all h =
    let e : ([], place, bytes) ≡ x = let same = h in cc in
    let P : (List Service × ℕ × List ℕ) → Type 0 = FoundServices 0 bytes in
    subst P e (record { is = refl; all = refl; named = tt; short = tt; others = all })
services_found (suc count) place bytes x all h =
    let s = bind_ok (service_at place bytes) (λ s. (services_at count s.1 s.2 >>= (λ m. Ok (s.0 ∷ m.0, m.1, m.2)))) x h in
    let one = service_found place bytes s.0 all s.1 in
    let m = bind_ok (services_at count s.0.1 s.0.2) (λ m. Ok (s.0.0 ∷ m.0, m.1, m.2)) x s.2 in
    let more = services_found count s.0.1 s.0.2 m.0 one.others m.1 in
    let e : (s.0.0 ∷ m.0.0, m.0.1, m.0.2) ≡ x = let same = m.2 in cc in
    let P : (List Service × ℕ × List ℕ) → Type 0 = FoundServices (suc count) bytes in
    subst P e (record {
      is = one.is ∙ ap (λ bs. service_text s.0.0 ++ bs) more.is ∙ sym (append_assoc (service_text s.0.0) (flat_map service_text m.0.0) m.0.2);
      all = ap suc more.all;
      named = (one.named, more.named);
      short = (one.short, more.short);
      others = more.others;
    })
