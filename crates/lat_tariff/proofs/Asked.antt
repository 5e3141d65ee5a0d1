-- The rule at a service's place is the service's own.
use Rattle.std.proofs.Common.{◌≡◌, ℕ, zero, suc, ◌+◌, ◌-◌, ◌<◌, min, refl, sym, ap, subst, ◌∙◌, Bool, true, false, cond, List, [], ◌∷◌, length, Option, Some, None, nat_eq, slice_get, arith}
use Rattle.std.specs.List.{AllZip, find, position, position_from}
use Rattle.std.proofs.lemmas.Iterator.Adapters.{position_from-zero}
use Rattle.std.proofs.lemmas.Option.{none-some, same_Some, slice_get_within}
use Rattle.lat_machines.specs.cores.Lines.{used}
use Rattle.lat_machines.specs.node.Node.{NodeConfig, Node}
use Rattle.lat_machines.specs.values.Addresses.{everyone}
use Rattle.lat_machines.specs.values.Events.{Event, Hears, Time, Connects, Puts, Sets, Takes, Attends, Closes, Requests, Withdraws, Announces, Avoids, Readies, Halts}
use Rattle.lat_machines.specs.values.Frames.{OfCircuit, OfNotice, Reading, Whole, Malformed}
use Rattle.lat_machines.specs.values.Names.{Name, same}
use Rattle.lat_machines.specs.values.Notices.{AnnouncementNotice, CommandNotice, StatusNotice, SolicitNotice, ResponseNotice}
use Rattle.lat_lines.specs.Events.{event_shown}
use Rattle.lat_lines.proofs.CircuitFound.{finds_at, finds_none}
use Rattle.lat_node.specs.Places.{places_from, places, response_places, reading_places, event_places, asked_places, AreRates}
use Rattle.lat_tariff.specs.declared.tariff.Rule.{Rule}
use Rattle.lat_tariff.specs.Own.{rule_of, response_rules, reading_rules, event_rules, asked_rules}
use Rattle.lat_tariff.specs.Tariffs.{names, rule_at, MayAt, AreOwn}
use Rattle.lat_tariff.specs.Laws.{OwnRulesRate}

-- these rules are at these places
abbrev pub AreAt : {R : Type 0} → List (Rule R) → (places : List ℕ) → List (Rule R) → Type 0
AreAt {R = R} rules places some = AllZip (λ place (r : Rule R). rule_at rules place ≡ Some r) places some

-- an answer of the rule at the place is one of the rule that is there
pub own_at : {R : Type 0} (may : R → ℕ → ℕ → ℕ → Type 0) (held lines : ℕ) (rules : List (Rule R)) (places : List ℕ) (some : List (Rule R)) (rates : List ℕ) →
    AreAt rules places some → AreRates (MayAt may rules) held lines places rates → AreOwn may held lines some rates
own_at may held lines rules [] [] [] at are = tt
own_at may held lines rules [] [] (x ∷ rates) at are = absurd are
own_at may held lines rules [] (r ∷ some) rates at are = absurd at
own_at may held lines rules (p ∷ places) [] rates at are = absurd at
own_at may held lines rules (p ∷ places) (r ∷ some) [] at are = absurd are
own_at {R = R} may held lines rules (p ∷ places) (r ∷ some) (x ∷ rates) at are = (
  subst (λ (q : Rule R). may q.rule held lines x) (same_Some are.0.rule r (sym are.0.found ∙ at.0)) are.0.answered,
  own_at may held lines rules places some rates at.1 are.1,
)

-- where there is a rule at a place it is the one of this place
here : {R : Type 0} (rules : List (Rule R)) (place : ℕ) (r : Rule R) → slice_get rules place ≡ Some r → rule_at rules place ≡ Some r
here rules place r is = ap (slice_get rules) (inside place (length rules) (slice_get_within rules place r is)) ∙ is
  where
    inside : (p n : ℕ) → p < n → min p (n - 1) ≡ p
    inside p n l = omega (arith, l)

-- all rules, in their order

shifted : {X : Type 0} (P Q : ℕ → X → Type 0) (first n : ℕ) (xs : List X) → ((p : ℕ) (x : X) → P p x → Q (suc p) x) → AllZip P (places_from first n) xs → AllZip Q (places_from (suc first) n) xs
shifted P Q first zero [] to all = tt
shifted P Q first zero (x ∷ xs) to all = absurd all
shifted P Q first (suc n) [] to all = absurd all
shifted P Q first (suc n) (x ∷ xs) to all = (to first x all.0, shifted P Q (suc first) n xs to all.1)

in_order : {X : Type 0} (xs : List X) → AllZip (λ place (x : X). slice_get xs place ≡ Some x) (places_from 0 (length xs)) xs
in_order [] = tt
in_order {X} (x ∷ xs) =
    (refl, shifted (λ place (y : X). slice_get xs place ≡ Some y) (λ place (y : X). slice_get (x ∷ xs) place ≡ Some y) 0 (length xs) xs (λ p y is. is) (in_order xs))

zip_to : {A B : Type 0} (P Q : A → B → Type 0) (xs : List A) (ys : List B) → ((x : A) (y : B) → P x y → Q x y) → AllZip P xs ys → AllZip Q xs ys
zip_to P Q [] [] to all = tt
zip_to P Q [] (y ∷ ys) to all = absurd all
zip_to P Q (x ∷ xs) [] to all = absurd all
zip_to P Q (x ∷ xs) (y ∷ ys) to all = (to x y all.0, zip_to P Q xs ys to all.1)

length_names : {R : Type 0} (rules : List (Rule R)) → length (names rules) ≡ length rules
length_names [] = refl
length_names (r ∷ rules) = ap suc (length_names rules)

all_at : {R : Type 0} (rules : List (Rule R)) (config : NodeConfig) → names rules ≡ config.services → AreAt rules (places config) rules
all_at {R = R} rules config offers =
    subst (λ n. AreAt rules (places_from 0 n) rules) (sym (length_names rules) ∙ ap length offers)
    (zip_to (λ place (r : Rule R). slice_get rules place ≡ Some r) (λ place (r : Rule R). rule_at rules place ≡ Some r) (places_from 0 (length rules)) rules (here rules) (in_order rules))

-- the rule of a service stands at its place

named_from : {R : Type 0} (p : Name → Bool) (n : ℕ) (rules : List (Rule R)) → position_from p n (names rules) ≡ position_from (λ (r : Rule R). p r.name) n rules
named_from p n [] = refl
named_from {R = R} p n (r ∷ rules) = ap (cond (p r.name) (Some n)) (named_from p (n + 1) rules)

position_named : {R : Type 0} (p : Name → Bool) (rules : List (Rule R)) → position p (names rules) ≡ position (λ (r : Rule R). p r.name) rules
position_named {R = R} p rules = position_from-zero p (names rules) ∙ named_from p 0 rules ∙ sym (position_from-zero (λ (r : Rule R). p r.name) rules)

none_within : {X : Type 0} (xs : List X) (i : ℕ) → i < length xs → slice_get xs i ≡ None → ⊥
none_within [] i l none = omega (arith, l)
none_within (x ∷ xs) zero l none = none-some x (sym none)
none_within (x ∷ xs) (suc i) l none = none_within xs i (omega (arith, l)) none

found_at : {R : Type 0} (p : Rule R → Bool) (rules : List (Rule R)) (place : ℕ) → position p rules ≡ Some place → (r : Rule R) × (find p rules ≡ Some r) × (slice_get rules place ≡ Some r)
found_at {R = R} p rules place at = go (slice_get rules place) refl
  where
    there : find p rules ≡ slice_get rules place
    there = (finds_at p rules place at).is

    within : place < length rules
    within = (finds_at p rules place at).within

    go : (o : Option (Rule R)) → slice_get rules place ≡ o → (r : Rule R) × (find p rules ≡ Some r) × (slice_get rules place ≡ Some r)
    go (Some r) is = (r, there ∙ is, is)
    go None is = absurd (none_within rules place within is)

response_at : {R : Type 0} (rules : List (Rule R)) (config : NodeConfig) (service : Name) → names rules ≡ config.services →
    AreAt rules (response_places config (position (same service) config.services)) (response_rules rules (rule_of rules service))
response_at {R = R} rules config service offers =
    subst (λ (o : Option ℕ). AreAt rules (response_places config o) (response_rules rules (rule_of rules service))) (sym (position_named (same service) rules) ∙ ap (position (same service)) offers)
    (go (position p rules) refl)
  where
    p : Rule R → Bool
    p r = same service r.name

    go : (o : Option ℕ) → position p rules ≡ o → AreAt rules (response_places config o) (response_rules rules (rule_of rules service))
    go None at = subst (λ (f : Option (Rule R)). AreAt rules [] (response_rules rules f)) (sym (finds_none p rules at)) tt
    go (Some place) at =
        let f = found_at p rules place at in
        subst (λ (o : Option (Rule R)). AreAt rules (place ∷ places config) (response_rules rules o)) (sym f.1)
        (here rules place f.0 f.2, all_at rules config offers)

-- the rules that are asked stand at the places that are asked for

reading_at : {R : Type 0} (rules : List (Rule R)) (config : NodeConfig) (reading : Reading) → names rules ≡ config.services → AreAt rules (reading_places config reading) (reading_rules rules reading)
reading_at rules config (Malformed field at) offers = tt
reading_at rules config (Whole (OfCircuit m)) offers = tt
reading_at rules config (Whole (OfNotice (AnnouncementNotice n))) offers = tt
reading_at rules config (Whole (OfNotice (CommandNotice n))) offers = tt
reading_at rules config (Whole (OfNotice (StatusNotice n))) offers = tt
reading_at rules config (Whole (OfNotice (ResponseNotice n))) offers = tt
reading_at rules config (Whole (OfNotice (SolicitNotice n))) offers = response_at rules config n.service offers

unless : {R : Type 0} (rules : List (Rule R)) (b : Bool) (places : List ℕ) (some : List (Rule R)) → AreAt rules places some → AreAt rules (cond b [] places) (cond b [] some)
unless rules true places some at = tt
unless rules false places some at = at

event_at : {R : Type 0} (rules : List (Rule R)) (config : NodeConfig) (e : Event) → names rules ≡ config.services → AreAt rules (event_places config e) (event_rules rules e)
event_at rules config (Hears from payload k now) offers = unless rules (nat_eq from everyone) (reading_places config payload) (reading_rules rules payload) (reading_at rules config payload offers)
event_at rules config Announces offers = all_at rules config offers
event_at rules config (Time now) offers = tt
event_at rules config (Connects line service) offers = tt
event_at rules config (Puts line bytes) offers = tt
event_at rules config (Sets line setting) offers = tt
event_at rules config (Takes line n) offers = tt
event_at rules config (Attends line flag) offers = tt
event_at rules config (Closes line) offers = tt
event_at rules config (Requests to id service) offers = tt
event_at rules config (Withdraws id) offers = tt
event_at rules config (Avoids line) offers = tt
event_at rules config (Readies line ready) offers = tt
event_at rules config Halts offers = tt

pub asked_at : {R : Type 0} (rules : List (Rule R)) (config : NodeConfig) (s : Node) (e : Event) → names rules ≡ config.services → AreAt rules (asked_places config s e) (asked_rules rules s e)
asked_at rules config s e offers = unless rules s.halted (event_places config e) (event_rules rules e) (event_at rules config e offers)

pub own_rules : {R : Type 0} (may : R → ℕ → ℕ → ℕ → Type 0) → OwnRulesRate may (MayAt may)
own_rules may m e frames offers went = record {
  rates = went.rates;
  own =
      own_at may (used m.state.core) m.config.lines m.rule (asked_places m.config m.state (event_shown e)) (asked_rules m.rule m.state (event_shown e)) went.rates
      (asked_at m.rule m.config m.state (event_shown e) offers) went.each;
  adds = went.adds;
}
