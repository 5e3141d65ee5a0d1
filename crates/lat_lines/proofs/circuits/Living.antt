-- What is told of the circuits that live.
use Rattle.std.proofs.Common.{◌≡◌, ℕ, zero, suc, ◌<◌, Bool, true, false, not, cond, ◌||◌, ◌&&◌, is_none, List, [], ◌∷◌, map, filter, drop, length, get_or, Some, None, slice_get, refl, sym, ap, ap₂, subst, ◌∙◌, arith}
use Rattle.std.specs.List.{list_all}
use Rattle.std.specs.Option.{option_map}
use Rattle.std.proofs.lemmas.Option.{none-some, same_Some, slice_get-map}
use Rattle.lat_base.specs.declared.look.CircuitLook.{CircuitLook}
use Rattle.lat_model.specs.Lists.{Each, keep}
use Rattle.lat_model.specs.ends.End.{End, lives}
use Rattle.lat_machines.specs.values.Addresses.{address}
use Rattle.lat_machines.specs.cores.Cores.{Core}
use Rattle.lat_machines.specs.cores.Looks.{living_ids, end_look, circuit_look, circuit_in_place, end_drained, is_drained}
use Rattle.lat_circuit.specs.Kept as circuit
use Rattle.lat_circuit.specs.Looks.{circuit_look_of}
use Rattle.lat_circuit.specs.Stands as circuit_stands
use Rattle.lat_lines.specs.circuits.Kept.{Kept, Holds}
use Rattle.lat_lines.specs.circuits.Living.{is_still, are_still}
use Rattle.lat_lines.specs.circuits.Stands.{Stands, IsCircuit}
use Rattle.lat_lines.proofs.circuits.Ids.{kept_held}
use Rattle.lat_lines.proofs.circuits.Places.{id_of}
use Rattle.lat_lines.proofs.CircuitFound.{lives_told}

abbrev pub is_alive : circuit.Kept → Bool
is_alive q = is_none q.ended

abbrev lives_in : Core → ℕ → Bool
lives_in c i = lives (c.circuits.circuit_at i).end

-- those that live are those of the held ones that haven't ended

alive_ids : (c : Core) (qs : List circuit.Kept) → Each (IsCircuit c) qs → keep (lives_in c) (map id_of qs) ≡ map id_of (filter is_alive qs)
alive_ids c [] e = refl
alive_ids c (q ∷ qs) e =
    ap (λ b. cond b (q.facts.id ∷ keep (lives_in c) (map id_of qs)) (keep (lives_in c) (map id_of qs))) (lives_told q (c.circuits.circuit_at q.facts.id).end e.0.end)
    ∙ by (is_alive q) (alive_ids c qs e.1)
  where
    by : (b : Bool) → keep (lives_in c) (map id_of qs) ≡ map id_of (filter is_alive qs)
        → cond b (q.facts.id ∷ keep (lives_in c) (map id_of qs)) (keep (lives_in c) (map id_of qs)) ≡ map id_of (cond b (q ∷ filter is_alive qs) (filter is_alive qs))
    by true ih = ap (λ xs. q.facts.id ∷ xs) ih
    by false ih = ih

living_held : (k : Kept) (c : Core) → Holds k → Stands k c → living_ids c ≡ keep (lives_in c) (map id_of k.held)
living_held k c h st = kept_held k c (lives_in c) h st (record { lives = λ i e. e })

living_at : (k : Kept) (c : Core) (at : ℕ) → Holds k → Stands k c → slice_get (living_ids c) at ≡ option_map id_of (slice_get (filter is_alive k.held) at)
living_at k c at h st =
    ap (λ xs. slice_get xs at) (living_held k c h st ∙ alive_ids c k.held st.each) ∙ slice_get-map id_of (filter is_alive k.held) at

-- at a place

each_at : (P : circuit.Kept → Type 0) (qs : List circuit.Kept) (at : ℕ) (q : circuit.Kept) → Each P qs → slice_get (filter is_alive qs) at ≡ Some q → P q
each_at P [] at q e h = absurd (none-some q h)
each_at P (x ∷ xs) at q e h = by (is_alive x) at (λ n. each_at P xs n q e.1) h
  where
    by : (b : Bool) (at : ℕ) → ((n : ℕ) → slice_get (filter is_alive xs) n ≡ Some q → P q) → slice_get (cond b (x ∷ filter is_alive xs) (filter is_alive xs)) at ≡ Some q → P q
    by true zero ih i = subst P (same_Some x q i) e.0
    by true (suc n) ih i = ih n i
    by false n ih i = ih n i

pub look_told : (k : Kept) (c : Core) (at : ℕ) (q : circuit.Kept) (told : CircuitLook) → Holds k → Stands k c → slice_get (filter is_alive k.held) at ≡ Some q
    → ((e : End) → circuit_stands.Stands q e → told ≡ circuit_look_of (end_look q.facts.id (address q.facts.config.peer.0) q.facts.config.peer_name e))
    → Some told ≡ option_map circuit_look_of (circuit_in_place c at)
look_told k c at q told h st found tells =
    let is : IsCircuit c q = each_at (IsCircuit c) k.held at q st.each found in
    let e : End = (c.circuits.circuit_at q.facts.id).end in
    ap Some (tells e is.end ∙ ap₂ (λ a n. circuit_look_of (end_look q.facts.id a n e)) is.address is.name)
    ∙ sym (ap (λ o. option_map circuit_look_of (option_map (circuit_look c) o)) (living_at k c at h st ∙ ap (option_map id_of) found))

pub none_told : (k : Kept) (c : Core) (at : ℕ) → Holds k → Stands k c → slice_get (filter is_alive k.held) at ≡ None → None ≡ option_map circuit_look_of (circuit_in_place c at)
none_told k c at h st none = sym (ap (λ o. option_map circuit_look_of (option_map (circuit_look c) o)) (living_at k c at h st ∙ ap (option_map id_of) none))

-- nothing is under way on any

abbrev drained : Core → ℕ → Bool
drained c x = end_drained (c.circuits.circuit_at x).end

still_each : (c : Core) (qs : List circuit.Kept) → list_all (drained c) (keep (lives_in c) (map id_of qs)) ≡ are_still c qs
still_each c [] = refl
still_each c (q ∷ qs) = by (lives_in c q.facts.id) ∙ ap (λ b. is_still (c.circuits.circuit_at q.facts.id).end && b) (still_each c qs)
  where
    by : (b : Bool) → list_all (drained c) (cond b (q.facts.id ∷ keep (lives_in c) (map id_of qs)) (keep (lives_in c) (map id_of qs)))
        ≡ ((not b || drained c q.facts.id) && list_all (drained c) (keep (lives_in c) (map id_of qs)))
    by true = refl
    by false = refl

pub drained_told : (k : Kept) (c : Core) → Holds k → Stands k c → are_still c k.held ≡ is_drained c
drained_told k c h st = sym (still_each c k.held) ∙ ap (list_all (drained c)) (sym (living_held k c h st))

-- one after another

told_at : (c : Core) (x q : circuit.Kept) (b : Bool) → x ≡ q → IsCircuit c x → ((e : End) → circuit_stands.Stands q e → b ≡ is_still e) → is_still (c.circuits.circuit_at x.facts.id).end ≡ b
told_at c x q b same is tells = sym (tells (c.circuits.circuit_at x.facts.id).end (subst (λ z. circuit_stands.Stands z (c.circuits.circuit_at x.facts.id).end) same is.end))

next_one : (c : Core) (qs : List circuit.Kept) (i : ℕ) (q : circuit.Kept) → Each (IsCircuit c) qs → i < length qs → q ≡ get_or qs i q → ((e : End) → circuit_stands.Stands q e → true ≡ is_still e)
    → are_still c (drop i qs) ≡ are_still c (drop (suc i) qs)
next_one c [] i q e l h tells = absurd (omega (arith, l))
next_one c (x ∷ xs) zero q e l h tells = ap (λ b. b && are_still c xs) (told_at c x q true (sym h) e.0 tells)
next_one c (x ∷ xs) (suc i) q e l h tells = next_one c xs i q e.1 (omega (arith, l)) h tells

pub next_still : (c : Core) (qs : List circuit.Kept) (i n : ℕ) (q : circuit.Kept) → Each (IsCircuit c) qs → n ≡ suc i → i < length qs → q ≡ get_or qs i q → ((e : End) → circuit_stands.Stands q e → true ≡ is_still e)
    → are_still c (drop n qs) ≡ are_still c (drop i qs)
next_still c qs i n q e is l h tells = ap (λ k. are_still c (drop k qs)) is ∙ sym (next_one c qs i q e l h tells)

pub one_stirs : (c : Core) (qs : List circuit.Kept) (i : ℕ) (q : circuit.Kept) → Each (IsCircuit c) qs → i < length qs → q ≡ get_or qs i q → ((e : End) → circuit_stands.Stands q e → false ≡ is_still e)
    → false ≡ are_still c (drop i qs)
one_stirs c [] i q e l h tells = absurd (omega (arith, l))
one_stirs c (x ∷ xs) zero q e l h tells = sym (ap (λ b. b && are_still c xs) (told_at c x q false (sym h) e.0 tells))
one_stirs c (x ∷ xs) (suc i) q e l h tells = one_stirs c xs i q e.1 (omega (arith, l)) h tells
