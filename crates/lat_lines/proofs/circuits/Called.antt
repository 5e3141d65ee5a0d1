-- The living circuits among what is held, and one that is called.
use Rattle.std.proofs.Common.{◌≡◌, ℕ, suc, ◌+◌, ◌≤◌, Bool, true, false, cond, ◌&&◌, nat_eq, is_none, count_by, List, [], ◌∷◌, ◌++◌, length, map, Some, None, refl, sym, ap, subst, ◌∙◌, arith}
use Rattle.std.specs.List.{find}
use Rattle.std.specs.Option.{option_map}
use Rattle.std.proofs.lemmas.Bool.{and_parts}
use Rattle.std.proofs.lemmas.List.Sums.{sum_by-cons}
use Rattle.lat_base.specs.declared.addr.Addr.{Addr}
use Rattle.lat_base.specs.declared.outbox.OutFrame.{OutFrame}
use Rattle.lat_model.specs.Lists.{Each, keep, least}
use Rattle.lat_model.specs.ends.End.{Step, lives}
use Rattle.lat_model.specs.circuits.Arriving.{living}
use Rattle.lat_model.specs.circuits.Ids as tables
use Rattle.lat_machines.specs.values.Addresses.{address}
use Rattle.lat_machines.specs.values.Names.{Name}
use Rattle.lat_machines.specs.cores.Acts.{called, put_at}
use Rattle.lat_machines.specs.cores.Cores.{Core, Doing, acts, setup_of, circuit_to}
use Rattle.lat_payload.specs.Frames.{Emits}
use Rattle.lat_circuit.specs.declared.config.CircuitConfig.{CircuitConfig}
use Rattle.lat_circuit.specs.Kept as circuit
use Rattle.lat_circuit.specs.Begins.{Begins, facts_called}
use Rattle.lat_circuit.specs.Frames.{timing_shown}
use Rattle.lat_lines.specs.circuits.Kept.{Kept, Holds, next_id, held_with, side_of}
use Rattle.lat_lines.specs.circuits.Stands.{Stands, Simulates, IsCircuit}
use Rattle.lat_lines.specs.circuits.Opens.{id_or_zero, called_core}
use Rattle.lat_lines.proofs.circuits.Places.{id_of}
use Rattle.lat_lines.proofs.circuits.Ids.{least_held, living_held}
use Rattle.lat_lines.proofs.circuits.Begun.{IsNew, held_too, named_core, begins_core, holds_begun, stands_begun, adds_begun}
use Rattle.lat_lines.proofs.CircuitFound.{lives_told}

-- how many live

abbrev is_alive : circuit.Kept → Bool
is_alive q = is_none q.ended

abbrev lives_in : Core → ℕ → Bool
lives_in c i = lives (c.circuits.circuit_at i).end

counted : (c : Core) (qs : List circuit.Kept) → Each (IsCircuit c) qs → count_by is_alive qs ≡ length (keep (lives_in c) (map id_of qs))
counted c [] e = refl
counted c (q ∷ qs) e =
    sum_by-cons (λ a. cond (is_alive a) 1 0) q qs
    ∙ ap (λ b. cond b 1 0 + count_by is_alive qs) (sym (lives_told q (c.circuits.circuit_at q.facts.id).end e.0.end))
    ∙ by (lives_in c q.facts.id) (counted c qs e.1)
  where
    by : (b : Bool) → count_by is_alive qs ≡ length (keep (lives_in c) (map id_of qs)) → cond b 1 0 + count_by is_alive qs ≡ length (cond b (q.facts.id ∷ keep (lives_in c) (map id_of qs)) (keep (lives_in c) (map id_of qs)))
    by true h = omega (arith, h)
    by false h = omega (arith, h)

pub living_counted : (k : Kept) (c : Core) → Holds k → Stands k c → count_by is_alive k.held ≡ living c.circuits
living_counted k c h st = counted c k.held st.each ∙ sym (living_held k c h st)

-- each does where none has ended
pub all_counted : (qs : List circuit.Kept) → Each (λ (q : circuit.Kept). q.ended ≡ None) qs → count_by is_alive qs ≡ length qs
all_counted [] e = refl
all_counted (q ∷ qs) e =
    sum_by-cons (λ a. cond (is_alive a) 1 0) q qs
    ∙ ap (λ o. cond (is_none o) 1 0 + count_by is_alive qs) e.0
    ∙ omega (arith, all_counted qs e.1)

-- the one to an address

abbrev is_one_to : ℕ → circuit.Kept → Bool
is_one_to to q = is_none q.ended && nat_eq (address q.facts.config.peer.0) to

abbrev leads_to : Core → ℕ → ℕ → Bool
leads_to c to i = nat_eq (c.circuits.circuit_at i).address to && lives_in c i

and_turned : (a b : Bool) → (a && b) ≡ (b && a)
and_turned true true = refl
and_turned true false = refl
and_turned false true = refl
and_turned false false = refl

first_to : (c : Core) (to : ℕ) (qs : List circuit.Kept) → Each (IsCircuit c) qs → id_or_zero (option_map id_of (find (is_one_to to) qs)) ≡ least (leads_to c to) (map id_of qs)
first_to c to [] e = refl
first_to c to (q ∷ qs) e =
    let same : is_one_to to q ≡ leads_to c to q.facts.id =
    ap (λ b. b && nat_eq (address q.facts.config.peer.0) to) (sym (lives_told q (c.circuits.circuit_at q.facts.id).end e.0.end))
    ∙ and_turned (lives_in c q.facts.id) (nat_eq (address q.facts.config.peer.0) to)
    ∙ ap (λ n. nat_eq n to && lives_in c q.facts.id) e.0.address in
    ap (λ b. id_or_zero (option_map id_of (cond b (Some q) (find (is_one_to to) qs)))) same ∙ by (leads_to c to q.facts.id) (first_to c to qs e.1)
  where
    by : (b : Bool) → id_or_zero (option_map id_of (find (is_one_to to) qs)) ≡ least (leads_to c to) (map id_of qs)
        → id_or_zero (option_map id_of (cond b (Some q) (find (is_one_to to) qs))) ≡ cond b q.facts.id (least (leads_to c to) (map id_of qs))
    by true h = refl
    by false h = h

pub one_to : (k : Kept) (c : Core) (to : ℕ) → Holds k → Stands k c → id_or_zero (option_map id_of (find (is_one_to to) k.held)) ≡ circuit_to c to
one_to k c to h st =
    first_to c to k.held st.each
    ∙ sym (least_held k c (leads_to c to) h st (record { lives = λ i is. (and_parts (nat_eq (c.circuits.circuit_at i).address to) (lives_in c i) is).1 }))

-- one that is called

abbrev pub config_of : Kept → Addr → Name → CircuitConfig
config_of k peer node = record { own = k.own; peer = peer; name = k.name; peer_name = node; timing = k.timing }

new_call : (k : Kept) (peer : Addr) (node : Name) (id size : ℕ) → k.server ≡ true → id ≡ next_id k → k.timing.sessions ≤ size → IsNew k (address peer.0) node (facts_called (config_of k peer node) id) size
new_call k peer node id size server next places = record {
  id = next;
  own = refl;
  peer = refl;
  name = refl;
  peer_name = refl;
  timing = refl;
  master = sym server;
  places = places;
}

-- the circuit of this call
pub record Calls (k : Kept) (peer : Addr) (node : Name) (id size : ℕ) (rooms : List ℕ) (q : circuit.Kept) (before after : List OutFrame) : Type 0 where
  pub holds : Holds k
  pub server : k.server ≡ true
  pub next : id ≡ next_id k
  pub places : k.timing.sessions ≤ size
  pub begins : Begins (called (setup_of (timing_shown k.timing)) k.moment) (facts_called (config_of k peer node) id) size k.moment q before after

pub call_holds : (k : Kept) (peer : Addr) (node : Name) (id size : ℕ) (rooms : List ℕ) (q : circuit.Kept) (before after : List OutFrame)
    → Calls k peer node id size rooms q before after → length rooms + 1 ≡ length k.rooms → Each (λ n. k.timing.sessions ≤ n) rooms → Holds (held_too k q rooms)
call_holds k peer node id size rooms q before after b fewer each =
    holds_begun k rooms (address peer.0) node (facts_called (config_of k peer node) id) size q (called (setup_of (timing_shown k.timing)) k.moment) before after b.holds
    (new_call k peer node id size b.server b.next b.places) b.begins fewer each

pub call_did : (k : Kept) (peer : Addr) (node : Name) (id size : ℕ) (rooms : List ℕ) (q : circuit.Kept) (before after : List OutFrame)
    → Calls k peer node id size rooms q before after → Simulates (called_core (side_of k) (address peer.0) node) k (held_too k q rooms) before after
call_did k peer node id size rooms q before after b = λ c st.
    let f = facts_called (config_of k peer node) id in
    let s : Step = called (setup_of (timing_shown k.timing)) k.moment in
    let new = new_call k peer node id size b.server b.next b.places in
    let P : Doing → Type 0 = λ d. Stands (held_too k q rooms) d.core × Emits d.frames before after in
    subst P (same c st)
    (stands_begun k c rooms (address peer.0) node f size q s before after b.holds st new b.begins, adds_begun k c (address peer.0) node f size q s before after st new b.begins)
  where
    -- as a core calls it
    same : (c : Core) → Stands k c → begins_core k c (address peer.0) node (called (setup_of (timing_shown k.timing)) k.moment) ≡ called_core (side_of k) (address peer.0) node c
    same c st =
        let x : ℕ = tables.next_id c.circuits in
        let d : Core = named_core c x node in
        ap (λ t. acts (side_of k) d (put_at t d.circuits (suc c.circuits.drawn) x (address peer.0) (called (setup_of (timing_shown k.timing)) k.moment))) b.server
        ∙ ap (λ n. acts (side_of k) d (put_at true d.circuits (suc c.circuits.drawn) x (address peer.0) (called (setup_of (timing_shown k.timing)) n))) st.moment

-- it stands as the fields have it
pub held_now : (k : Kept) (q : circuit.Kept) (rooms : List ℕ) (drawn : ℕ) (held : List circuit.Kept) → drawn ≡ suc k.drawn → held ≡ held_with q k.held
    → held_too k q rooms ≡ record k { drawn = drawn; held = held; rooms = rooms }
held_now k q rooms drawn held next is =
    ap (λ n. record k { drawn = n; held = held_with q k.held; rooms = rooms }) (sym next) ∙ ap (λ qs. record k { drawn = drawn; held = qs; rooms = rooms }) (sym is)

pub each_last : {X : Type 0} (P : X → Type 0) (xs : List X) (x : X) → Each P (xs ++ x ∷ []) → Each P xs × P x
each_last P [] x e = (tt, e.0)
each_last P (y ∷ ys) x e = let more = each_last P ys x e.1 in ((e.0, more.0), more.1)
