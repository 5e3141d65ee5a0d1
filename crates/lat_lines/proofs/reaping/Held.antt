-- What the circuits that are held tell of the core's ends.
use Rattle.std.proofs.Common.{◌≡◌, ℕ, Bool, true, false, ◌||◌, nat_eq, eqb-true, List, [], ◌∷◌, map, subst, sym, refl}
use Rattle.std.specs.List.{list_any}
use Rattle.std.proofs.lemmas.Bool.{false≢true}
use Rattle.lat_model.specs.Lists.{Each}
use Rattle.lat_model.specs.ends.End.{End}
use Rattle.lat_model.specs.sessions.EndOk.{EndOk}
use Rattle.lat_session.specs.Stands.{AllBegun}
use Rattle.lat_circuit.specs.Kept as circuit
use Rattle.lat_circuit.specs.Stands as circuit_stands
use Rattle.lat_machines.specs.cores.Cores.{Core}
use Rattle.lat_lines.specs.circuits.Kept.{Kept, has_id}
use Rattle.lat_lines.specs.circuits.Stands.{Stands, IsCircuit}

-- what is known of an end that a circuit stands for
pub record IsStood (e : End) : Type 0 where
  pub exists : e.exists ≡ true
  pub good : EndOk e.half.sessions
  pub begun : AllBegun e.half.sessions

stood : (q : circuit.Kept) (e : End) → circuit_stands.Stands q e → IsStood e
stood q e st = record { exists = st.exists; good = st.sessions.good; begun = st.sessions.begun }

stood_in : (c : Core) (x : ℕ) (qs : List circuit.Kept) → Each (IsCircuit c) qs → list_any (nat_eq x) (map (λ (q : circuit.Kept). q.facts.id) qs) ≡ true → IsStood (c.circuits.circuit_at x).end
stood_in c x [] e h = absurd (false≢true h)
stood_in c x (q ∷ qs) e h = by (nat_eq x q.facts.id) refl h (stood_in c x qs e.1)
  where
    by : (b : Bool) → nat_eq x q.facts.id ≡ b → b || list_any (nat_eq x) (map (λ (q : circuit.Kept). q.facts.id) qs) ≡ true
        → (list_any (nat_eq x) (map (λ (q : circuit.Kept). q.facts.id) qs) ≡ true → IsStood (c.circuits.circuit_at x).end)
        → IsStood (c.circuits.circuit_at x).end
    by true s i ih = subst (λ z. IsStood (c.circuits.circuit_at z).end) (sym (eqb-true x q.facts.id s)) (stood q (c.circuits.circuit_at q.facts.id).end e.0.end)
    by false s i ih = ih i

-- an end whose circuit is held
pub stood_at : (k : Kept) (c : Core) (x : ℕ) → Stands k c → has_id x k ≡ true → IsStood (c.circuits.circuit_at x).end
stood_at k c x st h = stood_in c x k.held st.each h
