-- How a node answers the sessions that are asked for.
use Rattle.std.specs.Prelude.{◌≡◌, ℕ, true, Option, Some, None, Result, Ok, Err}
use Rattle.lat_model.specs.ends.End.{lives}
use Rattle.lat_model.specs.sessions.Session.{waits}
use Rattle.lat_slots.specs.declared.reason.RejectReason.{RejectReason}
use Rattle.lat_slots.specs.Reasons.{reject_bits}
use Rattle.lat_session.specs.declared.getters.Asked.{Asked}
use Rattle.lat_machines.specs.node.Node.{NodeConfig, Node, Verdict, Accepts, Rejects, verdict, judged, asked_at}
use Rattle.lat_node.specs.Stands.{was_made}

abbrev pub verdict_shown : Result ℕ RejectReason → Verdict
verdict_shown (Ok line) = Accepts line
verdict_shown (Err reason) = Rejects (reject_bits reason)

-- the session of its id waits for an answer, on a circuit that lives
pub record Asks (s : Node) (circuit : ℕ) (asked : Asked) : Type 0 where
  pub lives : lives (s.core.circuits.circuit_at circuit).end ≡ true
  pub waits : waits (asked_at s circuit asked.id) ≡ true

-- the state after the answer that it is due
abbrev pub judged_by : NodeConfig → Node → ℕ → Asked → Node
judged_by config s circuit asked = judged config s circuit asked.id asked.request (verdict config s asked.service asked.request)

-- where it has a request, this was made
abbrev pub IsOfRequest : Node → Option ℕ → Type 0
IsOfRequest s None = Unit {0}
IsOfRequest s (Some id) = was_made s id ≡ true
