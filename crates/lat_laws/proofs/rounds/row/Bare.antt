-- The rows of sessions in which nothing was put.
use Rattle.std.proofs.Common.{◌≡◌, ℕ, zero, suc, refl, sym, ap, ◌∙◌, [], take}
use Rattle.lat_model.specs.sessions.Slots.{Item, items}
use Rattle.lat_machines.specs.cores.Cores.{Seat}
use Rattle.lat_machines.specs.cores.Lines.{session_of}
use Rattle.lat_machines.specs.world.Machines.{Setups, Machines}
use Rattle.lat_machines.specs.world.Reports.{partner, row}
use Rattle.lat_laws.specs.rounds.Settles.{IsSettled}

none_taken : (n : ℕ) → take {A = Item} n [] ≡ []
none_taken zero = refl
none_taken (suc n) = refl

-- neither end put, nor heard, an item
pub bare_settled : (u : Setups) (w : Machines) (s : Seat) → (session_of w.server.core s).put ≡ [] → (session_of w.node.core (partner u w s)).put ≡ [] → items (session_of w.server.core s).came ≡ [] → items (session_of w.node.core (partner u w s)).came ≡ [] → IsSettled (row u w s)
bare_settled u w s a b c d = record {
  up = ap (λ z. take (session_of w.node.core (partner u w s)).taken z) d ∙ (none_taken (session_of w.node.core (partner u w s)).taken ∙ sym a);
  down = ap (λ z. take (session_of w.server.core s).taken z) c ∙ (none_taken (session_of w.server.core s).taken ∙ sym b);
}
