-- Where all of a circuit is through, the row of each open session of it is settled.
use Rattle.std.proofs.Common.{◌≡◌, ◌≤◌, refl, sym, ap, ◌∙◌, arith, ⊎_elim, not, false, List, [], ◌∷◌, length}
use Rattle.std.proofs.lemmas.Bool.{or_parts}
use Rattle.lat_model.specs.sessions.Slots.{Item, items}
use Rattle.lat_model.specs.sessions.Session.{Session, blank, free}
use Rattle.lat_model.specs.ends.End.{lives}
use Rattle.lat_machines.specs.cores.Cores.{Seat, no_seat}
use Rattle.lat_machines.specs.cores.Lines.{end_of, session_of}
use Rattle.lat_machines.specs.world.Machines.{Setups, Machines}
use Rattle.lat_machines.specs.world.Reports.{direction, partner, row}
use Rattle.lat_laws.specs.rounds.Idle.{Through}
use Rattle.lat_laws.specs.rounds.Settles.{IsOpen, IsSettled}
use Rattle.lat_laws.specs.rounds.Counting.{Unseen, NodeSeated}
use Rattle.lat_laws.proofs.rounds.rounds.Rows.{through_settled}
use Rattle.lat_laws.proofs.rounds.counting.Partners.{mate_of, partner_is}
use Rattle.lat_laws.proofs.rounds.counting.Most.{Matched}
use Rattle.lat_laws.proofs.rounds.counting.Counts.{ThroughAt}

empty : (xs : List Item) → length xs ≤ 0 → xs ≡ []
empty [] h = refl
empty (x ∷ xs) h = absurd (omega (arith, h))

pub open_settled : (u : Setups) (w : Machines) (s : Seat) → Matched u w s.circuit → NodeSeated w.node.core → ThroughAt w s.circuit → IsOpen u w s → IsSettled (row u w s)
open_settled u w s c n t o = ⊎_elim {C = IsSettled (row u w s)} found none (partner_is u w s c.paired n)
  where
    a : Session
    a = session_of w.server.core s

    b : Session
    b = mate_of w s

    held : free a ≡ false
    held = (or_parts (not (lives (end_of w.server.core s))) (free a) o.held).1

    found : session_of w.node.core (partner u w s) ≡ b → IsSettled (row u w s)
    found h =
        let z : Through a b × Through b a = t s.serial held o.open_here (ap (λ (x : Session). x.closed) (sym h) ∙ o.open_there) in
        through_settled (row u w s) a b (ap (λ x. direction a x) h) (ap (λ x. direction x a) h) z.0 z.1

    none : (partner u w s ≡ no_seat) × Unseen b → IsSettled (row u w s)
    none h =
        let z : Through a b × Through b a = t s.serial held o.open_here h.1.closed in
        let q : session_of w.node.core (partner u w s) ≡ blank = ap (session_of w.node.core) h.0 ∙ c.first in
        let i : items b.came ≡ [] = empty (items b.came) (omega (arith, z.0.taken, h.1.taken)) in
        through_settled (row u w s) a blank (ap (λ x. direction a x) q) (ap (λ x. direction x a) q)
        (record { heard = sym i ∙ z.0.heard; taken = omega arith })
        (record { heard = z.1.heard ∙ h.1.put; taken = z.1.taken })
