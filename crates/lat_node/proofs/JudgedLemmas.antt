-- What a node stands for after an answer to one who asks.
use Rattle.std.proofs.Common.{◌≡◌, ℕ, suc, ◌+◌, subst, ◌∙◌, false, Option, None, min, arith}
use Rattle.lat_model.specs.sessions.Calls.{RejectAsk}
use Rattle.lat_machines.specs.cores.Cores.{Side}
use Rattle.lat_machines.specs.cores.Lines.{saturated_count}
use Rattle.lat_machines.specs.node.Node.{Node, Accepts, Rejects, judged, node_side}
use Rattle.lat_lines.specs.circuits.Stands.{calling}
use Rattle.lat_lines.specs.Kept as lines
use Rattle.lat_lines.specs.Opens.{accepted_core}
use Rattle.lat_lines.specs.Stands as line_stands
use Rattle.lat_node.specs.Kept.{Kept, config_of}
use Rattle.lat_node.specs.Stands.{Stands}
use Rattle.lat_node.proofs.StepLemmas.{with_lines, moved, side_is}

-- the session is accepted for a line, but for its request
pub accepted : {H : Type 0} (k : Kept H) (l : lines.Kept) (s : Node) (line x id : ℕ) → k.lines.circuits.server ≡ false → Stands k s →
    line_stands.Stands l (accepted_core (lines.side_of k.lines) line x id s.core) → Stands (with_lines k l) (judged (config_of k) s x id None (Accepts line))
accepted k l s line x id node st y =
    moved k l s (accepted_core (node_side (config_of k)) line x id s.core) st
    (subst (λ (side : Side). line_stands.Stands l (accepted_core side line x id s.core)) (side_is k node) y)

-- more were turned away
pub counted : {H : Type 0} (k : Kept H) (s : Node) (t n : ℕ) → Stands k s → t ≡ saturated_count (s.turned_away + n) → Stands (record k { turned_away = t }) (record s { turned_away = s.turned_away + n })
counted k s t n st e = record { lines = st.lines; requests = st.requests; accepted = st.accepted; turned_away = e; halted = st.halted }

pub told_more : (k a n m t : ℕ) → k ≡ saturated_count a → n ≡ m → t ≡ min (k + n) 4294967295 → t ≡ saturated_count (a + m)
told_more k a n m t e f i = i ∙ omega (arith, e, f)

pub told_next : (k a t : ℕ) → k ≡ saturated_count a → t ≡ min (k + 1) 4294967295 → t ≡ saturated_count (suc a)
told_next k a t e i = i ∙ omega (arith, e)

-- the session is rejected, but for the count of those turned away
pub rejected : {H : Type 0} (k : Kept H) (l : lines.Kept) (s : Node) (x id reason t : ℕ) (request : Option ℕ) → k.lines.circuits.server ≡ false → Stands k s →
    line_stands.Stands l (calling (lines.side_of k.lines) x (RejectAsk id reason) s.core) → t ≡ saturated_count (suc s.turned_away) →
    Stands (record (with_lines k l) { turned_away = t }) (judged (config_of k) s x id request (Rejects reason))
rejected k l s x id reason t request node st y e =
    let m = moved k l s (calling (node_side (config_of k)) x (RejectAsk id reason) s.core) st
    (subst (λ (side : Side). line_stands.Stands l (calling side x (RejectAsk id reason) s.core)) (side_is k node) y) in
    record { lines = m.lines; requests = m.requests; accepted = m.accepted; turned_away = e; halted = m.halted }
