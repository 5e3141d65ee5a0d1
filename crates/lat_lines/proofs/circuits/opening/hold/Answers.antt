use Rattle.std.proofs.Common.{◌≡◌, length, ap, ◌∙◌, arith}
use Rattle.std.specs.List.{insert, position}
use Rattle.lat_lines.proofs.circuits.Among.{is_above, insert_is, place_is}
use Rattle.lat_lines.proofs.circuits.opening.hold.Goals as goal

pub returns-clause-items : goal.returns-clause-items
returns-clause-items c =
    let q = c.args.circuit in
    let ps = c.args.held.now.items in
    let found = c.first_above.ensures ∙ ap (λ i. position (is_above i) c.as_slice.result.now) c.id.ensures ∙ ap (position (is_above q.facts.id)) c.as_slice.ensures.value in
    let many : c.len.result ≡ length ps = omega (arith, c.len.ensures, c.args.held.now.ok.0) in
    c.in-Ok.ensures.items
    ∙ ap (λ n. insert ps n q) (c.unwrap_or-at.ensures ∙ place_is (is_above q.facts.id) ps c.first_above.result c.len.result found many)
    ∙ insert_is q ps
