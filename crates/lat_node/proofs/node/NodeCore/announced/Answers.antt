use Rattle.std.proofs.Common.{◌≤◌, sym, ap, ◌∙◌, subst, length, List, ℕ}
use Rattle.lat_node.specs.Kept.{Kept}
use Rattle.lat_node.proofs.AnnounceLemmas.{can_be_announced, announces_as}
use Rattle.lat_node.proofs.node.NodeCore.announced.Goals as goal

pub returns-clause-written : goal.returns-clause-written
returns-clause-written g c = λ names few is.
    can_be_announced _ names c.self.invariant.timer
    (subst (λ (xs : List ℕ). length xs ≤ 32) (sym (c.in_ok-copy.ensures ∙ c.as_slice.ensures)) c.self.invariant.groups)
    c.in_ok-copy-2.ensures few is

pub returns-clause-announced : goal.returns-clause-announced
returns-clause-announced g c = λ names is.
    announces_as c.args.self.now c.self.inside.timer c.self.inside.incarnation c.in_ok-copy.field-0 c.name.result c.in_ok-copy-2.field-0 c.args.services names
    (ap (λ (k : Kept g.row.H.Denot). k.timer) c.self.view_is)
    (ap (λ (k : Kept g.row.H.Denot). k.incarnation) c.self.view_is)
    (c.in_ok-copy.ensures ∙ c.as_slice.ensures ∙ ap (λ (k : Kept g.row.H.Denot). k.groups) c.self.view_is)
    (c.name.ensures ∙ ap (λ (k : Kept g.row.H.Denot). k.lines.circuits.name) c.self.view_is)
    c.in_ok-copy-2.ensures is
