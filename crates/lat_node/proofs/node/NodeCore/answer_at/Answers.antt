use Rattle.std.proofs.Common.{◌∙◌, sym, subst}
use Rattle.lat_node.specs.Kept.{config_of}
use Rattle.lat_node.specs.Stands.{Stands}
use Rattle.lat_node.proofs.AskedLemmas.{one_asked, one_silent}
use Rattle.lat_node.proofs.node.NodeCore.answer_at.Goals as goal

pub returns-in-Some-clause-state : goal.returns-in-Some-clause-state
returns-in-Some-clause-state g c = λ s st lives.
    let stood = subst (λ z. Stands {H = g.row.H.Denot} z s) (sym c.self.view_is) st in
    let one = one_asked (config_of {H = g.row.H.Denot} c.args.self.now) c.args.circuit s c.args.id c.in-Some.asked lives (sym c.in-Some.is ∙ c.asked_at.ensures s.core stood.lines c.self.invariant.node) in
    subst (Stands {H = g.row.H.Denot} c.answer_one.new.self) one.1 (c.answer_one.ensures.state s st one.0)

pub returns-in_default-clause-state : goal.returns-in_default-clause-state
returns-in_default-clause-state g c = λ s st lives.
    let stood = subst (λ z. Stands {H = g.row.H.Denot} z s) (sym c.self.view_is) st in
    subst (Stands {H = g.row.H.Denot} c.args.self.now) (one_silent (config_of {H = g.row.H.Denot} c.args.self.now) c.args.circuit s c.args.id lives (sym c.in_default.is ∙ c.asked_at.ensures s.core stood.lines c.self.invariant.node)) st
