use Rattle.std.proofs.Common.{◌≡◌, ◌∙◌, ap, sym, subst, position, is_some}
use Rattle.lat_machines.specs.values.Names.{same}
use Rattle.lat_machines.specs.node.Node.{verdict}
use Rattle.lat_node.specs.Answering.{verdict_shown}
use Rattle.lat_node.specs.Kept.{Kept, config_of}
use Rattle.lat_node.specs.Shown.{shown}
use Rattle.lat_node.specs.Stands.{Stands}
use Rattle.lat_node.proofs.VerdictLemmas.{free_shown, unoffered, offered, requested}
use Rattle.lat_node.proofs.node.NodeCore.verdict.Goals.{in_default-via-in-Some+else-not-is_requested, in_default-via-in-None+else-is_none}
use Rattle.lat_node.proofs.node.NodeCore.verdict.Goals as goal

pub returns-in-None-clause-verdict : goal.returns-in-None-clause-verdict
returns-in-None-clause-verdict g c = λ s st.
    let x = c.args.asked.now in
    unoffered (config_of {H = g.row.H.Denot} c.args.self.now) s x.service x.request c.in-None.is (ap is_some (ap (λ (z : Kept g.row.H.Denot). position (λ n. same x.service n) z.services) (sym c.self.view_is) ∙ sym c.place_of.ensures) ∙ c.if-is_none.ensures)

pub returns-in_default-clause-verdict : goal.returns-in_default-clause-verdict
returns-in_default-clause-verdict g c = λ s st.
    let x = c.args.asked.now in
    let config = config_of {H = g.row.H.Denot} (shown c.self.inside) in
    let stood = subst (λ z. Stands {H = g.row.H.Denot} z s) (sym c.self.view_is) st in
    let free = ap verdict_shown c.ok_or.ensures.value ∙ free_shown config s.core c.free_line.result (c.free_line.ensures.model s.core stood.lines) c.free_line.ensures.line in
    subst (λ (z : Kept g.row.H.Denot). verdict_shown c.ok_or.result ≡ verdict (config_of z) s x.service x.request) c.self.view_is
    (elim c.in_default.branch [
      | in_default-via-in-Some+else-not-is_requested w ↦ requested config s x.service x.request w.in-Some.id (verdict_shown c.ok_or.result) w.in-Some.is (sym (w.is_requested.ensures s st) ∙ w.if-not-is_requested.false) free
      | in_default-via-in-None+else-is_none w ↦ offered config s x.service x.request (verdict_shown c.ok_or.result) w.in-None.is (ap is_some (sym w.place_of.ensures) ∙ w.if-is_none.ensures) free
    ])
