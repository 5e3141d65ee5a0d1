use Rattle.std.proofs.Common.{◌∙◌, ap, sym, subst}
use Rattle.lat_machines.specs.node.Node.{Verdict, Rejects, judged}
use Rattle.lat_node.specs.Kept.{config_of}
use Rattle.lat_node.specs.Shown.{shown}
use Rattle.lat_node.specs.Stands.{Stands}
use Rattle.lat_node.proofs.AskedLemmas.{accepts_free, accepts_requested}
use Rattle.lat_node.proofs.JudgedLemmas.{rejected, told_next}
use Rattle.lat_node.proofs.node.NodeCore.answer_one.Goals as goal

pub returns-in-Ok-clause-state : goal.returns-in-Ok-clause-state
returns-in-Ok-clause-state g c = λ s st asks.
    let config = config_of {H = g.row.H.Denot} c.args.self.now in
    let x = c.args.asked.now in
    let v = c.in-Ok.ensures.verdict s st in
    subst (λ (w : Verdict). Stands {H = g.row.H.Denot} c.accept.new.self (judged config s c.args.circuit x.id x.request w)) v
    (c.accept.ensures.state s st asks (accepts_free config s x.service x.request c.in-Ok.line (sym v)) (accepts_requested config s x.service x.request c.in-Ok.line (sym v)))

pub returns-in-Err-clause-state : goal.returns-in-Err-clause-state
returns-in-Err-clause-state g c = λ s st asks.
    let k = shown c.self.inside in
    let x = c.args.asked.now in
    let v = ap Rejects c.bits.ensures.value ∙ c.in-Err.ensures.verdict s st in
    let stood = subst (λ z. Stands {H = g.row.H.Denot} z s) (sym c.self.view_is) st in
    subst (λ (w : Verdict). Stands {H = g.row.H.Denot} (record k { lines = c.reject.new.self; turned_away = c.saturating_add-self-inside.result }) (judged (config_of {H = g.row.H.Denot} c.args.self.now) s c.args.circuit x.id x.request w)) v
    (rejected k c.reject.new.self s c.args.circuit x.id c.bits.result c.saturating_add-self-inside.result x.request c.self.invariant.node stood (c.reject.ensures.state s.core stood.lines)
    (told_next c.self.inside.turned_away s.turned_away c.saturating_add-self-inside.result stood.turned_away c.saturating_add-self-inside.ensures))
