use Rattle.std.proofs.Common.{ℕ, sym, subst, Option, None}
use Rattle.lat_machines.specs.node.Node.{Accepts, judged}
use Rattle.lat_node.specs.Answering.{IsOfRequest}
use Rattle.lat_node.specs.Kept.{config_of}
use Rattle.lat_node.specs.Shown.{shown}
use Rattle.lat_node.specs.Stands.{Stands}
use Rattle.lat_node.proofs.JudgedLemmas.{accepted}
use Rattle.lat_node.proofs.node.NodeCore.accept.Goals as goal

pub returns-in-Some-clause-state : goal.returns-in-Some-clause-state
returns-in-Some-clause-state g c = λ s st asks free made.
    let k = shown c.self.inside in
    let x = c.args.asked.now in
    let stood = subst (λ z. Stands {H = g.row.H.Denot} z s) (sym c.self.view_is) st in
    let kept = accepted k c.accept.new.self s c.args.line c.args.circuit x.id c.self.invariant.node stood (c.accept.ensures.state s.core stood.lines free asks.lives asks.waits) in
    subst (λ (o : Option ℕ). Stands {H = g.row.H.Denot} c.note_accepted.new.self (judged (config_of k) s c.args.circuit x.id o (Accepts c.args.line))) (sym c.in-Some.is)
    (c.note_accepted.ensures.state (judged (config_of k) s c.args.circuit x.id None (Accepts c.args.line)) kept (subst (IsOfRequest s) c.in-Some.is made))

pub returns-in_default-clause-state : goal.returns-in_default-clause-state
returns-in_default-clause-state g c = λ s st asks free made.
    let k = shown c.self.inside in
    let x = c.args.asked.now in
    let stood = subst (λ z. Stands {H = g.row.H.Denot} z s) (sym c.self.view_is) st in
    let kept = accepted k c.accept.new.self s c.args.line c.args.circuit x.id c.self.invariant.node stood (c.accept.ensures.state s.core stood.lines free asks.lives asks.waits) in
    subst (λ (o : Option ℕ). Stands {H = g.row.H.Denot} (record k { lines = c.accept.new.self }) (judged (config_of k) s c.args.circuit x.id o (Accepts c.args.line))) (sym c.in_default.is) kept
