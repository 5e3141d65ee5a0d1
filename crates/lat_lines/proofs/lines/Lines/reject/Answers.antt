use Rattle.std.proofs.Common.{◌≡◌, map, sym, subst}
use Rattle.lat_model.specs.sessions.Calls.{RejectAsk}
use Rattle.lat_queue.specs.Histories.{key_shown}
use Rattle.lat_lines.specs.circuits.Stands.{calling}
use Rattle.lat_lines.specs.Kept.{Kept, side_of}
use Rattle.lat_lines.specs.Stands.{Stands, freed_between}
use Rattle.lat_lines.specs.Shown.{shown}
use Rattle.lat_lines.proofs.CallSteps.{acted_calling}
use Rattle.lat_lines.proofs.Unchanged.{lines_same}
use Rattle.lat_lines.proofs.lines.Lines.reject.Goals as goal

pub returns-clause-state : goal.returns-clause-state
returns-clause-state c = λ d st.
    let k = shown c.self.inside in
    let st2 : Stands k d = subst (λ z. Stands z d) (sym c.self.view_is) st in
    subst (λ (z : Kept). Stands c.reap.new.self (calling (side_of z) c.args.circuit (RejectAsk c.args.id c.args.reason) d)) c.self.view_is
    (acted_calling k c.reap.new.self c.reject.new.self c.args.circuit (RejectAsk c.args.id c.args.reason) d st2 c.reject.ensures.same.ids (c.reject.ensures.state d st2.circuits) c.reap.ensures.state c.reap.ensures.circuits).state

pub returns-clause-freed : goal.returns-clause-freed
returns-clause-freed c = λ d st.
    let k = shown c.self.inside in
    let st2 : Stands k d = subst (λ z. Stands z d) (sym c.self.view_is) st in
    subst (λ (z : Kept). map key_shown c.reap.new.self.freed ≡ freed_between d (calling (side_of z) c.args.circuit (RejectAsk c.args.id c.args.reason) d)) c.self.view_is
    (acted_calling k c.reap.new.self c.reject.new.self c.args.circuit (RejectAsk c.args.id c.args.reason) d st2 c.reject.ensures.same.ids (c.reject.ensures.state d st2.circuits) c.reap.ensures.state c.reap.ensures.circuits).freed

pub returns-clause-same : goal.returns-clause-same
returns-clause-same c =
    lines_same (shown c.self.inside) c.args.self.now c.reap.new.self c.reject.new.self (record { was = c.self.view_is; circuits = c.reap.ensures.circuits }) c.reap.ensures.same.lines c.reject.ensures.same.core
