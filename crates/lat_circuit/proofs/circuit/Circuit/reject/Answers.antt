use Rattle.std.proofs.Common.{sym, subst}
use Rattle.lat_model.specs.ends.End.{call_end}
use Rattle.lat_model.specs.sessions.Calls.{call, RejectAsk}
use Rattle.lat_circuit.specs.Stands.{Stands}
use Rattle.lat_circuit.proofs.Sends.{with_sessions}
use Rattle.lat_circuit.proofs.circuit.Circuit.reject.Goals as goal

pub returns-clause-state : goal.returns-clause-state
returns-clause-state c = λ e st.
    let here = subst (λ k. Stands k e) (sym c.self.view_is) st in
    c.note_empty.ensures.state e (call_end (RejectAsk c.args.id c.args.reason) e)
    (with_sessions c.self.inside c.reject.new.self e (call e.half.sessions (RejectAsk c.args.id c.args.reason)) here (c.reject.ensures.state e.half.sessions here.sessions))
    (c.is_held-was_held.ensures e st)
