use Rattle.std.proofs.Common.{sym, subst}
use Rattle.lat_model.specs.sessions.Calls.{Connect}
use Rattle.lat_circuit.specs.Stands.{Stands}
use Rattle.lat_circuit.proofs.Holding.{connect_frees_none, called_stands}
use Rattle.lat_circuit.proofs.circuit.Circuit.connect.Goals as goal

pub returns-clause-state : goal.returns-clause-state
returns-clause-state c = λ e st.
    let here = subst (λ k. Stands k e) (sym c.self.view_is) st in
    called_stands c.self.inside c.connect.new.self e (Connect c.args.service.now c.args.request) here
    (connect_frees_none e.half.sessions c.args.service.now c.args.request)
    (c.connect.ensures.state e.half.sessions here.sessions)

pub returns-clause-answer : goal.returns-clause-answer
returns-clause-answer c = λ e st.
    let here = subst (λ k. Stands k e) (sym c.self.view_is) st in
    c.connect.ensures.answer e.half.sessions here.sessions
