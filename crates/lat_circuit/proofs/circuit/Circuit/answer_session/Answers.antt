use Rattle.std.proofs.Common.{sym, subst}
use Rattle.lat_model.specs.sessions.Calls.{Answer}
use Rattle.lat_circuit.specs.Stands.{Stands}
use Rattle.lat_circuit.proofs.Holding.{answer_frees_none, called_stands}
use Rattle.lat_circuit.proofs.circuit.Circuit.answer_session.Goals as goal

pub returns-clause-state : goal.returns-clause-state
returns-clause-state c = λ e st.
    let here = subst (λ k. Stands k e) (sym c.self.view_is) st in
    called_stands c.self.inside c.answer.new.self e (Answer c.args.id) here (answer_frees_none e.half.sessions c.args.id) (c.answer.ensures.state e.half.sessions here.sessions)
