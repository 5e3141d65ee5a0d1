use Rattle.std.proofs.Common.{sym, subst}
use Rattle.lat_model.specs.ends.End.{call_end}
use Rattle.lat_model.specs.sessions.Calls.{call}
use Rattle.lat_session.specs.Calls.{call_of}
use Rattle.lat_circuit.specs.Stands.{Stands}
use Rattle.lat_circuit.proofs.Holding.{call_frees_none, called_stands}
use Rattle.lat_circuit.proofs.Sends.{with_sessions}
use Rattle.lat_circuit.proofs.circuit.Circuit.call_session.Goals as goal

pub returns-in-Close-clause-state : goal.returns-in-Close-clause-state
returns-in-Close-clause-state c = λ e st.
    let here = subst (λ k. Stands k e) (sym c.self.view_is) st in
    c.note_empty.ensures.state e (call_end (call_of c.args.id c.args.call.now) e)
    (with_sessions c.self.inside c.call-answer.new.self e (call e.half.sessions (call_of c.args.id c.args.call.now)) here (c.call-answer.ensures.state e.half.sessions here.sessions))
    (c.is_held-was_held.ensures e st)

pub returns-in_default-clause-state : goal.returns-in_default-clause-state
returns-in_default-clause-state c = λ e st.
    let here = subst (λ k. Stands k e) (sym c.self-in_default.view_is) st in
    called_stands c.self-in_default.inside c.call.new.self e (call_of c.args.id c.args.call.now) here
    (call_frees_none e.half.sessions c.args.id c.args.call.now c.in_default.not-Close)
    (c.call.ensures.state e.half.sessions here.sessions)

pub returns-in-Close-clause-answer : goal.returns-in-Close-clause-answer
returns-in-Close-clause-answer c = λ e st.
    let here = subst (λ k. Stands k e) (sym c.self.view_is) st in
    c.call-answer.ensures.answer e.half.sessions here.sessions

pub returns-in_default-clause-answer : goal.returns-in_default-clause-answer
returns-in_default-clause-answer c = λ e st.
    let here = subst (λ k. Stands k e) (sym c.self-in_default.view_is) st in
    c.call.ensures.answer e.half.sessions here.sessions
