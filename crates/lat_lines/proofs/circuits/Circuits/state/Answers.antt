use Rattle.std.proofs.Common.{sym, ap, cond, rules}
use Rattle.lat_base.specs.declared.state.SessionState.TheVariants.{Free}
use Rattle.lat_model.specs.ends.End.{End}
use Rattle.lat_model.specs.sessions.Session.{state}
use Rattle.lat_model.specs.sessions.Sessions.{named}
use Rattle.lat_stream.specs.Kept.{state_of}
use Rattle.lat_circuit.specs.Info.{session_state}
use Rattle.lat_lines.proofs.CircuitFound.{told, found_is, none_lives, side_told}
use Rattle.lat_lines.proofs.circuits.Circuits.state.Goals as goal

pub returns-clause-model : goal.returns-clause-model
returns-clause-model c = λ d st.
    let e : End = (d.circuits.circuit_at c.args.circuit).end in
    told c.map_or.result (session_state e c.args.id) Free c.args.self.now c.args.circuit c.circuit.result c.circuit.ensures.value c.map_or.ensures
    (λ none. ap (λ b. cond b (state_of (state e.half.sessions.master (named e.half.sessions c.args.id))) Free) (sym (none_lives c.args.self.now d c.args.circuit none st)))
    (λ q is h. let f = (found_is c.args.self.now d c.args.circuit q.now is st).end in search rules)

pub returns-clause-side : goal.returns-clause-side
returns-clause-side c = λ d st l. side_told c.args.self.now d c.args.circuit c.circuit.result c.circuit.ensures.value c.circuit.ensures.own st l
