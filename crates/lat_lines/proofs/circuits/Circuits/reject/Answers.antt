use Rattle.std.proofs.Common.{ap, subst, slice_set, arith}
use Rattle.std.proofs.lemmas.Grind.{elements}
use Rattle.lat_model.specs.sessions.Calls.{RejectAsk}
use Rattle.lat_lines.specs.circuits.Kept.{Kept, Holds, side_of}
use Rattle.lat_lines.proofs.circuits.Calling.{called_of, called_same, called_holds, called_stands, refuses_nothing}
use Rattle.lat_lines.proofs.circuits.Circuits.reject.Goals as goal

pub invariant_of-self : goal.invariant_of-self
invariant_of-self c =
    let k = c.args.self.now in
    let b = called_of k c.args.circuit c.in-Some.at (RejectAsk c.args.id c.args.reason) c.self.inside.held.items c.index_mut-circuit.result.now c.reject.new.self _ (ap (λ (z : Kept). z.held) c.self.view_is) (c.in-Some.ensures.place.0, c.in-Some.ensures.place.1) c.index_mut-circuit.ensures.value c.reject.ensures.keeps c.reject.ensures.ended c.reject.ensures.state (ap (λ (z : Kept). record z { held = slice_set z.held c.in-Some.at c.reject.new.self }) c.self.view_is) in
    (called_holds k c.args.circuit c.in-Some.at (RejectAsk c.args.id c.args.reason) c.index_mut-circuit.result.now c.reject.new.self _ (subst Holds c.self.view_is c.self.invariant.0) b, c.self.invariant.1, c.self.invariant.2)

pub returns-in-Some-clause-state : goal.returns-in-Some-clause-state
returns-in-Some-clause-state c = λ d st.
    let k = c.args.self.now in
    let b = called_of k c.args.circuit c.in-Some.at (RejectAsk c.args.id c.args.reason) c.self.inside.held.items c.index_mut-circuit.result.now c.reject.new.self _ (ap (λ (z : Kept). z.held) c.self.view_is) (c.in-Some.ensures.place.0, c.in-Some.ensures.place.1) c.index_mut-circuit.ensures.value c.reject.ensures.keeps c.reject.ensures.ended c.reject.ensures.state (ap (λ (z : Kept). record z { held = slice_set z.held c.in-Some.at c.reject.new.self }) c.self.view_is) in
    called_stands k d c.args.circuit c.in-Some.at (RejectAsk c.args.id c.args.reason) c.index_mut-circuit.result.now c.reject.new.self _ (subst Holds c.self.view_is c.self.invariant.0) b st

pub returns-in-Some-clause-same : goal.returns-in-Some-clause-same
returns-in-Some-clause-same c =
    let k = c.args.self.now in
    let b = called_of k c.args.circuit c.in-Some.at (RejectAsk c.args.id c.args.reason) c.self.inside.held.items c.index_mut-circuit.result.now c.reject.new.self _ (ap (λ (z : Kept). z.held) c.self.view_is) (c.in-Some.ensures.place.0, c.in-Some.ensures.place.1) c.index_mut-circuit.ensures.value c.reject.ensures.keeps c.reject.ensures.ended c.reject.ensures.state (ap (λ (z : Kept). record z { held = slice_set z.held c.in-Some.at c.reject.new.self }) c.self.view_is) in
    called_same k c.args.circuit c.in-Some.at (RejectAsk c.args.id c.args.reason) c.index_mut-circuit.result.now c.reject.new.self _ b

pub returns-in_default-clause-state : goal.returns-in_default-clause-state
returns-in_default-clause-state c = λ d st.
    refuses_nothing c.args.self.now (side_of c.args.self.now) d c.args.circuit c.args.id c.args.reason c.in_default.ensures.place st

pub reject-requires-clause-lives : goal.reject-requires-clause-lives
reject-requires-clause-lives c = grind (arith, elements)

pub reject-requires-clause-asked : goal.reject-requires-clause-asked
reject-requires-clause-asked c = grind (arith, elements)
