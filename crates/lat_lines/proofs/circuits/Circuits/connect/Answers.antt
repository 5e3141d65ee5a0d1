use Rattle.std.proofs.Common.{◌∙◌, sym, ap, subst, refl, ◌&&◌, if◌then◌else◌, Ok, Err, slice_set, arith}
use Rattle.std.proofs.lemmas.Result.{err_from_is_err_and}
use Rattle.std.proofs.lemmas.Grind.{common_steps, elements}
use Rattle.lat_session.proofs.Results.{found_none}
use Rattle.lat_model.specs.sessions.Calls.{Connect}
use Rattle.lat_model.specs.sessions.Sessions.{least_free}
use Rattle.lat_model.specs.ends.End.{End}
use Rattle.lat_machines.specs.server.Server.{has_room}
use Rattle.lat_stream.specs.declared.calls.SessionFault.TheVariants.{Full}
use Rattle.lat_lines.specs.circuits.Kept.{Kept, Holds, side_of}
use Rattle.lat_lines.proofs.CircuitFound.{living_told, place_found, place_none}
use Rattle.lat_lines.proofs.circuits.Calling.{called_of, living_is, end_at, lives_at, called_same, called_clear, called_holds, called_stands, calls_none}
use Rattle.lat_lines.proofs.circuits.Circuits.connect.Goals as goal

pub invariant_of-self : goal.invariant_of-self
invariant_of-self c =
    let k = c.args.self.now in
    let b = called_of k c.args.circuit c.in_ok-at.at (Connect c.args.service.now c.args.request) c.self.inside.held.items c.index_mut-circuit.result.now c.connect.new.self _ (ap (λ (z : Kept). z.held) c.self.view_is) (place_found c.args.self.now c.args.circuit c.living_at.result c.in_ok-at.at c.living_at.ensures.place c.in_ok-at.ensures.ok_part) c.index_mut-circuit.ensures.value c.connect.ensures.keeps c.connect.ensures.ended c.connect.ensures.state (ap (λ (z : Kept). record z { held = slice_set z.held c.in_ok-at.at c.connect.new.self }) c.self.view_is) in
    (called_holds k c.args.circuit c.in_ok-at.at (Connect c.args.service.now c.args.request) c.index_mut-circuit.result.now c.connect.new.self _ (subst Holds c.self.view_is c.self.invariant.0) b, c.self.invariant.1, c.self.invariant.2)

pub returns-clause-state : goal.returns-clause-state
returns-clause-state c = λ d st.
    let k = c.args.self.now in
    let b = called_of k c.args.circuit c.in_ok-at.at (Connect c.args.service.now c.args.request) c.self.inside.held.items c.index_mut-circuit.result.now c.connect.new.self _ (ap (λ (z : Kept). z.held) c.self.view_is) (place_found c.args.self.now c.args.circuit c.living_at.result c.in_ok-at.at c.living_at.ensures.place c.in_ok-at.ensures.ok_part) c.index_mut-circuit.ensures.value c.connect.ensures.keeps c.connect.ensures.ended c.connect.ensures.state (ap (λ (z : Kept). record z { held = slice_set z.held c.in_ok-at.at c.connect.new.self }) c.self.view_is) in
    called_stands k d c.args.circuit c.in_ok-at.at (Connect c.args.service.now c.args.request) c.index_mut-circuit.result.now c.connect.new.self _ (subst Holds c.self.view_is c.self.invariant.0) b st

pub returns-clause-same : goal.returns-clause-same
returns-clause-same c =
    let k = c.args.self.now in
    let b = called_of k c.args.circuit c.in_ok-at.at (Connect c.args.service.now c.args.request) c.self.inside.held.items c.index_mut-circuit.result.now c.connect.new.self _ (ap (λ (z : Kept). z.held) c.self.view_is) (place_found c.args.self.now c.args.circuit c.living_at.result c.in_ok-at.at c.living_at.ensures.place c.in_ok-at.ensures.ok_part) c.index_mut-circuit.ensures.value c.connect.ensures.keeps c.connect.ensures.ended c.connect.ensures.state (ap (λ (z : Kept). record z { held = slice_set z.held c.in_ok-at.at c.connect.new.self }) c.self.view_is) in
    called_same k c.args.circuit c.in_ok-at.at (Connect c.args.service.now c.args.request) c.index_mut-circuit.result.now c.connect.new.self _ b

pub returns-clause-clear : goal.returns-clause-clear
returns-clause-clear c =
    let k = c.args.self.now in
    let b = called_of k c.args.circuit c.in_ok-at.at (Connect c.args.service.now c.args.request) c.self.inside.held.items c.index_mut-circuit.result.now c.connect.new.self _ (ap (λ (z : Kept). z.held) c.self.view_is) (place_found c.args.self.now c.args.circuit c.living_at.result c.in_ok-at.at c.living_at.ensures.place c.in_ok-at.ensures.ok_part) c.index_mut-circuit.ensures.value c.connect.ensures.keeps c.connect.ensures.ended c.connect.ensures.state (ap (λ (z : Kept). record z { held = slice_set z.held c.in_ok-at.at c.connect.new.self }) c.self.view_is) in
    called_clear k c.args.circuit c.in_ok-at.at (Connect c.args.service.now c.args.request) c.index_mut-circuit.result.now c.connect.new.self _ b

pub returns-clause-answer : goal.returns-clause-answer
returns-clause-answer c = λ d st.
    let k = c.args.self.now in
    let e : End = (d.circuits.circuit_at c.args.circuit).end in
    let q = c.index_mut-circuit.result.now in
    let is = living_is k c.args.circuit c.in_ok-at.at c.self.inside.held.items q (ap (λ (z : Kept). z.held) c.self.view_is) (place_found c.args.self.now c.args.circuit c.living_at.result c.in_ok-at.at c.living_at.ensures.place c.in_ok-at.ensures.ok_part) c.index_mut-circuit.ensures.value in
    c.connect.ensures.answer e (end_at k d c.args.circuit c.in_ok-at.at q is st)
    ∙ ap (λ b. if b && has_room d c.args.circuit then Ok (least_free e.half.sessions) else Err Full) (sym (lives_at k d c.args.circuit c.in_ok-at.at q is st))

pub returns-in_err-at-clause-answer : goal.returns-in_err-at-clause-answer
returns-in_err-at-clause-answer c = λ d st.
    let e : End = (d.circuits.circuit_at c.args.circuit).end in
    let p = err_from_is_err_and c.from_residual.result c.from_residual.ensures.1 in
    found_none c.living_at.result c.in_err-at.field-0.0 Full c.from_residual.result (p.1 ∙ ap Err p.2) c.in_err-at.ensures.ok_part c.in_err-at.ensures.value
    ∙ ap (λ b. if b && has_room d c.args.circuit then Ok (least_free e.half.sessions) else Err Full) (sym (living_told c.args.self.now d c.args.circuit _ refl st ∙ place_none c.args.self.now c.args.circuit c.living_at.result c.living_at.ensures.place c.in_err-at.ensures.ok_part))

pub returns-in_err-at-clause-state : goal.returns-in_err-at-clause-state
returns-in_err-at-clause-state c = λ d st.
    calls_none c.args.self.now (side_of c.args.self.now) d c.args.circuit (Connect c.args.service.now c.args.request) (living_told c.args.self.now d c.args.circuit _ refl st ∙ place_none c.args.self.now c.args.circuit c.living_at.result c.living_at.ensures.place c.in_err-at.ensures.ok_part) st

pub connect-requires-clause-lives : goal.connect-requires-clause-lives
connect-requires-clause-lives c = grind (arith, elements)

pub connect-requires-clause-master : goal.connect-requires-clause-master
connect-requires-clause-master c = grind (arith, common_steps)
