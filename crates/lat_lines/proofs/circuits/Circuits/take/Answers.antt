use Rattle.std.proofs.Common.{◌∙◌, sym, ap, subst, refl, ◌&&◌, if◌then◌else◌, Ok, Err, slice_set, length, map, drop, ◌++◌, arith}
use Rattle.std.proofs.lemmas.Result.{err_from_is_err_and}
use Rattle.std.proofs.lemmas.Grind.{elements}
use Rattle.lat_session.proofs.Results.{found_none}
use Rattle.lat_model.specs.sessions.Calls.{take_count, took, Take}
use Rattle.lat_model.specs.sessions.Session.{take_open}
use Rattle.lat_model.specs.sessions.Sessions.{named}
use Rattle.lat_stream.specs.Kept.{item_of}
use Rattle.lat_model.specs.ends.End.{End}
use Rattle.lat_stream.specs.declared.calls.SessionFault.TheVariants.{Closed}
use Rattle.lat_lines.specs.circuits.Kept.{Kept, Holds, side_of}
use Rattle.lat_lines.proofs.CircuitFound.{living_told, place_found, place_none}
use Rattle.lat_lines.proofs.circuits.Calling.{called_of, living_is, end_at, lives_at, called_same, called_clear, called_holds, called_stands, calls_none}
use Rattle.lat_lines.proofs.circuits.Circuits.take.Goals as goal

pub invariant_of-self : goal.invariant_of-self
invariant_of-self c =
    let k = c.args.self.now in
    let b = called_of k c.args.circuit c.in_ok-at.at (Take c.args.id (length c.args.out.now)) c.self.inside.held.items c.index_mut-circuit.result.now c.take.new.self _ (ap (λ (z : Kept). z.held) c.self.view_is) (place_found c.args.self.now c.args.circuit c.living_at.result c.in_ok-at.at c.living_at.ensures.place c.in_ok-at.ensures.ok_part) c.index_mut-circuit.ensures.value c.take.ensures.keeps c.take.ensures.ended c.take.ensures.state (ap (λ (z : Kept). record z { held = slice_set z.held c.in_ok-at.at c.take.new.self }) c.self.view_is) in
    (called_holds k c.args.circuit c.in_ok-at.at (Take c.args.id (length c.args.out.now)) c.index_mut-circuit.result.now c.take.new.self _ (subst Holds c.self.view_is c.self.invariant.0) b, c.self.invariant.1, c.self.invariant.2)

pub returns-clause-state : goal.returns-clause-state
returns-clause-state c = λ d st.
    let k = c.args.self.now in
    let b = called_of k c.args.circuit c.in_ok-at.at (Take c.args.id (length c.args.out.now)) c.self.inside.held.items c.index_mut-circuit.result.now c.take.new.self _ (ap (λ (z : Kept). z.held) c.self.view_is) (place_found c.args.self.now c.args.circuit c.living_at.result c.in_ok-at.at c.living_at.ensures.place c.in_ok-at.ensures.ok_part) c.index_mut-circuit.ensures.value c.take.ensures.keeps c.take.ensures.ended c.take.ensures.state (ap (λ (z : Kept). record z { held = slice_set z.held c.in_ok-at.at c.take.new.self }) c.self.view_is) in
    called_stands k d c.args.circuit c.in_ok-at.at (Take c.args.id (length c.args.out.now)) c.index_mut-circuit.result.now c.take.new.self _ (subst Holds c.self.view_is c.self.invariant.0) b st

pub returns-clause-same : goal.returns-clause-same
returns-clause-same c =
    let k = c.args.self.now in
    let b = called_of k c.args.circuit c.in_ok-at.at (Take c.args.id (length c.args.out.now)) c.self.inside.held.items c.index_mut-circuit.result.now c.take.new.self _ (ap (λ (z : Kept). z.held) c.self.view_is) (place_found c.args.self.now c.args.circuit c.living_at.result c.in_ok-at.at c.living_at.ensures.place c.in_ok-at.ensures.ok_part) c.index_mut-circuit.ensures.value c.take.ensures.keeps c.take.ensures.ended c.take.ensures.state (ap (λ (z : Kept). record z { held = slice_set z.held c.in_ok-at.at c.take.new.self }) c.self.view_is) in
    called_same k c.args.circuit c.in_ok-at.at (Take c.args.id (length c.args.out.now)) c.index_mut-circuit.result.now c.take.new.self _ b

pub returns-clause-clear : goal.returns-clause-clear
returns-clause-clear c =
    let k = c.args.self.now in
    let b = called_of k c.args.circuit c.in_ok-at.at (Take c.args.id (length c.args.out.now)) c.self.inside.held.items c.index_mut-circuit.result.now c.take.new.self _ (ap (λ (z : Kept). z.held) c.self.view_is) (place_found c.args.self.now c.args.circuit c.living_at.result c.in_ok-at.at c.living_at.ensures.place c.in_ok-at.ensures.ok_part) c.index_mut-circuit.ensures.value c.take.ensures.keeps c.take.ensures.ended c.take.ensures.state (ap (λ (z : Kept). record z { held = slice_set z.held c.in_ok-at.at c.take.new.self }) c.self.view_is) in
    called_clear k c.args.circuit c.in_ok-at.at (Take c.args.id (length c.args.out.now)) c.index_mut-circuit.result.now c.take.new.self _ b

pub returns-clause-answer : goal.returns-clause-answer
returns-clause-answer c = λ d st.
    let k = c.args.self.now in
    let e : End = (d.circuits.circuit_at c.args.circuit).end in
    let q = c.index_mut-circuit.result.now in
    let is = living_is k c.args.circuit c.in_ok-at.at c.self.inside.held.items q (ap (λ (z : Kept). z.held) c.self.view_is) (place_found c.args.self.now c.args.circuit c.living_at.result c.in_ok-at.at c.living_at.ensures.place c.in_ok-at.ensures.ok_part) c.index_mut-circuit.ensures.value in
    c.take.ensures.answer e (end_at k d c.args.circuit c.in_ok-at.at q is st)
    ∙ ap (λ b. if b && take_open (named e.half.sessions c.args.id) then Ok (take_count (named e.half.sessions c.args.id) (length c.args.out.now)) else Err Closed) (sym (lives_at k d c.args.circuit c.in_ok-at.at q is st))

pub returns-in_err-at-clause-answer : goal.returns-in_err-at-clause-answer
returns-in_err-at-clause-answer c = λ d st.
    let e : End = (d.circuits.circuit_at c.args.circuit).end in
    let p = err_from_is_err_and c.from_residual.result c.from_residual.ensures.1 in
    found_none c.living_at.result c.in_err-at.field-0.0 Closed c.from_residual.result (p.1 ∙ ap Err p.2) c.in_err-at.ensures.ok_part c.in_err-at.ensures.value
    ∙ ap (λ b. if b && take_open (named e.half.sessions c.args.id) then Ok (take_count (named e.half.sessions c.args.id) (length c.args.out.now)) else Err Closed) (sym (living_told c.args.self.now d c.args.circuit _ refl st ∙ place_none c.args.self.now c.args.circuit c.living_at.result c.living_at.ensures.place c.in_err-at.ensures.ok_part))

pub returns-in_err-at-clause-state : goal.returns-in_err-at-clause-state
returns-in_err-at-clause-state c = λ d st.
    calls_none c.args.self.now (side_of c.args.self.now) d c.args.circuit (Take c.args.id (length c.args.out.now)) (living_told c.args.self.now d c.args.circuit _ refl st ∙ place_none c.args.self.now c.args.circuit c.living_at.result c.living_at.ensures.place c.in_err-at.ensures.ok_part) st

pub returns-clause-items : goal.returns-clause-items
returns-clause-items c = λ d st.
    let k = c.args.self.now in
    let e : End = (d.circuits.circuit_at c.args.circuit).end in
    let q = c.index_mut-circuit.result.now in
    let is = living_is k c.args.circuit c.in_ok-at.at c.self.inside.held.items q (ap (λ (z : Kept). z.held) c.self.view_is) (place_found c.args.self.now c.args.circuit c.living_at.result c.in_ok-at.at c.living_at.ensures.place c.in_ok-at.ensures.ok_part) c.index_mut-circuit.ensures.value in
    c.take.ensures.items e (end_at k d c.args.circuit c.in_ok-at.at q is st)
    ∙ ap (λ b. if b && take_open (named e.half.sessions c.args.id) then map item_of (took e.half.sessions c.args.id (length c.args.out.now)) ++ drop (take_count (named e.half.sessions c.args.id) (length c.args.out.now)) c.args.out.now else c.args.out.now) (sym (lives_at k d c.args.circuit c.in_ok-at.at q is st))

pub returns-in_err-at-clause-items : goal.returns-in_err-at-clause-items
returns-in_err-at-clause-items c = λ d st.
    let e : End = (d.circuits.circuit_at c.args.circuit).end in
    ap (λ b. if b && take_open (named e.half.sessions c.args.id) then map item_of (took e.half.sessions c.args.id (length c.args.out.now)) ++ drop (take_count (named e.half.sessions c.args.id) (length c.args.out.now)) c.args.out.now else c.args.out.now) (sym (living_told c.args.self.now d c.args.circuit _ refl st ∙ place_none c.args.self.now c.args.circuit c.living_at.result c.living_at.ensures.place c.in_err-at.ensures.ok_part))

pub take-requires : goal.take-requires
take-requires c = grind (arith, elements)

pub returns-clause-count : goal.returns-clause-count
returns-clause-count c = grind (arith, elements)
