use Rattle.std.proofs.Common.{◌≤◌, ◌+◌, length, arith, ◌≡◌, ℕ, suc, rules, Option, Ok, Err, sym, ap, subst, ◌∙◌}
use Rattle.std.proofs.lemmas.Bool.{and_from}
use Rattle.lat_model.specs.ends.End.{lives}
use Rattle.lat_model.specs.circuits.Ids.{next_id}
use Rattle.lat_model.specs.sessions.Calls.{Connect}
use Rattle.lat_model.specs.sessions.Sessions.{named, least_free}
use Rattle.lat_machines.specs.values.Addresses.{address}
use Rattle.lat_machines.specs.cores.Cores.{Core, Side, Doing}
use Rattle.lat_machines.specs.server.Server.{server_side, has_room, opens}
use Rattle.lat_queue.specs.Histories.{some_key}
use Rattle.lat_payload.specs.Frames.{Emits}
use Rattle.lat_lines.specs.circuits.Stands.{calling}
use Rattle.lat_lines.specs.circuits.Stands as stands
use Rattle.lat_lines.specs.Kept.{Kept, side_of}
use Rattle.lat_lines.specs.Later.{asked_for, Leads}
use Rattle.lat_lines.specs.Stands.{Stands}
use Rattle.lat_lines.specs.Opens.{way, reaches, reached, seated_core, request_of}
use Rattle.lat_lines.specs.Shown.{shown}
use Rattle.lat_lines.specs.circuits.Kept.{HasRooms}
use Rattle.lat_lines.proofs.circuits.Ids.{next_core}
use Rattle.lat_lines.proofs.circuits.Reserving.{rooms_same}
use Rattle.lat_lines.proofs.Acting.{StayHeld, ok_of, acted, same_held}
use Rattle.lat_lines.proofs.Standing.{stands_as}
use Rattle.lat_lines.proofs.Accepting.{none_still, called_lives}
use Rattle.lat_lines.proofs.Connecting.{connected_leads, connected_wants, side_kept}
use Rattle.lat_lines.proofs.Opened.{opening_way, by_way, given_by, Reached, reached_by, calls_by, opens_so, connects_frames}
use Rattle.lat_lines.proofs.lines.Lines.open.Goals as goal

pub returns-in_err-way-clause-answer : goal.returns-in_err-way-clause-answer
returns-in_err-way-clause-answer c = λ d st.
    let a = address c.args.peer.0 in
    let fault = c.in_err-way.field-0.0 in
    let is : c.from_residual.result ≡ Err fault = search rules in
    is ∙ sym (opening_way d a ∙ ap (by_way d a) (sym (c.opening.ensures.way d st) ∙ c.in_err-way.was))

pub returns-clause-opened : goal.returns-clause-opened
returns-clause-opened c = λ config d side st none.
    let k = shown c.self.inside in
    let S : Side = side_of k in
    let a = address c.args.peer.0 in
    let x = c.reach-circuit.result in
    let s = c.connect-session.result in
    let w = c.in_ok-way.way in
    let key = some_key c.args.key in
    let wants = request_of c.args.key in
    let st2 : Stands k d = subst (λ z. Stands z d) (sym c.self.view_is) st in
    let is : server_side config ≡ S = side ∙ ap side_of (sym c.self.view_is) in
    let way_is : way d a ≡ Ok w = sym (c.opening.ensures.way d st) ∙ c.in_ok-way.was in
    let R : Doing = reaches S a c.args.node.now w d in
    let did = c.reach-circuit.ensures.did d st2.circuits in
    let id : x ≡ reached (next_id d.circuits) w = c.reach-circuit.ensures.id ∙ ap (λ n. reached n w) (next_core k.circuits d st2.circuits) in
    let r : Reached S d R.core a x = subst (Reached S d R.core a) (sym id) (reached_by S d a c.args.node.now w (ok_of k d st2) way_is (λ e. (c.reach-circuit.ensures.timing e).sessions.0)) in
    let asks = Connect c.args.service.now c.request_in-request.result in
    let e : Core = calling S x asks R.core in
    let stood : stands.Stands c.connect-session.new.circuits e = subst (λ z. stands.Stands c.connect-session.new.circuits (calling z x asks R.core)) (side_kept k.circuits c.reach-circuit.new.circuits c.reach-circuit.ensures.core) (c.connect-session.ensures.state R.core did.0) in
    let held : StayHeld k.circuits c.connect-session.new.circuits = λ y h. same_held c.reach-circuit.new.circuits c.connect-session.new.circuits c.connect-session.ensures.same.ids y (c.reach-circuit.ensures.held y h) in
    let done : Stands c.reap.new.self e = (acted k c.connect-session.new.circuits c.reap.new.self d e st2 held stood (r.later asks) c.reap.ensures.state c.reap.ensures.circuits).state in
    let k2 = shown c.self-2.inside in
    let st3 : Stands k2 e = subst (λ z. Stands z e) (sym c.self-2.view_is) done in
    let st4 = stands_as k2 k2.circuits c.clear.new.self.items e st3 st3.circuits in
    let free = none_still k c.connect-session.new.circuits d e c.args.line st2 stood (r.later asks) none in
    let alive = called_lives S x asks R.core r.lives in
    let server = ap (λ (z : Kept). z.circuits.server) c.self-2.view_is ∙ ap (λ z. z.server) c.reap.ensures.circuits ∙ c.connect-session.ensures.same.core.server ∙ c.reach-circuit.ensures.core.server ∙ ap (λ (z : Kept). z.circuits.server) c.self.view_is ∙ c.requires.server in
    let side = c.seat.ensures.side e st4 free alive ∙ server in
    let leads = connected_leads S x c.args.service.now c.request_in-request.result R.core r.lives r.room side in
    let wanted = connected_wants S x c.args.service.now c.request_in-request.result R.core r.lives r.room side in
    let first = least_free (R.core.circuits.circuit_at x).end.half.sessions in
    let serial = suc (R.core.circuits.circuit_at x).end.half.sessions.made in
    let same_id : s ≡ first = c.connect-session.ensures.id R.core did.0 (and_from (lives (R.core.circuits.circuit_at x).end) (has_room R.core x) r.lives r.room) in
    let seated = c.seat.ensures.state e serial st4 free alive (subst (λ i. Leads (e.circuits.circuit_at x).end.half.sessions i serial) (sym same_id) leads) (subst (λ i. asked_for (named (e.circuits.circuit_at x).end.half.sessions i) ≡ (c.args.service.now, c.request_in-request.result)) (sym same_id) wanted) in
    let so = opens_so config c.args.line a c.args.node.now c.args.service.now key wants d R x (calls_by config d a c.args.node.now w way_is ∙ ap (λ z. reaches z a c.args.node.now w d) is) r.found in
    let F : Side → Option ℕ → ℕ → Core = λ z req i. seated_core (calling z x (Connect c.args.service.now req) R.core) (record { line = c.args.line; circuit = x; id = i; serial = serial; key = key }) in
    let core : F S c.request_in-request.result s ≡ (opens config c.args.line a c.args.node.now c.args.service.now key wants d).core =
    sym (ap (λ z. z.core) so ∙ ap (λ z. F z wants first) is ∙ ap (λ req. F S req first) (sym c.request_in-request.ensures) ∙ ap (F S c.request_in-request.result) (sym same_id)) in
    let frames = ap (λ z. z.frames) so ∙ connects_frames config c.args.line x c.args.service.now key wants R in (
      subst (Stands c.seat.new.self) core seated,
      subst (λ fs. Emits fs c.args.out.now c.reach-circuit.new.out) (sym frames) did.1,
    )

pub returns-clause-answer : goal.returns-clause-answer
returns-clause-answer c = λ d st.
    let k = shown c.self.inside in
    let S : Side = side_of k in
    let a = address c.args.peer.0 in
    let x = c.reach-circuit.result in
    let w = c.in_ok-way.way in
    let st2 : Stands k d = subst (λ z. Stands z d) (sym c.self.view_is) st in
    let way_is : way d a ≡ Ok w = sym (c.opening.ensures.way d st) ∙ c.in_ok-way.was in
    let R : Doing = reaches S a c.args.node.now w d in
    let did = c.reach-circuit.ensures.did d st2.circuits in
    let id : x ≡ reached (next_id d.circuits) w = c.reach-circuit.ensures.id ∙ ap (λ n. reached n w) (next_core k.circuits d st2.circuits) in
    let r : Reached S d R.core a x = subst (Reached S d R.core a) (sym id) (reached_by S d a c.args.node.now w (ok_of k d st2) way_is (λ e. (c.reach-circuit.ensures.timing e).sessions.0)) in
    let named = c.connect-session.ensures.id R.core did.0 (and_from (lives (R.core.circuits.circuit_at x).end) (has_room R.core x) r.lives r.room) in
    sym (opening_way d a
    ∙ ap (by_way d a) way_is
    ∙ ap Ok (given_by S d a c.args.node.now w way_is ∙ ap (λ z. (z, least_free (R.core.circuits.circuit_at z).end.half.sessions)) (sym id) ∙ ap (λ i. (x, i)) (sym named)))

pub reach-circuit-requires-clause-memory : goal.reach-circuit-requires-clause-memory
reach-circuit-requires-clause-memory c =
    subst (λ (z : Kept). HasRooms 1 z.circuits) (sym c.self.view_is) c.requires.memory

pub returns-clause-rooms : goal.returns-clause-rooms
returns-clause-rooms c =
    omega (
      arith,
      c.reach-circuit.ensures.rooms,
      rooms_same c.reach-circuit.new.circuits c.connect-session.new.circuits c.connect-session.ensures.same,
      ap (λ z. length z.rooms) c.reap.ensures.circuits,
      ap (λ z. length z.rooms) c.seat.ensures.circuits,
      ap (λ (z : Kept). length z.circuits.rooms) c.self.view_is,
      ap (λ (z : Kept). length z.circuits.rooms) c.self-2.view_is,
    )
