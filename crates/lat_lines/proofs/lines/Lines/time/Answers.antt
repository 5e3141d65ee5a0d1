use Rattle.std.proofs.Common.{◌≡◌, true, not, nat_eq, eqb-true, length, sym, subst, ◌∙◌}
use Rattle.std.proofs.lemmas.Bool.{and_parts, not-true}
use Rattle.lat_machines.specs.cores.Cores.{Core, passes_time}
use Rattle.lat_lines.specs.Calm.{CoreCalm}
use Rattle.lat_lines.specs.Kept.{Kept, side_of}
use Rattle.lat_lines.specs.Shown.{shown}
use Rattle.lat_lines.specs.Stands.{Stands, HasStepped}
use Rattle.lat_lines.proofs.CoresLater.{time_passes_later}
use Rattle.lat_lines.proofs.Acting.{ok_of, same_held, acted_unless}
use Rattle.lat_lines.proofs.resting.Cores.{has_ended, none_added, time_calm, all_go_on}
use Rattle.lat_lines.proofs.Unchanged.{lines_same, moment_same, rooms_same_lines}
use Rattle.lat_lines.proofs.lines.Lines.time.Goals as goal

-- where no frame went out and no circuit that has ended is held, lines know all of their sessions
calms : (c : goal.After-reap_unless) (d : Core) → Stands (shown c.self.inside) d → c.is_calm-is_calm.result ≡ true → CoreCalm d (passes_time (side_of (shown c.self.inside)) d).core
calms c d st t =
    let k = shown c.self.inside in
    let did = c.time.ensures.did d st.circuits in
    let e : Core = (passes_time (side_of k) d).core in
    let q = c.time.new.self in
    let parts = and_parts (nat_eq (length c.time.new.out) c.len-before.result) (not (has_ended q.held)) (sym c.is_calm-is_calm.ensures ∙ t) in
    let none = none_added (passes_time (side_of k) d).frames c.args.out.now c.time.new.out did.1 (eqb-true (length c.time.new.out) c.len-before.result parts.0 ∙ c.len-before.ensures.value) in
    time_calm (side_of k) d none (all_go_on k.circuits q d e st.circuits did.0 (same_held k.circuits q c.time.ensures.same.ids) (not-true (has_ended q.held) parts.1))

did_time : (c : goal.After-reap_unless) (d : Core) → Stands (shown c.self.inside) d → HasStepped d (passes_time (side_of (shown c.self.inside)) d) c.reap_unless.new.self c.args.out.now c.time.new.out
did_time c d st =
    let k = shown c.self.inside in
    let did = c.time.ensures.did d st.circuits in
    let a = acted_unless k c.time.new.self c.reap_unless.new.self _ d (passes_time (side_of k) d).core st (same_held k.circuits c.time.new.self c.time.ensures.same.ids) did.0 (time_passes_later (side_of k) d (ok_of k d st)) c.reap_unless.ensures.state c.reap_unless.ensures.circuits (calms c d st) in
    record { state = a.state; frames = did.1; freed = a.freed }

pub returns-clause-did : goal.returns-clause-did
returns-clause-did c = λ d st.
    subst (λ (z : Kept). HasStepped d (passes_time (side_of z) d) c.reap_unless.new.self c.args.out.now c.time.new.out) c.self.view_is
    (did_time c d (subst (λ z. Stands z d) (sym c.self.view_is) st))

pub returns-clause-same : goal.returns-clause-same
returns-clause-same c =
    lines_same (shown c.self.inside) c.args.self.now c.reap_unless.new.self c.time.new.self (record { was = c.self.view_is; circuits = c.reap_unless.ensures.circuits }) c.reap_unless.ensures.same.lines c.time.ensures.same.core

pub returns-clause-moment : goal.returns-clause-moment
returns-clause-moment c =
    moment_same (shown c.self.inside) c.args.self.now c.reap_unless.new.self c.time.new.self (record { was = c.self.view_is; circuits = c.reap_unless.ensures.circuits }) c.time.ensures.same.moment

pub returns-clause-rooms : goal.returns-clause-rooms
returns-clause-rooms c =
    rooms_same_lines (shown c.self.inside) c.args.self.now c.reap_unless.new.self c.time.new.self (record { was = c.self.view_is; circuits = c.reap_unless.ensures.circuits }) c.time.ensures.same
