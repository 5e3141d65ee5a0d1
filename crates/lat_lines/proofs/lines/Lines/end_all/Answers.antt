use Rattle.std.proofs.Common.{sym, subst}
use Rattle.lat_frames.specs.Reasons.{end_bits}
use Rattle.lat_machines.specs.cores.Cores.{ends_all}
use Rattle.lat_lines.specs.Kept.{Kept, side_of}
use Rattle.lat_lines.specs.Shown.{shown}
use Rattle.lat_lines.specs.Stands.{Stands, HasStepped}
use Rattle.lat_lines.proofs.CoresLater.{ends_later}
use Rattle.lat_lines.proofs.Acting.{ok_of, same_held, acted}
use Rattle.lat_lines.proofs.Unchanged.{lines_same, moment_same, rooms_same_lines}
use Rattle.lat_lines.proofs.lines.Lines.end_all.Goals as goal

pub returns-clause-did : goal.returns-clause-did
returns-clause-did c = λ d st.
    let k = shown c.self.inside in
    let reason = end_bits c.args.reason in
    let st2 : Stands k d = subst (λ z. Stands z d) (sym c.self.view_is) st in
    let did = c.end_all.ensures.did d st2.circuits in
    let a = acted k c.end_all.new.self c.reap.new.self d (ends_all (side_of k) reason d).core st2 (same_held k.circuits c.end_all.new.self c.end_all.ensures.same.ids) did.0 (ends_later (side_of k) reason d (ok_of k d st2)) c.reap.ensures.state c.reap.ensures.circuits in
    subst (λ (z : Kept). HasStepped d (ends_all (side_of z) reason d) c.reap.new.self c.args.out.now c.end_all.new.out) c.self.view_is
    (record { state = a.state; frames = did.1; freed = a.freed })

pub returns-clause-same : goal.returns-clause-same
returns-clause-same c =
    lines_same (shown c.self.inside) c.args.self.now c.reap.new.self c.end_all.new.self (record { was = c.self.view_is; circuits = c.reap.ensures.circuits }) c.reap.ensures.same.lines c.end_all.ensures.same.core

pub returns-clause-moment : goal.returns-clause-moment
returns-clause-moment c =
    moment_same (shown c.self.inside) c.args.self.now c.reap.new.self c.end_all.new.self (record { was = c.self.view_is; circuits = c.reap.ensures.circuits }) c.end_all.ensures.same.moment

pub returns-clause-rooms : goal.returns-clause-rooms
returns-clause-rooms c =
    rooms_same_lines (shown c.self.inside) c.args.self.now c.reap.new.self c.end_all.new.self (record { was = c.self.view_is; circuits = c.reap.ensures.circuits }) c.end_all.ensures.same
