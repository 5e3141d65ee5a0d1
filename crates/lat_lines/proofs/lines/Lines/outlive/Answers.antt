use Rattle.std.proofs.Common.{sym, subst}
use Rattle.lat_machines.specs.values.Addresses.{address}
use Rattle.lat_machines.specs.cores.Cores.{Core}
use Rattle.lat_lines.specs.circuits.Ending.{outlived_core}
use Rattle.lat_lines.specs.Shown.{shown}
use Rattle.lat_lines.specs.Stands.{Stands}
use Rattle.lat_lines.proofs.CoresLater.{outlived_later}
use Rattle.lat_lines.proofs.Acting.{Acted, ok_of, same_held, acted}
use Rattle.lat_lines.proofs.Unchanged.{lines_same, moment_same, rooms_same_lines}
use Rattle.lat_lines.proofs.lines.Lines.outlive.Goals as goal

did : (c : goal.After-reap) (d : Core) → Stands c.args.self.now d → Acted d (outlived_core (address c.args.from.0) c.args.source d) c.reap.new.self
did c d st =
    let k = shown c.self.inside in
    let st2 : Stands k d = subst (λ z. Stands z d) (sym c.self.view_is) st in
    acted k c.outlive.new.self c.reap.new.self d (outlived_core (address c.args.from.0) c.args.source d) st2 (same_held k.circuits c.outlive.new.self c.outlive.ensures.same.ids) (c.outlive.ensures.state d st2.circuits)
    (outlived_later (address c.args.from.0) c.args.source d (ok_of k d st2)) c.reap.ensures.state c.reap.ensures.circuits

pub returns-clause-state : goal.returns-clause-state
returns-clause-state c = λ d st. (did c d st).state

pub returns-clause-freed : goal.returns-clause-freed
returns-clause-freed c = λ d st. (did c d st).freed

pub returns-clause-same : goal.returns-clause-same
returns-clause-same c =
    lines_same (shown c.self.inside) c.args.self.now c.reap.new.self c.outlive.new.self (record { was = c.self.view_is; circuits = c.reap.ensures.circuits }) c.reap.ensures.same.lines c.outlive.ensures.same.core

pub returns-clause-moment : goal.returns-clause-moment
returns-clause-moment c =
    moment_same (shown c.self.inside) c.args.self.now c.reap.new.self c.outlive.new.self (record { was = c.self.view_is; circuits = c.reap.ensures.circuits }) c.outlive.ensures.same.moment

pub returns-clause-rooms : goal.returns-clause-rooms
returns-clause-rooms c =
    rooms_same_lines (shown c.self.inside) c.args.self.now c.reap.new.self c.outlive.new.self (record { was = c.self.view_is; circuits = c.reap.ensures.circuits }) c.outlive.ensures.same
