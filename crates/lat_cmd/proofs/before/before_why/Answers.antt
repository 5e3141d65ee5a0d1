use Rattle.std.proofs.Common.{sym, subst}
use Rattle.lat_wire.specs.Stands.{Stands}
use Rattle.lat_cmd.proofs.Refusing.{before_found}
use Rattle.lat_cmd.proofs.before.before_why.Goals as goal

pub returns : goal.returns
returns g c = λ t stands.
    before_found c.args.lines.now t.machines c.args.why c.in-NoFrame.index c.in-NoFrame.sent _ c.in_ok-event.event c.in_ok-event.refusal c.line_of-line.result
    c.in-NoFrame.is (c.notes.ensures t.machines (subst (λ k. Stands k t.machines) (sym c.wire.ensures) stands.machines.wire)) c.in_ok-event.ensures
    c.line_of-line.ensures
