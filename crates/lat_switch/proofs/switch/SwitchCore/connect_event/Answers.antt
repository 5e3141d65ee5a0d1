use Rattle.std.proofs.Common.{sym, ◌∙◌}
use Rattle.lat_switch.specs.Calls.{connects}
use Rattle.lat_switch.proofs.Courses.{no_such_line, such_line, same_itself, same_then}
use Rattle.lat_switch.proofs.switch.SwitchCore.connect_event.Goals as goal

pub returns-then-not-exists-clause-same : goal.returns-then-not-exists-clause-same
returns-then-not-exists-clause-same c = same_itself c.args.self.now

pub returns-then-not-exists-clause-does : goal.returns-then-not-exists-clause-does
returns-then-not-exists-clause-does c = λ course h. no_such_line course c.args.self.now c.args.line (connects c.args.line c.args.service) c.args.out.now (sym c.exists.ensures.value ∙ c.if-not-exists.true) h

pub returns-clause-does : goal.returns-clause-does
returns-clause-does c = λ course h.
    such_line course c.args.self.now c.connect.new.self c.args.line (connects c.args.line c.args.service) c.connect.result c.args.out.now c.connect.new.out (sym c.exists.ensures.value ∙ c.if-not-exists.false) h (c.connect.ensures.does course (c.reserve.ensures.does c.args.out.now course h))

pub returns-clause-same : goal.returns-clause-same
returns-clause-same c = same_then c.args.self.now c.reserve.new.self c.connect.new.self c.reserve.ensures.same c.connect.ensures.same
