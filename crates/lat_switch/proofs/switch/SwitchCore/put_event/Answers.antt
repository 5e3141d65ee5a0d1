use Rattle.std.proofs.Common.{sym, ◌∙◌}
use Rattle.lat_switch.specs.Reading.{puts}
use Rattle.lat_switch.proofs.Courses.{no_such_line, same_itself}
use Rattle.lat_switch.proofs.Lined.{lined}
use Rattle.lat_switch.proofs.switch.SwitchCore.put_event.Goals as goal

pub returns-then-not-exists-clause-same : goal.returns-then-not-exists-clause-same
returns-then-not-exists-clause-same c = same_itself c.args.self.now

pub returns-then-not-exists-clause-does : goal.returns-then-not-exists-clause-does
returns-then-not-exists-clause-does c = λ course h. no_such_line course c.args.self.now c.args.line (puts c.args.line c.args.bytes.now) c.args.out.now (sym c.exists.ensures.value ∙ c.if-not-exists.true) h

pub returns-clause-does : goal.returns-clause-does
returns-clause-does c = lined c.args.line (puts c.args.line c.args.bytes.now) c.args.self.now c.put.new.self c.args.out.now c.put.new.out c.put.result (sym c.exists.ensures.value ∙ c.if-not-exists.false) c.put.ensures.does
