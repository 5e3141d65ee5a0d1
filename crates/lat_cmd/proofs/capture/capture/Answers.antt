use Rattle.lat_cmd.specs.Answers.{captured, answered_behind}
use Rattle.lat_cmd.specs.Laws.{SaysCalm}
use Rattle.lat_cmd.specs.Befores.{text_before}
use Rattle.lat_cmd.proofs.Keeping.{before_through, before_stopped}
use Rattle.lat_cmd.proofs.Replaying.{of_through, of_stopped}
use Rattle.lat_cmd.proofs.Capturing.{capture_through, capture_stopped}
use Rattle.lat_cmd.proofs.capture.capture.Goals as goal

pub returns-in-Through-clause-answer : goal.returns-in-Through-clause-answer
returns-in-Through-clause-answer g c =
    of_through (SaysCalm c.args.input.now) (captured c.args.circuit) (λ tale. answered_behind tale c.args.input.now) c.in_ok-world.field-0 c.in-Through.world c.captured.result
    c.in-Through.is c.in_ok-world.ensures.runs c.captured.ensures.answer

pub returns-in-Through-clause-legal : goal.returns-in-Through-clause-legal
returns-in-Through-clause-legal g c =
    capture_through c.args.input.now c.args.circuit c.in_ok-world.field-0 c.in-Through.world c.captured.result c.in-Through.is c.in_ok-world.ensures.runs
    c.captured.ensures.legal

pub returns-in-Stopped-clause-answer : goal.returns-in-Stopped-clause-answer
returns-in-Stopped-clause-answer g c =
    of_stopped (SaysCalm c.args.input.now) (captured c.args.circuit) (λ tale. answered_behind tale c.args.input.now) c.in_ok-world.field-0 c.in-Stopped.outcome c.in-Stopped.is
    c.in_ok-world.ensures.runs

pub returns-in-Stopped-clause-legal : goal.returns-in-Stopped-clause-legal
returns-in-Stopped-clause-legal g c =
    capture_stopped c.args.input.now c.args.circuit c.in_ok-world.field-0 c.in-Stopped.outcome c.in-Stopped.is c.in_ok-world.ensures.runs

pub returns-in-Through-clause-before : goal.returns-in-Through-clause-before
returns-in-Through-clause-before g c =
    before_through (text_before c.args.input.now) c.in_ok-world.field-0 c.in-Through.world c.captured.result c.in-Through.is c.in_ok-world.ensures.before
    c.captured.ensures.before

pub returns-in-Stopped-clause-before : goal.returns-in-Stopped-clause-before
returns-in-Stopped-clause-before g c =
    before_stopped (text_before c.args.input.now) c.in_ok-world.field-0 c.in-Stopped.outcome c.in-Stopped.is c.in_ok-world.ensures.before
