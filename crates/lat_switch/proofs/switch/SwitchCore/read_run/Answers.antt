use Rattle.std.proofs.Common.{ap, ◌∙◌, arith, nat_eq}
use Rattle.lat_switch.specs.Lines.{Line}
use Rattle.lat_switch.proofs.Courses.{line_shown}
use Rattle.lat_switch.proofs.Readings.{has_run, accepted_within}
use Rattle.lat_switch.proofs.switch.SwitchCore.read_run.Goals as goal

pub overflow_add-read : goal.overflow_add-read
overflow_add-read c = omega (arith, c.requires.size, accepted_within c.tell-answer.result c.shown-shown.result c.args.bytes c.tell-answer.ensures.put, c.accepted-taken.ensures)

pub returns-clause-reads : goal.returns-clause-reads
returns-clause-reads c = λ r counted h.
    has_run c.args.line c.shown-shown.result r c.args.bytes c.tell-answer.new.self c.tell-answer.result c.tell-answer.new.out c.args.count c.accepted-taken.result c.are_all.result c.is_refused.result
    (c.shown-shown.ensures ∙ ap (λ (l : Line). l.shown) (c.line_at.ensures ∙ line_shown c.args.self.now r.course.state c.args.line h.state))
    counted (c.tell-answer.ensures.does r.course h) c.accepted-taken.ensures
    (c.are_all.ensures ∙ ap (nat_eq c.accepted-taken.result) c.size_of-size.ensures)
    c.is_refused.ensures

pub returns-clause-count : goal.returns-clause-count
returns-clause-count c = omega (arith, accepted_within c.tell-answer.result c.shown-shown.result c.args.bytes c.tell-answer.ensures.put, c.accepted-taken.ensures)

pub returns-clause-quiet : goal.returns-clause-quiet
returns-clause-quiet c = c.tell-answer.ensures.quiet tt

pub returns-clause-spare : goal.returns-clause-spare
returns-clause-spare c = c.tell-answer.ensures.spare

pub tell-answer-requires-clause-memory : goal.tell-answer-requires-clause-memory
tell-answer-requires-clause-memory c = c.requires.valid.rest.memory
