use Rattle.lat_server.proofs.Stepping.{has_stepped}
use Rattle.lat_server.proofs.step.ServerCoreCore.step.Goals as goal

pub returns-clause-state : goal.returns-clause-state
returns-clause-state c = λ m im. (has_stepped c.args.self.now c.apply.new.self c.follow.new.self m c.args.event.now c.in_ok-answer.answer c.args.out.now c.apply.new.out c.follow.new.out c.requires.empty im c.in_ok-answer.ensures.does c.in_ok-answer.ensures.same c.follow.ensures.same c.follow.ensures.follows).state

pub returns-clause-answer : goal.returns-clause-answer
returns-clause-answer c = λ m im. (has_stepped c.args.self.now c.apply.new.self c.follow.new.self m c.args.event.now c.in_ok-answer.answer c.args.out.now c.apply.new.out c.follow.new.out c.requires.empty im c.in_ok-answer.ensures.does c.in_ok-answer.ensures.same c.follow.ensures.same c.follow.ensures.follows).answer_is

pub returns-clause-frames : goal.returns-clause-frames
returns-clause-frames c = λ m im. (has_stepped c.args.self.now c.apply.new.self c.follow.new.self m c.args.event.now c.in_ok-answer.answer c.args.out.now c.apply.new.out c.follow.new.out c.requires.empty im c.in_ok-answer.ensures.does c.in_ok-answer.ensures.same c.follow.ensures.same c.follow.ensures.follows).frames
