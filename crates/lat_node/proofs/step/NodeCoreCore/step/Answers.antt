use Rattle.lat_node.proofs.Stepping.{stepped_state, stepped_answer, stepped_frames}
use Rattle.lat_node.proofs.step.NodeCoreCore.step.Goals as goal

pub returns-clause-state : goal.returns-clause-state
returns-clause-state g c = stepped_state c.args.self.now c.apply.new.self c.clear.new.self c.args.event.now (λ s st. (c.in_ok-answer.ensures.steps s st).0) c.in_ok-answer.ensures.same c.clear.ensures.state c.clear.ensures.same

pub returns-clause-answer : goal.returns-clause-answer
returns-clause-answer g c = stepped_answer c.args.self.now c.args.event.now c.in_ok-answer.answer (λ s st. (c.in_ok-answer.ensures.steps s st).1)

pub returns-clause-frames : goal.returns-clause-frames
returns-clause-frames g c = stepped_frames _ c.args.self.now c.apply.new.self c.args.event.now c.in_ok-answer.answer c.args.out.now c.apply.new.out c.requires.empty c.in_ok-answer.ensures.steps
