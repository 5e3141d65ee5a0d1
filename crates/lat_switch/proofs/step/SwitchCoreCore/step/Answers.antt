use Rattle.lat_switch.proofs.Steps.{step_state, step_answer, step_frames, same_opening}
use Rattle.lat_switch.proofs.step.SwitchCoreCore.step.Goals as goal

pub returns-clause-opening : goal.returns-clause-opening
returns-clause-opening c = same_opening c.args.self.now c.apply.new.self c.apply.ensures.same

pub returns-clause-state : goal.returns-clause-state
returns-clause-state c = step_state c.args.event.now c.args.self.now c.apply.new.self c.in_ok-answer.answer c.args.out.now c.apply.new.out c.requires.empty c.in_ok-answer.ensures.does

pub returns-clause-answer : goal.returns-clause-answer
returns-clause-answer c = step_answer c.args.event.now c.args.self.now c.apply.new.self c.in_ok-answer.answer c.args.out.now c.apply.new.out c.requires.empty c.in_ok-answer.ensures.does

pub returns-clause-frames : goal.returns-clause-frames
returns-clause-frames c = step_frames c.args.event.now c.args.self.now c.apply.new.self c.in_ok-answer.answer c.args.out.now c.apply.new.out c.requires.empty c.in_ok-answer.ensures.does
