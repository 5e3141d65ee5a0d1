use Rattle.lat_node.proofs.Stepping.{stepped_state, stepped_answer, acted_frames, local_act}
use Rattle.lat_node.proofs.node.NodeCore.local.Goals as goal

pub act-answer-requires-clause-act : goal.act-answer-requires-clause-act
act-answer-requires-clause-act g c = local_act c.args.event.now c.requires.local

pub returns-clause-state : goal.returns-clause-state
returns-clause-state g c = stepped_state c.args.self.now c.act-answer.new.self c.clear.new.self c.args.event.now (λ s st. (c.act-answer.ensures.does s st).0) c.act-answer.ensures.same c.clear.ensures.state c.clear.ensures.same

pub returns-clause-answer : goal.returns-clause-answer
returns-clause-answer g c = stepped_answer c.args.self.now c.args.event.now c.act-answer.result (λ s st. (c.act-answer.ensures.does s st).1)

pub returns-clause-frames : goal.returns-clause-frames
returns-clause-frames g c = acted_frames _ c.args.self.now c.act-answer.new.self c.args.event.now c.act-answer.result c.args.out.now c.act-answer.new.out c.requires.local c.requires.empty c.act-answer.ensures.does
