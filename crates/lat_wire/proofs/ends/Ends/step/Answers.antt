use Rattle.std.proofs.Common.{ap}
use Rattle.lat_wire.proofs.Stepping.{server_state, node_state, server_answer, node_answer, server_made, node_made}
use Rattle.lat_wire.proofs.ends.Ends.step.Goals as goal

pub returns-then-server-clause-state : goal.returns-then-server-clause-state
returns-then-server-clause-state g c = server_state c.args.self.now _ c.self.inside.server c.args.server c.args.event.now c.step.result (ap (λ z. z.server) c.self.view_is) (ap (λ z. z.node) c.self.view_is) c.if-server.true c.step.ensures.state

pub returns-then-server-clause-answer : goal.returns-then-server-clause-answer
returns-then-server-clause-answer g c = server_answer c.args.self.now c.self.inside.server c.args.server c.args.event.now c.step.result (ap (λ z. z.server) c.self.view_is) c.if-server.true c.step.ensures.answer

pub returns-then-server-clause-frames : goal.returns-then-server-clause-frames
returns-then-server-clause-frames g c = server_made c.args.self.now c.self.inside.server c.args.server c.args.event.now c.step.result c.step.new.out (ap (λ z. z.server) c.self.view_is) c.if-server.true c.step.ensures.frames

pub returns-else-server-clause-state : goal.returns-else-server-clause-state
returns-else-server-clause-state g c = node_state c.args.self.now _ c.self.inside.node c.args.server c.args.event.now c.step-else-server.result (ap (λ z. z.node) c.self.view_is) (ap (λ z. z.server) c.self.view_is) c.if-server.false c.step-else-server.ensures.state

pub returns-else-server-clause-answer : goal.returns-else-server-clause-answer
returns-else-server-clause-answer g c = node_answer c.args.self.now c.self.inside.node c.args.server c.args.event.now c.step-else-server.result (ap (λ z. z.node) c.self.view_is) c.if-server.false c.step-else-server.ensures.answer

pub returns-else-server-clause-frames : goal.returns-else-server-clause-frames
returns-else-server-clause-frames g c = node_made g.H.RatingRule.may c.args.self.now c.self.inside.node c.args.server c.args.event.now c.step-else-server.result c.step-else-server.new.out (ap (λ z. z.node) c.self.view_is) c.self.invariant.rule c.self.invariant.lines c.if-server.false c.step-else-server.ensures.frames
