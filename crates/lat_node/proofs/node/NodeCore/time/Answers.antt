use Rattle.std.proofs.Common.{[], subst}
use Rattle.lat_machines.specs.node.Node.{node_step}
use Rattle.lat_machines.specs.values.Events.{Time}
use Rattle.lat_base.specs.declared.answer.Answer.TheVariants as answers
use Rattle.lat_node.specs.Events.{Simulates}
use Rattle.lat_node.specs.Kept.{Kept}
use Rattle.lat_node.specs.Shown.{shown}
use Rattle.lat_node.proofs.StepLemmas.{with_lines, timed}
use Rattle.lat_node.proofs.node.NodeCore.time.Goals as goal

pub returns-clause-does : goal.returns-clause-does
returns-clause-does g c =
    let k = shown c.self.inside in
    subst (λ (z : Kept g.row.H.Denot). Simulates (λ config s. node_step config [] s (Time c.args.now)) z (with_lines k c.time.new.self) answers.Done c.args.out.now c.time.new.out) c.self.view_is
    (timed k c.pass.new.self c.time.new.self c.args.now c.args.out.now c.time.new.out c.self.invariant.node c.pass.ensures.state c.pass.ensures.same c.time.ensures.did)
