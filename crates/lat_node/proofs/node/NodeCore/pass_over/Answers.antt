use Rattle.std.proofs.Common.{Err, subst}
use Rattle.lat_fields.specs.declared.fault.LayoutFault.{LayoutFault}
use Rattle.lat_payload.specs.Reads.{Answers}
use Rattle.lat_node.proofs.HearLemmas.{steps_bad}
use Rattle.lat_node.proofs.node.NodeCore.pass_over.Goals as goal

pub returns-in-Bad-clause-steps : goal.returns-in-Bad-clause-steps
returns-in-Bad-clause-steps g c = λ reading from frames is.
    steps_bad _ c.args.self.now c.pass.new.self from c.args.now reading c.in-Bad.bad frames c.pass.ensures.state (subst (λ (f : LayoutFault). Answers (Err f) reading) c.in-Bad.is is)
