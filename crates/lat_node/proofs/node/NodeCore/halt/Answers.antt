use Rattle.std.proofs.Common.{true, List, sym, subst}
use Rattle.lat_base.specs.declared.answer.Answer.TheVariants as answers
use Rattle.lat_base.specs.declared.outbox.OutFrame.{OutFrame}
use Rattle.lat_machines.specs.node.Node.{halts, farewell}
use Rattle.lat_payload.specs.Frames.{Emits}
use Rattle.lat_node.specs.Events.{Simulates}
use Rattle.lat_node.specs.Kept.{Kept, config_of}
use Rattle.lat_node.specs.Shown.{shown}
use Rattle.lat_node.specs.Stands.{Stands}
use Rattle.lat_node.proofs.HeardLemmas.{halts_does}
use Rattle.lat_node.proofs.StepLemmas.{with_lines}
use Rattle.lat_node.proofs.node.NodeCore.halt.Goals as goal

pub returns-clause-does : goal.returns-clause-does
returns-clause-does g c =
    let k = shown c.self.inside in
    subst (λ (z : Kept g.row.H.Denot). Simulates halts z (record (with_lines k c.end_all.new.self) { halted = true }) answers.Done c.args.out.now c.tell.new.out) c.self.view_is
    (halts_does k c.end_all.new.self c.args.out.now c.end_all.new.out c.tell.new.out c.self.invariant.node c.end_all.ensures.did
    (λ s st. subst (λ (z : Kept g.row.H.Denot). Emits (farewell (config_of z) s.halted) c.end_all.new.out c.tell.new.out) (sym c.self.view_is)
    (subst (λ (fs : List OutFrame). Emits (farewell (config_of c.args.self.now) s.halted) c.end_all.new.out fs) (sym c.tell.ensures.frames)
    (c.in_ok-farewell.ensures s c.end_all.new.out (subst (λ (z : Kept g.row.H.Denot). Stands z s) c.self.view_is st)))))
