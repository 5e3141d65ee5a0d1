use Rattle.std.proofs.Common.{◌++◌, List, sym, subst}
use Rattle.lat_base.specs.declared.outbox.OutFrame.{OutFrame}
use Rattle.lat_machines.specs.values.Addresses.{address}
use Rattle.lat_circuit.specs.Messages.{message_shown}
use Rattle.lat_lines.specs.Strangers.{frame_in}
use Rattle.lat_payload.specs.Frames.{Emits}
use Rattle.lat_node.specs.Hearing.{stranger_told}
use Rattle.lat_node.specs.Kept.{Kept, config_of}
use Rattle.lat_node.specs.Shown.{shown}
use Rattle.lat_node.specs.Stands.{Stands}
use Rattle.lat_node.proofs.HeardLemmas.{other_does, stranger_is}
use Rattle.lat_node.proofs.MemoryLemmas.{no_call}
use Rattle.lat_node.proofs.node.NodeCore.hear_other.Goals as goal

pub returns-clause-does : goal.returns-clause-does
returns-clause-does g c =
    let from = address c.args.from.0 in
    let m = message_shown c.args.message.now in
    let k = shown c.self.inside in
    other_does c.args.self.now c.hear_named-answer.new.self from m c.hear_named-answer.result c.args.out.now c.hear_named-answer.new.out c.tell.new.out c.requires.other c.hear_named-answer.ensures.does
    (λ s st. subst (λ (z : Kept g.row.H.Denot). Emits (stranger_told (config_of z) s.core from m) c.hear_named-answer.new.out c.tell.new.out) c.self.view_is
    (subst (λ (fs : List OutFrame). Emits (stranger_told (config_of k) s.core from m) c.hear_named-answer.new.out fs) (sym c.tell.ensures.frames)
    (stranger_is k s from m c.hear_named-answer.new.out (c.hear_named-answer.new.out ++ frame_in c.stranger_stop-stop.result) c.self.invariant.node
    (c.stranger_stop-stop.ensures s.core c.hear_named-answer.new.out (subst (λ (z : Kept g.row.H.Denot). Stands z s) (sym c.self.view_is) st).lines))))

pub hear_named-answer-requires-clause-memory : goal.hear_named-answer-requires-clause-memory
hear_named-answer-requires-clause-memory g c = λ call. absurd (no_call c.args.message.now c.requires.other call)
