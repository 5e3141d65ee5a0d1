use Rattle.std.proofs.Common.{None, sym, ◌∙◌}
use Rattle.lat_machines.specs.cores.Cores.{at_moment}
use Rattle.lat_machines.specs.node.Node.{with_core, hears_message}
use Rattle.lat_machines.specs.values.Addresses.{address}
use Rattle.lat_circuit.specs.Messages.{message_shown}
use Rattle.lat_node.proofs.HeardLemmas.{does_after}
use Rattle.lat_node.proofs.MemoryLemmas.{call_is}
use Rattle.lat_node.proofs.node.NodeCore.hear_message.Goals as goal

pub returns-in-Some-clause-does : goal.returns-in-Some-clause-does
returns-in-Some-clause-does g c =
    does_after (λ config s. hears_message config s (address c.args.from.0) (message_shown c.args.message.now) None) (λ config s. with_core s (at_moment c.args.now s.core)) c.args.self.now c.pass.new.self c.hear_start.new.self c.hear_start.result c.args.out.now c.hear_start.new.out
    c.pass.ensures.state c.pass.ensures.same c.hear_start.ensures.does

pub returns-in-None-clause-does : goal.returns-in-None-clause-does
returns-in-None-clause-does g c =
    does_after (λ config s. hears_message config s (address c.args.from.0) (message_shown c.args.message.now) None) (λ config s. with_core s (at_moment c.args.now s.core)) c.args.self.now c.pass.new.self c.hear_other.new.self c.hear_other.result c.args.out.now c.hear_other.new.out
    c.pass.ensures.state c.pass.ensures.same c.hear_other.ensures.does

pub hear_start-requires-clause-memory : goal.hear_start-requires-clause-memory
hear_start-requires-clause-memory g c = λ h.
    c.pass.ensures.memory (c.requires.memory (sym c.pass.ensures.halted ∙ h) (call_is c.args.message.now c.in-Some.source (sym c.caller.ensures.start ∙ c.in-Some.is)))
