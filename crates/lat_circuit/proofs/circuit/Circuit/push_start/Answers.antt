use Rattle.std.proofs.Common.{◌++◌, [], ◌∷◌, ap}
use Rattle.lat_base.specs.declared.outbox.Mark.TheVariants.{Plain}
use Rattle.lat_base.specs.Lending.{frame_of}
use Rattle.lat_circuit.proofs.circuit.Circuit.push_start.Goals as goal

pub returns-clause-frame : goal.returns-clause-frame
returns-clause-frame c =
    let k = c.args.self.now in
    ap (λ text. c.args.out.now ++ frame_of k.facts.config.peer k.facts.id Plain text ∷ []) c.write.ensures.text
