use Rattle.std.proofs.Common.{ap, refl, ◌∙◌}
use Rattle.lat_machines.specs.values.Addresses.{address}
use Rattle.lat_circuit.specs.Frames.{FrameView}
use Rattle.lat_wire.proofs.ledger.Entered.{numbered_so}
use Rattle.lat_wire.proofs.ledger.post_of.Goals as goal

pub returns-clause-post : goal.returns-clause-post
returns-clause-post c = λ f same readable tallied. record {
  by_server = refl;
  same = ap (λ p. let v : FrameView = record { to = address c.args.frame.now.to.0; circuit = c.args.frame.now.circuit; mark = c.args.frame.now.mark; payload = p } in v) c.bytes.ensures.value ∙ same;
  readable = readable;
  numbered = λ r.
      let q = numbered_so f.mark c.args.tally.formed c.args.tally.taken c.number_of.result c.args.tally.taken f tallied (c.number_of.ensures f.mark (ap (λ (z : FrameView). z.mark) same)) refl r in
      record { number = q.0; acknowledgement = q.1 };
}
