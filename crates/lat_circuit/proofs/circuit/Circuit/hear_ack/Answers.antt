use Rattle.std.proofs.Common.{sym, ap, subst, ◌∙◌}
use Rattle.lat_circuit.specs.Kept.{Kept}
use Rattle.lat_circuit.specs.Stands.{Stands}
use Rattle.lat_circuit.proofs.HeardRun.{acked_old, acked_new, acked_unsent}
use Rattle.lat_circuit.proofs.circuit.Circuit.hear_ack.Goals as goal

pub returns-in-Unsent-clause-state : goal.returns-in-Unsent-clause-state
returns-in-Unsent-clause-state c = λ e st sent.
    let here = subst (λ k. Stands k e) (sym c.self.view_is) st in
    acked_unsent c.self.inside c.acked.new.self c.args.ack c.acked.result e
    (record {
      stands = here;
      run = ap (λ (k : Kept). k.running) c.self.view_is ∙ c.requires.running;
      ids = c.acked.ensures.same.0;
      span = c.acked.ensures.same.1;
      window = c.acked.ensures.same.2;
      answer = c.acked.ensures.answer e.half.link here.link;
      state = c.acked.ensures.state e.half.link here.link;
      sent = sent;
    })
    c.in-Unsent.is

pub returns-in-Old-clause-state : goal.returns-in-Old-clause-state
returns-in-Old-clause-state c = λ e st sent.
    let here = subst (λ k. Stands k e) (sym c.self.view_is) st in
    acked_old c.self.inside c.acked.new.self c.args.ack c.acked.result e
    (record {
      stands = here;
      run = ap (λ (k : Kept). k.running) c.self.view_is ∙ c.requires.running;
      ids = c.acked.ensures.same.0;
      span = c.acked.ensures.same.1;
      window = c.acked.ensures.same.2;
      answer = c.acked.ensures.answer e.half.link here.link;
      state = c.acked.ensures.state e.half.link here.link;
      sent = sent;
    })
    c.in-Old.is

pub returns-in-New-clause-state : goal.returns-in-New-clause-state
returns-in-New-clause-state c = λ e st sent.
    let here = subst (λ k. Stands k e) (sym c.self.view_is) st in
    acked_new c.self.inside c.acked.new.self c.args.ack c.in-New.field-0 c.acked.result e
    (record {
      stands = here;
      run = ap (λ (k : Kept). k.running) c.self.view_is ∙ c.requires.running;
      ids = c.acked.ensures.same.0;
      span = c.acked.ensures.same.1;
      window = c.acked.ensures.same.2;
      answer = c.acked.ensures.answer e.half.link here.link;
      state = c.acked.ensures.state e.half.link here.link;
      sent = sent;
    })
    c.in-New.is
