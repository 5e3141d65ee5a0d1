use Rattle.std.proofs.Common.{map, sym, subst}
use Rattle.lat_base.specs.declared.heard.Heard.TheVariants.{Broke}
use Rattle.lat_stream.specs.Wire.{slot_heard}
use Rattle.lat_circuit.specs.Applies.{apply, applied_step}
use Rattle.lat_circuit.specs.Messages.{wide_head_shown}
use Rattle.lat_circuit.specs.Hears.{SimulatesHearing}
use Rattle.lat_circuit.proofs.HeardParts.{applied_ok, applied_err}
use Rattle.lat_circuit.proofs.circuit.Circuit.take_run.Goals as goal

pub returns-in-Ok-clause-did : goal.returns-in-Ok-clause-did
returns-in-Ok-clause-did c =
    applied_ok (apply (wide_head_shown c.args.head.now) (map slot_heard c.args.slots.now)) c.apply.result _ c.args.self.now c.apply.new.self c.slave_occasion.new.self
    c.args.out.now c.slave_occasion.new.out c.in-Ok.is c.apply.ensures.applies c.slave_occasion.ensures.did

pub returns-in-Err-clause-did : goal.returns-in-Err-clause-did
returns-in-Err-clause-did c =
    let f = apply (wide_head_shown c.args.head.now) (map slot_heard c.args.slots.now) in
    subst (λ n. SimulatesHearing (λ e. applied_step (f e)) (Broke n) c.args.self.now c.finish.new.self c.args.out.now c.finish.new.out) (sym c.bits.ensures)
    (applied_err f c.apply.result _ c.args.self.now c.apply.new.self c.finish.new.self
    c.args.out.now c.finish.new.out c.in-Err.is c.apply.ensures.applies c.finish.ensures.did)
