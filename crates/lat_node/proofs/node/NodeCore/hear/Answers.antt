use Rattle.std.proofs.Common.{Ok, Err}
use Rattle.lat_machines.specs.values.Addresses.{address}
use Rattle.lat_payload.specs.Reads.{reading_of, value_shown}
use Rattle.lat_payload.proofs.Heard.{answers_as_read}
use Rattle.lat_node.proofs.HearLemmas.{steps_read}
use Rattle.lat_node.proofs.node.NodeCore.hear.Goals as goal

pub returns-in-Ok-clause-steps : goal.returns-in-Ok-clause-steps
returns-in-Ok-clause-steps g c =
    steps_read _ c.args.self.now c.hear_value.new.self (address c.args.from.0) c.args.now _ (value_shown c.in-Ok.value) c.hear_value.result c.args.out.now c.hear_value.new.out
    (answers_as_read c.args.payload.now (Ok c.in-Ok.value) c.in-Ok.ensures.reading) c.hear_value.ensures.steps

pub returns-in-Err-clause-steps : goal.returns-in-Err-clause-steps
returns-in-Err-clause-steps g c =
    c.pass_over.ensures.steps (reading_of c.args.payload.now) (address c.args.from.0) c.args.out.now (answers_as_read c.args.payload.now (Err c.in-Err.fault) c.in-Err.ensures.reading)
