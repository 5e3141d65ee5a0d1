use Rattle.std.specs.Prelude.{string_bytes}
use Rattle.std.proofs.Common.{arith}
use Rattle.std.proofs.lemmas.Grind.{common_steps}
use Rattle.lat_show.proofs.Onto.{line_of_two}
use Rattle.lat_show.proofs.message.message_onto.Goals as goal

pub returns-in_ok-reason_onto-in-Stop : goal.returns-in_ok-reason_onto-in-Stop
returns-in_ok-reason_onto-in-Stop c =
    rw c.in-Stop.is (line_of_two _ (string_bytes c.args.text.now) _ _ _ _ _ c.in_ok-circuit_onto-in-Stop.ensures c.in_ok-reason_onto-in-Stop.ensures c.push_str.ensures.bytes)

pub returns-in_ok-run_onto-in-Run : goal.returns-in_ok-run_onto-in-Run
returns-in_ok-run_onto-in-Run c = grind (arith, common_steps)

pub returns-in_ok-wide_run_onto-in-Wide : goal.returns-in_ok-wide_run_onto-in-Wide
returns-in_ok-wide_run_onto-in-Wide c = grind (arith, common_steps)
