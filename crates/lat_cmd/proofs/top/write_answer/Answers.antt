use Rattle.std.proofs.Common.{refl, arith}
use Rattle.lat_cmd.proofs.Running.{not_four, not_nine, stays, memory_run, told_run}
use Rattle.lat_cmd.proofs.Telling.{early_tells, input_tells}
use Rattle.lat_cmd.proofs.top.write_answer.Goals as goal

pub returns-in-Ok-clause-run : goal.returns-in-Ok-clause-run
returns-in-Ok-clause-run g c =
    told_run c.args.command c.args.input.now c.write_outcome.result _ _ c.in-Ok.ensures.law c.write_outcome.ensures.tells

pub returns-in-Ok-clause-status : goal.returns-in-Ok-clause-status
returns-in-Ok-clause-status g c =
    stays _ _ 4 c.write_outcome.ensures.status (not_four c.args.command c.args.input.now _ refl) (λ e. omega (arith, e))

pub returns-in-Ok-clause-unwritten : goal.returns-in-Ok-clause-unwritten
returns-in-Ok-clause-unwritten g c = λ nine.
    absurd (stays _ _ 9 c.write_outcome.ensures.status (not_nine c.args.command c.args.input.now _ refl) (λ e. omega (arith, e)) nine)

pub returns-in-Ok-clause-told : goal.returns-in-Ok-clause-told
returns-in-Ok-clause-told g c = λ left read.
    input_tells c.args.command left c.args.input.now c.write_outcome.result.status _ _ _ _ read c.write_outcome.ensures.told

pub returns-in-Err-clause-run : goal.returns-in-Err-clause-run
returns-in-Err-clause-run g c = λ left read. memory_run c.args.command left c.lost.result _ _ c.lost.ensures.end

pub returns-in-Err-clause-told : goal.returns-in-Err-clause-told
returns-in-Err-clause-told g c = λ left read. early_tells c.args.command left c.lost.result.status _ _ _ _ c.lost.ensures.told
