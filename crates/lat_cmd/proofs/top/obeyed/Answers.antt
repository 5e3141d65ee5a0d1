use Rattle.std.proofs.Common.{Err, ap}
use Rattle.lat_cmd.proofs.Ending.{input_read}
use Rattle.lat_cmd.proofs.Running.{fault_run, limit_run, memory_run}
use Rattle.lat_cmd.proofs.Telling.{early_tells, limit_tells}
use Rattle.lat_cmd.proofs.top.obeyed.Goals as goal

pub returns-in-Ok-clause-run : goal.returns-in-Ok-clause-run
returns-in-Ok-clause-run g c =
    c.write_answer.ensures.run _
    (input_read c.args.command _ c.in-Ok.input.items c.deref.result.now c.deref.ensures.value c.in-Ok.ensures.all)

pub returns-in-Ok-clause-told : goal.returns-in-Ok-clause-told
returns-in-Ok-clause-told g c =
    c.write_answer.ensures.told _
    (input_read c.args.command _ c.in-Ok.input.items c.deref.result.now c.deref.ensures.value c.in-Ok.ensures.all)

pub returns-in-Err-Fault-clause-run : goal.returns-in-Err-Fault-clause-run
returns-in-Err-Fault-clause-run g c = fault_run c.args.command _ c.lost.result _ _ c.lost.ensures.end c.in-Err-Fault.ensures.reads

pub returns-in-Err-Fault-clause-told : goal.returns-in-Err-Fault-clause-told
returns-in-Err-Fault-clause-told g c = early_tells c.args.command _ c.lost.result.status _ _ _ _ c.lost.ensures.told

pub returns-in-Err-Limit-clause-run : goal.returns-in-Err-Limit-clause-run
returns-in-Err-Limit-clause-run g c =
    limit_run c.args.command _ c.too_long.result _ _ c.in-Err-Limit.ensures.reads (c.in-Err-Limit.ensures.limit (ap (λ e. Err e) c.in-Err-Limit.field-0-is))
    c.too_long.ensures.tells

pub returns-in-Err-Limit-clause-told : goal.returns-in-Err-Limit-clause-told
returns-in-Err-Limit-clause-told g c =
    limit_tells c.args.command _ c.too_long.result.status _ _ _ _ (c.in-Err-Limit.ensures.limit (ap (λ e. Err e) c.in-Err-Limit.field-0-is)) c.too_long.ensures.told

pub returns-clause-run : goal.returns-clause-run
returns-clause-run g c = memory_run c.args.command _ c.lost-in-Err-Memory.result _ _ c.lost-in-Err-Memory.ensures.end

pub returns-clause-told : goal.returns-clause-told
returns-clause-told g c = early_tells c.args.command _ c.lost-in-Err-Memory.result.status _ _ _ _ c.lost-in-Err-Memory.ensures.told
