use Rattle.std.proofs.Common.{refl}
use Rattle.lat_trace.specs.TraceText.{trace_of}
use Rattle.lat_cmd.proofs.Forming.{is_given}
use Rattle.lat_cmd.proofs.texts.traced.Goals as goal

pub returns-clause-answer : goal.returns-clause-answer
returns-clause-answer g c = is_given (trace_of c.args.input.now) c.plain.result _ c.plain.ensures c.in_ok-status.ensures refl
