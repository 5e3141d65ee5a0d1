use Rattle.lat_trace.specs.Shown.{Leads}
use Rattle.lat_trace.specs.declared.course.Course.TheVariants.{Told}
use Rattle.lat_trace.proofs.Leading.{is_told, shows_some, tells_run}
use Rattle.lat_trace.proofs.tracing.trace.Goals as goal

pub trace_onto-requires : goal.trace_onto-requires
trace_onto-requires g c =
    let leads : Leads 100000 c.args.text.now (Told c.in-Told.run') = is_told 100000 c.args.text.now c.in_ok-run.field-0 c.in-Told.run' c.in-Told.is c.in_ok-run.ensures in
    shows_some 100000 c.args.text.now c.in-Told.run' leads

pub returns-in_ok-trace_onto-in-Told : goal.returns-in_ok-trace_onto-in-Told
returns-in_ok-trace_onto-in-Told g c =
    let leads : Leads 100000 c.args.text.now (Told c.in-Told.run') = is_told 100000 c.args.text.now c.in_ok-run.field-0 c.in-Told.run' c.in-Told.is c.in_ok-run.ensures in
    tells_run c.args.text.now c.in-Told.run' c.status.result _ _ leads c.status.ensures c.new-told.ensures.bytes c.in_ok-trace_onto-in-Told.ensures
