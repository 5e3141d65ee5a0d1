use Rattle.std.proofs.Common.{◌∙◌, ◌<◌, ◌≤◌, ap, arith, length}
use Rattle.lat_schedule.specs.declared.schedule.ScheduleFault.TheVariants as faults
use Rattle.lat_trace.specs.Courses.{misread}
use Rattle.lat_trace.proofs.Leading.{leads_limit, leads_told, too_many}
use Rattle.lat_trace.proofs.course.within.Goals as goal

pub returns-in-None : goal.returns-in-None
returns-in-None g c =
    let few : length c.args.schedule.events ≤ c.args.most = omega (arith, ap length c.as_slice.ensures, c.if-as_slice-most.false) in
    leads_told c.args.most c.args.schedule c.in_ok-run.run' few c.in_ok-run.ensures c.in-None.ensures

pub returns-in_ok-refused-in-Some : goal.returns-in_ok-refused-in-Some
returns-in_ok-refused-in-Some g c =
    let few : length c.args.schedule.events ≤ c.args.most = omega (arith, ap length c.as_slice.ensures, c.if-as_slice-most.false) in
    leads_limit c.args.most c.args.schedule c.in_ok-run.run' c.in-Some.stop c.in_ok-refused-in-Some.field-0.status _ few c.in_ok-run.ensures c.in-Some.ensures
    c.in_ok-refused-in-Some.ensures.status c.in_ok-refused-in-Some.ensures.text

pub returns-then-as_slice-most : goal.returns-then-as_slice-most
returns-then-as_slice-most g c =
    let many : c.args.most < length c.args.schedule.events = omega (arith, ap length c.as_slice.ensures, c.if-as_slice-most.true) in
    too_many c.args.most c.args.schedule c.in_ok-misread.field-0.status _ many (c.in_ok-misread.ensures.value ∙ ap (λ n. misread (faults.Events n)) c.at-line.ensures)
