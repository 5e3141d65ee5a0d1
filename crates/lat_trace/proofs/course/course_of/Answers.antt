use Rattle.lat_trace.proofs.Leading.{leads_misread, leads_read}
use Rattle.lat_trace.proofs.course.course_of.Goals as goal

pub returns-in-Ok : goal.returns-in-Ok
returns-in-Ok g c = leads_read c.args.most c.args.text.now c.in-Ok.schedule c.within.result c.in-Ok.ensures.reads c.within.ensures

pub returns-in_ok-misread-in-Err : goal.returns-in_ok-misread-in-Err
returns-in_ok-misread-in-Err g c = leads_misread c.args.most c.args.text.now c.in-Err.fault _ _ c.in_ok-misread-in-Err.ensures.kept c.in-Err.ensures.reads c.in_ok-misread-in-Err.ensures.value
