use Rattle.std.proofs.Common.{◌∙◌, ap}
use Rattle.lat_cmd.specs.Befores.{shown}
use Rattle.lat_cmd.proofs.Keeping.{read_keeps, misread_keeps}
use Rattle.lat_cmd.proofs.Replaying.{read_as, misread_as}
use Rattle.lat_cmd.proofs.course.course_of.Goals as goal

pub returns-in-Ok-clause-runs : goal.returns-in-Ok-clause-runs
returns-in-Ok-clause-runs g c = read_as c.in-Ok.schedule c.args.input.now c.played.result c.in-Ok.ensures.reads c.played.ensures.runs

pub returns-in_ok-outcome-in-Err-clause-runs : goal.returns-in_ok-outcome-in-Err-clause-runs
returns-in_ok-outcome-in-Err-clause-runs g c =
    misread_as c.in-Err.fault c.args.input.now c.in_ok-outcome-in-Err.outcome c.in-Err.ensures.reads c.in_ok-outcome-in-Err.ensures.kept
    c.in_ok-outcome-in-Err.ensures.value

pub returns-in-Ok-clause-before : goal.returns-in-Ok-clause-before
returns-in-Ok-clause-before g c = read_keeps c.in-Ok.schedule c.args.input.now c.played.result c.in-Ok.ensures.reads c.played.ensures.before

pub returns-in_ok-outcome-in-Err-clause-before : goal.returns-in_ok-outcome-in-Err-clause-before
returns-in_ok-outcome-in-Err-clause-before g c =
    ap shown c.in_ok-outcome-in-Err.ensures.before
    ∙ misread_keeps c.in-Err.fault c.args.input.now c.in-Err.ensures.reads c.in_ok-outcome-in-Err.ensures.kept
