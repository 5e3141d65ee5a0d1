use Rattle.lat_script.proofs.Written.{printed_ok}
use Rattle.lat_script.proofs.program.text_of.Goals as goal

pub returns-in-Ok : goal.returns-in-Ok
returns-in-Ok g c = printed_ok g.P.Fn c.args.played c.args.alloc _ c.args.input.now c.played.result c.played.ensures c.in-Ok.ensures.cases.0
