use Rattle.lat_cmd.proofs.Refusing.{told_onto}
use Rattle.lat_cmd.proofs.before.before_onto.Goals as goal

pub returns-in-Some : goal.returns-in-Some
returns-in-Some c =
    told_onto c.line_onto.result c.args.before c.in-Some.before _ _ c.word.result.now c.in-Some.is c.word.ensures c.line_onto.ensures
