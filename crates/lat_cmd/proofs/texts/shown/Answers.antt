use Rattle.std.proofs.Common.{refl}
use Rattle.lat_show.specs.ShowOf.{show_of}
use Rattle.lat_cmd.proofs.Forming.{is_given}
use Rattle.lat_cmd.proofs.texts.shown.Goals as goal

pub returns-clause-answer : goal.returns-clause-answer
returns-clause-answer g c = is_given (show_of c.args.input.now) c.plain.result _ c.plain.ensures c.in_ok-status.ensures refl
