use Rattle.std.proofs.Common.{◌∙◌}
use Rattle.lat_session.proofs.Counts.{held_is}
use Rattle.lat_session.proofs.table.Sessions.held.Goals as goal

pub returns-clause-model : goal.returns-clause-model
returns-clause-model c = λ e st. c.count_held.ensures ∙ held_is c.args.self.now e st
