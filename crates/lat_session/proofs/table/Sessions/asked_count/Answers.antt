use Rattle.std.proofs.Common.{◌∙◌}
use Rattle.lat_session.proofs.AskedIds.{asked_counted, waiting_counted}
use Rattle.lat_session.proofs.table.Sessions.asked_count.Goals as goal

pub returns-clause-model : goal.returns-clause-model
returns-clause-model c = λ e st. c.count_asked.ensures ∙ asked_counted c.args.self.now e st

pub returns-clause-slave : goal.returns-clause-slave
returns-clause-slave c = λ e st slave. c.count_asked.ensures ∙ waiting_counted c.args.self.now e st slave
