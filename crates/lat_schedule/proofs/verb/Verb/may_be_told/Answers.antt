use Rattle.std.proofs.Common.{rules}
use Rattle.lat_schedule.proofs.verb.Verb.may_be_told.Goals as goal

pub returns-in-Connect : goal.returns-in-Connect
returns-in-Connect c = search rules
