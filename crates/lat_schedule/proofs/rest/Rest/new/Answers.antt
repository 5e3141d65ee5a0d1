use Rattle.std.proofs.Common.{rules}
use Rattle.lat_schedule.proofs.rest.Rest.new.Goals as goal

pub returns : goal.returns
returns c = search rules
