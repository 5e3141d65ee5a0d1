use Rattle.lat_schedule.proofs.EventsRead.{lists_back}
use Rattle.lat_schedule.proofs.laws.lists_read_back.Goals as goal

pub returns : goal.returns
returns c = lists_back
