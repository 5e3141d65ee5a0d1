use Rattle.lat_schedule.proofs.ReadBack.{events_back}
use Rattle.lat_schedule.proofs.laws.events_read_back.Goals as goal

pub returns : goal.returns
returns c = events_back
