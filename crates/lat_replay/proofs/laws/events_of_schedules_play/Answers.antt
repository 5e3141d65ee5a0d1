use Rattle.lat_replay.proofs.Playable.{events_play}
use Rattle.lat_replay.proofs.laws.events_of_schedules_play.Goals as goal

pub returns : goal.returns
returns c = events_play
