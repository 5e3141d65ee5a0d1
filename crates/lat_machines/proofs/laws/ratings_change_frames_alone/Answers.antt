use Rattle.lat_machines.proofs.events.Ratings.{same_but_frames}
use Rattle.lat_machines.proofs.laws.ratings_change_frames_alone.Goals as goal

pub returns : goal.returns
returns c = same_but_frames
