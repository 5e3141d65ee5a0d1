use Rattle.lat_turns.proofs.Overs.{got_by_life}
use Rattle.lat_turns.proofs.laws.the_served_got_all.Goals as goal

pub returns : goal.returns
returns c = got_by_life
