use Rattle.lat_spool.proofs.Steps.{jobs_hear_their_own}
use Rattle.lat_spool.proofs.laws.jobs_hear_their_own.Goals as goal

pub returns : goal.returns
returns g c = jobs_hear_their_own g.J.Load.mind_of
