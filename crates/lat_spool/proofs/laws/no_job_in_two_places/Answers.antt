use Rattle.lat_spool.proofs.OnceEach.{no_job_in_two_places}
use Rattle.lat_spool.proofs.laws.no_job_in_two_places.Goals as goal

pub returns : goal.returns
returns g c = no_job_in_two_places g.J.Load.mind_of
