use Rattle.lat_spool.proofs.Steps.{jobs_ask_in_order}
use Rattle.lat_spool.proofs.laws.jobs_ask_in_order.Goals as goal

pub returns : goal.returns
returns g c = jobs_ask_in_order g.J.Load.mind_of
