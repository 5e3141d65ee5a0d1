use Rattle.lat_machines.proofs.runs.Safety.{every_stream}
use Rattle.lat_machines.proofs.laws.streams_are_in_order.Goals as goal

pub returns : goal.returns
returns c = every_stream
