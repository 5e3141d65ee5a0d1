use Rattle.lat_machines.proofs.spans.Runs.{one_span}
use Rattle.lat_machines.proofs.laws.both_ends_have_one_span.Goals as goal

pub returns : goal.returns
returns c = one_span
