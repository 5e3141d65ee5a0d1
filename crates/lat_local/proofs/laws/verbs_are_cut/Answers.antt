use Rattle.lat_local.proofs.Cuts.{read_alone}
use Rattle.lat_local.proofs.laws.verbs_are_cut.Goals as goal

pub returns : goal.returns
returns c = read_alone
