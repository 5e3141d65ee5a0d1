use Rattle.lat_cmd.proofs.generate.Rereads.{rereads}
use Rattle.lat_cmd.proofs.laws.generated_reread.Goals as goal

pub returns : goal.returns
returns c = rereads
