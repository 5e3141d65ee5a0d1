use Rattle.std.proofs.Common.{rules}
use Rattle.lat_session.proofs.packing.Progress.count.Goals as goal

pub returns-in-Unfit : goal.returns-in-Unfit
returns-in-Unfit c = search rules
