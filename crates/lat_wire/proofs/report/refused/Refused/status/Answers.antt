use Rattle.std.proofs.Common.{rules}
use Rattle.lat_wire.proofs.report.refused.Refused.status.Goals as goal

pub returns-in-FramesLimit : goal.returns-in-FramesLimit
returns-in-FramesLimit c = search rules
