use Rattle.std.proofs.Common.{rules}
use Rattle.lat_payload.proofs.said.command_frame.Goals as goal

pub returns : goal.returns
returns c = search rules
