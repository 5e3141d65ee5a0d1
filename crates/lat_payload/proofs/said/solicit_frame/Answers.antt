use Rattle.std.proofs.Common.{rules}
use Rattle.lat_payload.proofs.said.solicit_frame.Goals as goal

pub returns : goal.returns
returns c = search rules
