use Rattle.lat_payload.proofs.Notices.{sendable_fits}
use Rattle.std.proofs.Common.{rules}
use Rattle.lat_payload.proofs.said.status_frame.Goals as goal

pub returns : goal.returns
returns c = search (rules, sendable_fits)
