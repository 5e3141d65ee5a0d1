use Rattle.lat_frames.proofs.MessageTaken.{payload_refused}
use Rattle.lat_frames.proofs.laws.trailing_is_refused.Goals as goal

pub returns : goal.returns
returns c = λ m text rest of some long size. payload_refused m text rest of some long size
