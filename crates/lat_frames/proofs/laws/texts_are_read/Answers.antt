use Rattle.lat_frames.proofs.Outcomes.{text_read}
use Rattle.lat_frames.proofs.laws.texts_are_read.Goals as goal

pub returns : goal.returns
returns c = λ m text rest of short. text_read m text rest of short
