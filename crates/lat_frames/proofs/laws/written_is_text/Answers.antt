use Rattle.lat_frames.proofs.Outcomes.{written_payload}
use Rattle.lat_frames.proofs.laws.written_is_text.Goals as goal

pub returns : goal.returns
returns c = λ m w. written_payload m w
