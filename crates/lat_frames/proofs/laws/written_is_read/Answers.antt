use Rattle.lat_fields.specs.Payloads.{padded}
use Rattle.lat_frames.specs.Written.{message_text}
use Rattle.lat_frames.proofs.MessageTaken.{payload_read}
use Rattle.lat_frames.proofs.Outcomes.{written_payload}
use Rattle.lat_frames.proofs.laws.written_is_read.Goals as goal

pub returns : goal.returns
returns c = λ m w. payload_read m (padded (message_text m)) (written_payload m w)
