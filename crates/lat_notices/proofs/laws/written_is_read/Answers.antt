use Rattle.lat_fields.specs.Payloads.{padded}
use Rattle.lat_notices.specs.Texts.{notice_text}
use Rattle.lat_notices.proofs.Exact.{padded_is, payload_read}
use Rattle.lat_notices.proofs.laws.written_is_read.Goals as goal

pub returns : goal.returns
returns c = λ n w. payload_read n (padded (notice_text n)) (padded_is n w)
