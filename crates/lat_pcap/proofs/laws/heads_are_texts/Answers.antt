use Rattle.lat_pcap.proofs.Heads.{head_found}
use Rattle.lat_pcap.proofs.laws.heads_are_texts.Goals as goal

pub returns : goal.returns
returns c = λ h next bytes behind all e. let t = head_found bytes (h, next, behind) all e in record { rest = t.rest; fits = t.rest_fits; is = t.is; next_is = t.next }
