use Rattle.lat_pcap.proofs.Records.{record_found}
use Rattle.lat_pcap.proofs.laws.records_are_texts.Goals as goal

pub returns : goal.returns
returns c = λ h place next r bytes behind all e. let t = record_found h place bytes (r, next, behind) all e in record { fits = t.fits; is = t.is; next_is = t.next }
