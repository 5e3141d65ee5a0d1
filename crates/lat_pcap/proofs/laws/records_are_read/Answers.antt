use Rattle.lat_pcap.proofs.Records.{record_read}
use Rattle.lat_pcap.proofs.laws.records_are_read.Goals as goal

pub returns : goal.returns
returns c = λ h r place behind fits. record_read h r place behind fits
