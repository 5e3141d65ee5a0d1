use Rattle.lat_pcap.proofs.Heads.{head_taken}
use Rattle.lat_pcap.proofs.laws.heads_are_read.Goals as goal

pub returns : goal.returns
returns c = λ h r behind fits. head_taken h r behind fits
