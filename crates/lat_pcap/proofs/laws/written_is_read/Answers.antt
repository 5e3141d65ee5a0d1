use Rattle.lat_pcap.proofs.Shots.{shots_read}
use Rattle.lat_pcap.proofs.laws.written_is_read.Goals as goal

pub returns : goal.returns
returns c = λ ss h. shots_read ss h
