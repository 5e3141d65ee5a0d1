use Rattle.lat_pcap.proofs.Ours.{frame_taken, frame_found}
use Rattle.lat_pcap.proofs.laws.frames_are_texts.Goals as goal

pub returns : goal.returns
returns c = λ p r f. ((λ e. frame_found p r f e), (λ h. frame_taken p r f h))
