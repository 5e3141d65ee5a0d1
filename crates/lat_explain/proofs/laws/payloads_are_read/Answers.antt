use Rattle.lat_explain.proofs.WordsRead.{payloads_read}
use Rattle.lat_explain.proofs.laws.payloads_are_read.Goals as goal

pub returns : goal.returns
returns c = payloads_read
