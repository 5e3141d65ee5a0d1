use Rattle.lat_explain.proofs.WordsRead.{words_read}
use Rattle.lat_explain.proofs.laws.words_are_read.Goals as goal

pub returns : goal.returns
returns c = words_read
