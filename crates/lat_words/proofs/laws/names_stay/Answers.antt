use Rattle.lat_words.proofs.NamesStay as stay
use Rattle.lat_words.proofs.laws.names_stay.Goals as goal

pub returns : goal.returns
returns c = stay.names_stay
