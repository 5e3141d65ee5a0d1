use Rattle.lat_model.proofs.circuits.Streams.{reached_ok, never_broken}
use Rattle.lat_model.proofs.laws.pair_never_breaks.Goals as goal

pub returns : goal.returns
returns c = λ w i now b ask m f r e. never_broken w (reached_ok w r) i now b m ask f e
