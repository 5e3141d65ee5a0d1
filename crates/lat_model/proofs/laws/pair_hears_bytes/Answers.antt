use Rattle.lat_model.proofs.circuits.Streams.{reached_ok, bytes_heard}
use Rattle.lat_model.proofs.laws.pair_hears_bytes.Goals as goal

pub returns : goal.returns
returns c = λ w i r b ask m f k e y. bytes_heard w (reached_ok w k) i r b m ask f e y
