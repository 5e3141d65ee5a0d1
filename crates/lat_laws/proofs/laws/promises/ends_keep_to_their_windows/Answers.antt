use Rattle.lat_laws.proofs.promises.Circuits.{standing}
use Rattle.lat_laws.proofs.laws.promises.ends_keep_to_their_windows.Goals as goal

pub returns : goal.returns
returns c = λ u moves f. (standing u f moves).windows
