use Rattle.lat_laws.proofs.promises.Circuits.{standing}
use Rattle.lat_laws.proofs.laws.promises.nothing_is_said_before_the_reply.Goals as goal

pub returns : goal.returns
returns c = λ u moves f. (standing u f moves).before
