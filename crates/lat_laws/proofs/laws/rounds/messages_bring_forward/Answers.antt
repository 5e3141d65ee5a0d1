use Rattle.lat_laws.proofs.rounds.measure.Forming.{pack_more}
use Rattle.lat_laws.proofs.laws.rounds.messages_bring_forward.Goals as goal

pub returns : goal.returns
returns c = pack_more
