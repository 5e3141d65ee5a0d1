use Rattle.std.proofs.Common.{rules}
use Rattle.lat_circuit.proofs.link.Link.bare.Goals as goal

pub returns : goal.returns
returns c = search rules
