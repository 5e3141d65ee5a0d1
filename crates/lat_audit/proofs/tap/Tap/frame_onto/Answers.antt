use Rattle.std.proofs.Common.{rules}
use Rattle.lat_audit.proofs.tap.Tap.frame_onto.Goals as goal

pub returns-else-captures-clause-text : goal.returns-else-captures-clause-text
returns-else-captures-clause-text c = search rules
