use Rattle.std.proofs.Common.{rules}
use Rattle.lat_dir.proofs.nodes.make_room.Goals as goal

pub returns-clause-answer : goal.returns-clause-answer
returns-clause-answer c = search rules
