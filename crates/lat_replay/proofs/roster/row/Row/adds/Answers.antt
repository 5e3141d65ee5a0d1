use Rattle.std.proofs.Common.{rules}
use Rattle.lat_replay.proofs.roster.row.Row.adds.Goals as goal

pub add_items-requires-then-server : goal.add_items-requires-then-server
add_items-requires-then-server c = search rules
