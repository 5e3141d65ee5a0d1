-- The lines that tell groups, the server's before the node's.
use Rattle.std.specs.Prelude.{ℕ, List, [], replicate, Option, unwrap_or}
use Rattle.lat_schedule.specs.declared.groups.Groups.{Groups}
use Rattle.lat_schedule.specs.declared.setup_line.Version.{Version}
use Rattle.lat_schedule.specs.declared.setup_line.Version.TheVariants.{One, Two, Three}
use Rattle.lat_schedule.specs.Places.{Place, may}
use Rattle.lat_schedule.specs.SetupLines.{server_groups_of, node_groups_of}

abbrev pub or_else : List ℕ → Option (List ℕ) × Place → List ℕ × Place
or_else mask told = (unwrap_or told.0 mask, told.1)

-- the server listens to all groups, if no line tells another mask
abbrev pub server_groups_at : Place → List ℕ × Place
server_groups_at at = or_else (replicate 32 255) (may server_groups_of at)

-- the node's mask is empty, if no line tells another
abbrev pub node_groups_at : Place → List ℕ × Place
node_groups_at at = or_else [] (may node_groups_of at)

abbrev pub both_groups : List ℕ × Place → Groups × Place
both_groups server = let node = node_groups_at server.1 in (record { server = server.0; node = node.0 }, node.1)

-- The masks of both ends, and the lines behind theirs; in the first version no line tells them
abbrev pub groups_at : Version → Place → Groups × Place
groups_at One at = (record { server = replicate 32 255; node = [] }, at)
groups_at Two at = both_groups (server_groups_at at)
groups_at Three at = both_groups (server_groups_at at)
