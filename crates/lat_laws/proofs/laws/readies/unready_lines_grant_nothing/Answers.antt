use Rattle.lat_laws.proofs.readies.Grants.{unready_grants_none}
use Rattle.lat_laws.proofs.readies.Alone.{ready_alone, ready_keeps_directory, unready_alone}
use Rattle.lat_laws.proofs.laws.readies.unready_lines_grant_nothing.Goals as goal

pub returns : goal.returns
returns c = record { grants = unready_grants_none; alone = ready_alone; directory = ready_keeps_directory; unready = unready_alone }
