use Rattle.lat_laws.proofs.habits.Credits.{server_credited, node_credited, server_within, node_within}
use Rattle.lat_laws.proofs.laws.habits.slots_had_their_credits.Goals as goal

pub returns : goal.returns
returns c = record { server = server_credited; node = node_credited; server_total = server_within; node_total = node_within }
