use Rattle.lat_laws.proofs.habits.Refused.{unserved_grants_nothing, refused_commands_grant_nothing, repeated_commands_grant_nothing}
use Rattle.lat_laws.proofs.habits.Starts.{refused_starts_stop}
use Rattle.lat_laws.proofs.laws.habits.refused_events_grant_nothing.Goals as goal

pub returns : goal.returns
returns c = record { unserved = unserved_grants_nothing; commands = refused_commands_grant_nothing; again = repeated_commands_grant_nothing; starts = refused_starts_stop }
