use Rattle.lat_laws.proofs.halts.Answered.{halted_is_answered}
use Rattle.lat_laws.proofs.halts.Idle.{server_begins_none, server_grants_none}
use Rattle.lat_laws.proofs.laws.halts.halted_servers_begin_nothing.Goals as goal

pub returns : goal.returns
returns c = record { answered = halted_is_answered; begins = server_begins_none; grants = server_grants_none }
