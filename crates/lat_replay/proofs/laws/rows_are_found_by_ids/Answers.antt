use Rattle.lat_replay.proofs.roster.Found.{found_last, found_adds, found_accepts}
use Rattle.lat_replay.proofs.laws.rows_are_found_by_ids.Goals as goal

pub returns : goal.returns
returns c = record { last = found_last; adds = found_adds; accepts = found_accepts }
