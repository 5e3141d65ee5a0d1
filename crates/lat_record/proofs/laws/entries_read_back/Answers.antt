use Rattle.lat_record.proofs.EntriesRead.{entries_back}
use Rattle.lat_record.proofs.laws.entries_read_back.Goals as goal

pub returns : goal.returns
returns c = entries_back
