use Rattle.lat_record.proofs.RecordsRead.{records_back}
use Rattle.lat_record.proofs.laws.records_read_back.Goals as goal

pub returns : goal.returns
returns c = records_back
