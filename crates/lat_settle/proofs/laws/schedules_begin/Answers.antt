use Rattle.lat_settle.proofs.Beginning.{schedules_begin}
use Rattle.lat_settle.proofs.laws.schedules_begin.Goals as goal

pub returns : goal.returns
returns c = schedules_begin
