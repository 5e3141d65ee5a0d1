use Rattle.lat_settle.proofs.Beginning.{schedules_leave_room}
use Rattle.lat_settle.proofs.laws.schedules_leave_room.Goals as goal

pub returns : goal.returns
returns c = schedules_leave_room
