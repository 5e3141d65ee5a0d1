use Rattle.lat_replay.proofs.roster.Rows.{shows_stays, room_set}
use Rattle.lat_replay.proofs.roster.changes.reserve_at.Goals as goal

pub returns-in_err-reserve-clause-same : goal.returns-in_err-reserve-clause-same
returns-in_err-reserve-clause-same c = λ rs h. shows_stays c.args.list.now rs c.args.place c.index-list-place.result c.reserve.new.self c.if-place-gt0.true c.requires h c.reserve.ensures.same

pub returns-in_ok-reserve-clause-same : goal.returns-in_ok-reserve-clause-same
returns-in_ok-reserve-clause-same c = λ rs h. shows_stays c.args.list.now rs c.args.place c.index-list-place.result c.reserve.new.self c.if-place-gt0.true c.requires h c.reserve.ensures.same

pub returns-in_ok-reserve-clause-reserved : goal.returns-in_ok-reserve-clause-reserved
returns-in_ok-reserve-clause-reserved c = λ i k e g. room_set c.args.list.now c.args.place i c.args.server c.args.put c.args.taken c.reserve.new.self k e g c.in_ok-reserve.ensures.reserved
