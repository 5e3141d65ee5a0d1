use Rattle.lat_replay.proofs.Placed.{put_more}
use Rattle.lat_replay.proofs.grants.place.Goals as goal

pub returns-in-Some : goal.returns-in-Some
returns-in-Some c = put_more c.put.result c.in-Some.number c.args.request.now c.args.places.now.items c.put.new.places.items c.in-Some.is c.if-number-gt0.true c.put.ensures
