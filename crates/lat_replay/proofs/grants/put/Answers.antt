use Rattle.std.proofs.Common.{arith}
use Rattle.lat_replay.proofs.Placed.{put_in}
use Rattle.lat_replay.proofs.grants.put.Goals as goal

pub returns : goal.returns
returns c = put_in c.args.places.now.items c.grow.new.places.items _ c.args.key c.in_ok-grow.ensures.same (omega (arith, c.requires, c.in_ok-grow.ensures.count))
