use Rattle.std.proofs.Common.{length, ap, arith}
use Rattle.lat_dir.proofs.Trimming.{living_shorter}
use Rattle.lat_dir.proofs.nodes.Nodes.expire.Goals as goal

pub invariant_of-self : goal.invariant_of-self
invariant_of-self c = (
  omega (arith, ap length c.expire.ensures.kept, living_shorter c.args.now c.self.inside.nodes.entries, c.self.invariant.0),
  c.expire.ensures.until,
)
