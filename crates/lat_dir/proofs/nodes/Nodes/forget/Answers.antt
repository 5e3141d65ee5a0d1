use Rattle.std.proofs.Common.{length, sym, ap, subst, arith}
use Rattle.lat_dir.specs.Expiry.{LiveUntil}
use Rattle.lat_dir.proofs.Expiry.{live_others}
use Rattle.lat_dir.proofs.Trimming.{others_shorter}
use Rattle.lat_dir.proofs.nodes.Nodes.forget.Goals as goal

pub invariant_of-self : goal.invariant_of-self
invariant_of-self c = (
  omega (arith, ap length c.forget.ensures.kept, others_shorter c.args.name.now c.self.inside.nodes.entries, c.self.invariant.0),
  subst (LiveUntil c.self.inside.until) (sym c.forget.ensures.kept) (live_others c.self.inside.until c.args.name.now c.self.inside.nodes.entries c.self.invariant.1),
)
