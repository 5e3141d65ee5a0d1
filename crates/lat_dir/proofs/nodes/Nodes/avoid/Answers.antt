use Rattle.std.proofs.Common.{length, sym, ap, subst, arith}
use Rattle.lat_machines.specs.values.Addresses.{address}
use Rattle.lat_dir.specs.Expiry.{LiveUntil}
use Rattle.lat_dir.proofs.Expiry.{live_elsewhere}
use Rattle.lat_dir.proofs.Trimming.{elsewhere_shorter}
use Rattle.lat_dir.proofs.nodes.Nodes.avoid.Goals as goal

pub invariant_of-self : goal.invariant_of-self
invariant_of-self c =
    let from = address c.args.from.0 in (
      omega (arith, ap length c.avoid.ensures.kept, elsewhere_shorter from c.self.inside.nodes.entries, c.self.invariant.0),
      subst (LiveUntil c.self.inside.until) (sym c.avoid.ensures.kept) (live_elsewhere c.self.inside.until from c.self.inside.nodes.entries c.self.invariant.1),
    )
