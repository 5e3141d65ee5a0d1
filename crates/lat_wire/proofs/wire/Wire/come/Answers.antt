use Rattle.std.proofs.Common.{refl, subst, sym}
use Rattle.lat_wire.specs.Kept.{Kept}
use Rattle.lat_wire.specs.Stands.{Mirrors}
use Rattle.lat_wire.proofs.Standing.{came_mirrors}
use Rattle.lat_wire.proofs.wire.Wire.come.Goals as goal

pub returns-clause-mirrors : goal.returns-clause-mirrors
returns-clause-mirrors g c = λ w m. came_mirrors _ _ w c.args.index (subst (λ (z : Kept g.row.H.Denot). Mirrors z w) (sym c.self.view_is) m) c.deliver.ensures.book refl refl refl refl
