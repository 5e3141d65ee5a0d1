use Rattle.std.proofs.Common.{◌∙◌, ◌+◌, ap, refl, subst, sym}
use Rattle.lat_wire.specs.Kept.{Kept}
use Rattle.lat_wire.specs.Stands.{Mirrors}
use Rattle.lat_wire.proofs.Standing.{passed_mirrors}
use Rattle.lat_wire.proofs.wire.Wire.pass_by.Goals as goal

pub returns-clause-mirrors : goal.returns-clause-mirrors
returns-clause-mirrors g c = λ w m.
    passed_mirrors _ _ w c.args.index (subst (λ (z : Kept g.row.H.Denot). Mirrors z w) (sym c.self.view_is) m) c.deliver.ensures.book
    (c.in_ok-count.ensures.0 ∙ ap (λ (z : Kept g.row.H.Denot). z.count + 1) (sym c.self.view_is)) refl refl refl
