use Rattle.std.proofs.Common.{ap, ◌∙◌, nat_lt}
use Rattle.std.specs.List.{find}
use Rattle.lat_draw.specs.declared.layout.Place.{Place}
use Rattle.lat_draw.proofs.Finding.{row_of, row_found}
use Rattle.lat_draw.proofs.layout.Layout.row_made.Goals as goal

pub returns-in-Some : goal.returns-in-Some
returns-in-Some c =
    ap (row_of c.args.self.now.rows) (c.in-Some.ensures ∙ ap (find (λ (p : Place). nat_lt c.args.frame p.behind)) c.deref.ensures.value)
    ∙ row_found c.args.frame c.args.self.now.rows c.args.self.now.places.items

pub returns-in-None : goal.returns-in-None
returns-in-None c =
    ap (row_of c.args.self.now.rows) (c.in-None.ensures ∙ ap (find (λ (p : Place). nat_lt c.args.frame p.behind)) c.deref.ensures.value)
    ∙ row_found c.args.frame c.args.self.now.rows c.args.self.now.places.items
