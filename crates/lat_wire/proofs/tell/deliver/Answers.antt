use Rattle.std.proofs.Common.{refl, subst, sym, true, false}
use Rattle.lat_wire.specs.ledger.Logs.{IsLog}
use Rattle.lat_wire.specs.ledger.Books.{IsBookOf}
use Rattle.lat_wire.proofs.Telling.{delivered_book}
use Rattle.lat_wire.proofs.tell.deliver.Goals as goal

pub returns-clause-book : goal.returns-clause-book
returns-clause-book c = λ u w h.
    delivered_book u w c.args.index _ _ (subst (λ z. IsBookOf u z.book w) (sym c.ledger.view_is) h) c.deliver.ensures.posts
    (c.deliver.ensures.log u w.posts w.delivered (subst (λ z. IsLog u z.book.log w.posts w.delivered) (sym c.ledger.view_is) h.log))
    (elim [ true ↦ refl | false ↦ refl ])
