use Rattle.std.proofs.Common.{subst, sym, [], true, false}
use Rattle.lat_wire.specs.ledger.Books.{ArePosts}
use Rattle.lat_wire.proofs.ledger.Ledger.make.Goals as goal

pub returns-clause-book : goal.returns-clause-book
returns-clause-book c = λ u. record {
  posts = subst (λ z. ArePosts z []) (sym c.make.ensures.posts) tt;
  log = c.make.ensures.log u;
  tallies = elim [ true ↦ λ x l. c.in_ok-make.ensures x | false ↦ λ x l. c.in_ok-make-2.ensures x ];
}

pub returns-clause-tallies : goal.returns-clause-tallies
returns-clause-tallies c = elim [ true ↦ λ x. c.in_ok-make.ensures x | false ↦ λ x. c.in_ok-make-2.ensures x ]
