use Rattle.std.proofs.Common.{◌∙◌, ap, length}
use Rattle.lat_wire.proofs.Refusing.{posts_length}
use Rattle.lat_wire.proofs.wire.Wire.frames.Goals as goal

pub returns-clause-value : goal.returns-clause-value
returns-clause-value g c = λ w s.
    c.len.ensures
    ∙ ((ap (λ z. length z.ledger.book.log.posts) c.self-inside.view_is ∙ ap (λ z. length z.book.log.posts) c.self.view_is)
    ∙ posts_length c.args.self.now.book.log.posts w.posts s.parts.book.posts)

pub returns-clause-count : goal.returns-clause-count
returns-clause-count g c = c.len.ensures ∙ (ap (λ z. length z.ledger.book.log.posts) c.self-inside.view_is ∙ ap (λ z. length z.book.log.posts) c.self.view_is)
