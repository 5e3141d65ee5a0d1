use Rattle.std.proofs.Common.{◌≡◌, ◌∙◌, ap, arith, length}
use Rattle.lat_wire.proofs.Refusing.{posts_length, is_full, is_not_full}
use Rattle.lat_wire.proofs.wire.Wire.may_step.Goals as goal

pub returns-then-len-gt-FRAMES-clause-refused : goal.returns-then-len-gt-FRAMES-clause-refused
returns-then-len-gt-FRAMES-clause-refused g c = λ w m.
    let p : length c.args.self.now.book.log.posts ≡ length w.posts = posts_length c.args.self.now.book.log.posts w.posts m.book.posts in
    is_full w (omega (arith, p, ap (λ z. length z.ledger.book.log.posts) c.self-inside.view_is ∙ ap (λ z. length z.book.log.posts) c.self.view_is))

pub returns-clause-refused : goal.returns-clause-refused
returns-clause-refused g c = λ w m.
    let p : length c.args.self.now.book.log.posts ≡ length w.posts = posts_length c.args.self.now.book.log.posts w.posts m.book.posts in
    is_not_full w (omega (arith, p, ap (λ z. length z.ledger.book.log.posts) c.self-inside.view_is ∙ ap (λ z. length z.book.log.posts) c.self.view_is))
