use Rattle.std.proofs.Common.{◌≡◌, ◌∙◌, ◌<◌, ap, subst, length}
use Rattle.std.proofs.lemmas.Option.{slice_get_within}
use Rattle.lat_wire.specs.ledger.Logs.{IsAt}
use Rattle.lat_wire.specs.ledger.Posts.{post_shown}
use Rattle.lat_wire.specs.Kept.{setups_of}
use Rattle.lat_wire.proofs.Refusing.{posts_length, get_refused, get_ok, get_there, sent_at}
use Rattle.lat_wire.proofs.wire.Wire.sent.Goals as goal

pub returns-clause-refused : goal.returns-clause-refused
returns-clause-refused g c = λ w m.
    let p : length c.args.self.now.book.log.posts ≡ length w.posts = posts_length c.args.self.now.book.log.posts w.posts m.book.posts in
    get_refused w c.args.index c.len-sent.result _ c.get.result _ c.ok_or.result c.ok_or.ensures.value
    (c.len-sent.ensures ∙ ((ap (λ z. length z.ledger.book.log.posts) c.self-inside.view_is ∙ ap (λ z. length z.book.log.posts) c.self.view_is) ∙ p))
    ((ap (λ z. length z.ledger.book.log.posts) c.self-inside.view_is ∙ ap (λ z. length z.book.log.posts) c.self.view_is) ∙ p)
    c.get.ensures (λ s a. slice_get_within _ c.args.index (post_shown s.post) a.post)

pub returns-clause-ok : goal.returns-clause-ok
returns-clause-ok g c =
    get_ok _ c.get.result _ _ _ c.ok_or.result c.ok_or.ensures.value c.get.ensures
    (λ s a w m. sent_at (setups_of c.args.self.now) w c.args.self.now.book c.args.index s m.book
    (subst (λ z. IsAt z c.args.index s) (ap (λ z. z.ledger.book.log) c.self-inside.view_is ∙ ap (λ z. z.book.log) c.self.view_is) a))

pub returns-clause-there : goal.returns-clause-there
returns-clause-there g c =
    get_there _ c.get.result _ _ _ c.ok_or.result c.ok_or.ensures.value c.get.ensures
    (λ s a. subst (λ n. c.args.index < n) (ap (λ z. length z.ledger.book.log.posts) c.self-inside.view_is ∙ ap (λ z. length z.book.log.posts) c.self.view_is) (slice_get_within _ c.args.index (post_shown s.post) a.post))
