use Rattle.std.proofs.Common.{◌≡◌, ◌<◌, ◌≤◌, MatchOption, None, Some, slice_get, length, ap, sym, subst, refl, arith, ◌∙◌}
use Rattle.std.specs.Prelude.{IsSome, ◌↔◌}
use Rattle.std.proofs.lemmas.Option.{slice_get_past, slice_get_within}
use Rattle.lat_wire.specs.ledger.Posts.{post_shown}
use Rattle.lat_wire.proofs.Refusing.{PostAt, post_at, posts_length}
use Rattle.lat_wire.specs.Told.{ShowsPost}
use Rattle.lat_wire.proofs.wire.Wire.frame.Goals as goal

pub returns-in_err-sent-clause-value : goal.returns-in_err-sent-clause-value
returns-in_err-sent-clause-value g c = λ w s.
    let p : length c.args.self.now.book.log.posts ≡ length w.posts = posts_length c.args.self.now.book.log.posts w.posts s.parts.book.posts in
    let n : length c.args.self.now.book.log.posts ≤ c.args.index = omega (arith, c.in_err-sent.ensures, ap (λ z. length z.ledger.book.log.posts) c.self-inside.view_is ∙ ap (λ z. length z.book.log.posts) c.self.view_is) in
    subst (λ r. MatchOption r (slice_get w.posts c.args.index ≡ None) (λ shown. ShowsPost w.posts c.args.index shown.0 shown.1)) (sym c.from_residual.ensures) (slice_get_past w.posts c.args.index (omega (arith, p, n)))

pub returns-in_err-sent-clause-there : goal.returns-in_err-sent-clause-there
returns-in_err-sent-clause-there g c =
    let n : length c.args.self.now.book.log.posts ≤ c.args.index = omega (arith, c.in_err-sent.ensures, ap (λ z. length z.ledger.book.log.posts) c.self-inside.view_is ∙ ap (λ z. length z.book.log.posts) c.self.view_is) in
    subst (λ r. IsSome r ↔ (c.args.index < length c.args.self.now.book.log.posts)) (sym c.from_residual.ensures) ((λ h. absurd cc), (λ l. absurd (omega (arith, l, n))))

pub returns-clause-value : goal.returns-clause-value
returns-clause-value g c = λ w s.
    let q : slice_get c.args.self.now.book.log.posts c.args.index ≡ Some (post_shown c.in_ok-sent.sent.post) = sym (ap (λ z. slice_get z.ledger.book.log.posts c.args.index) c.self-inside.view_is ∙ ap (λ z. slice_get z.book.log.posts c.args.index) c.self.view_is) ∙ c.in_ok-sent.ensures.post in
    let r : PostAt w.posts c.args.index (post_shown c.in_ok-sent.sent.post) = post_at c.args.self.now.book.log.posts w.posts c.args.index (post_shown c.in_ok-sent.sent.post) s.parts.book.posts q in
    record { post = r.post; is = r.there; side = r.is.by_server; frame = r.is.same }

pub returns-clause-there : goal.returns-clause-there
returns-clause-there g c =
    let n : c.args.index < length c.args.self.now.book.log.posts =
    subst (λ n. c.args.index < n) (ap (λ z. length z.ledger.book.log.posts) c.self-inside.view_is ∙ ap (λ z. length z.book.log.posts) c.self.view_is)
    (slice_get_within _ c.args.index (post_shown c.in_ok-sent.sent.post) c.in_ok-sent.ensures.post) in
    ((λ h. n), (λ l. refl))
