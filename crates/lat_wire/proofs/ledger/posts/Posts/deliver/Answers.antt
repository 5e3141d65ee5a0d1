use Rattle.std.proofs.Common.{◌≡◌, [], sym, subst, ap, ◌∙◌, arith, length, map}
use Rattle.std.proofs.lemmas.List.{length-map}
use Rattle.lat_wire.specs.ledger.Logs.{IsLog}
use Rattle.lat_wire.specs.ledger.Posts.{post_in}
use Rattle.lat_wire.specs.ledger.Ways.{mark_of, AllThrough, IsNext}
use Rattle.lat_wire.proofs.ledger.Delivered.{delivered, behind_within}
use Rattle.lat_wire.proofs.ledger.Nexts.{marked_all}
use Rattle.lat_wire.proofs.ledger.Posting.{log_of}
use Rattle.lat_wire.proofs.ledger.posts.Posts.deliver.Goals as goal

pub next_in-self-inside-requires-clause-before : goal.next_in-self-inside-requires-clause-before
next_in-self-inside-requires-clause-before c =
    subst (λ z. AllThrough z c.self.inside.next) (sym (ap (map mark_of) c.deref.ensures.value ∙ c.mark_at-before.ensures.marks))
    (marked_all (map mark_of c.self.inside.rows.items) c.args.index c.self.inside.next c.self.invariant.0.before)

pub invariant_of-self : goal.invariant_of-self
invariant_of-self c =
    let turns = behind_within c.mark_at-before.result c.self.inside.ways _ c.self.invariant.2 c.self.invariant.3 in
    let size : length c.mark_at-before.new.rows.items ≡ length c.self.inside.rows.items = sym (length-map c.mark_at-before.new.rows.items (post_in [])) ∙ (ap length (c.mark_at-before.ensures.posts []) ∙ length-map c.self.inside.rows.items (post_in [])) in (
      subst (λ z. IsNext (map mark_of z) c.next_in-self-inside.result) c.deref.ensures.value c.next_in-self-inside.ensures,
      c.mark_at-before.ensures.within c.self.inside.payloads.items c.self.invariant.1,
      omega (arith, turns.0, ap (λ w. w.server.turns) c.come_behind-self-inside.ensures, size),
      omega (arith, turns.1, ap (λ w. w.node.turns) c.come_behind-self-inside.ensures, size),
    )

pub returns-clause-posts : goal.returns-clause-posts
returns-clause-posts c = c.mark_at-before.ensures.posts c.self.inside.payloads.items ∙ ap (λ k. k.log.posts) c.self.view_is

pub returns-clause-log : goal.returns-clause-log
returns-clause-log c = λ u posts done l.
    delivered u (log_of c.self.inside.payloads.items c.self.inside.rows.items c.self.inside.ways) _ posts done c.args.index c.mark_at-before.result c.mark_at-before.ensures.before c.mark_at-before.ensures.marks c.come_behind-self-inside.ensures
    (subst (λ k. IsLog u k.log posts done) (sym c.self.view_is) l)
