use Rattle.std.proofs.Common.{◌≡◌, ◌++◌, ◌∷◌, [], refl, ap, sym, subst, ◌∙◌, arith, true, false, cond, is_none}
use Rattle.lat_wire.specs.ledger.Logs.{IsLog}
use Rattle.lat_wire.specs.ledger.Posts.{post_shown}
use Rattle.lat_wire.specs.ledger.Ways.{side_of, turned}
use Rattle.lat_wire.proofs.ledger.Posting.{push_log, push_still, push_through, through_of, turned_within}
use Rattle.lat_wire.proofs.ledger.posts.Posts.push.Goals as goal

pub invariant_of-self : goal.invariant_of-self
invariant_of-self c =
    let none : is_none c.turn_of-turn.result ≡ false = (through_of c.args.for_other (side_of c.self.inside.ways c.args.post.now.by_server).turns c.turn_of-turn.result c.turn_of-turn.ensures).0 c.if-for_other.true in
    let turns = turned_within c.args.post.now.by_server c.self.inside.ways _ c.self.invariant.2 c.self.invariant.3 in (
      push_still c.self.inside.rows.items c.keep.new.rows.items _ c.self.inside.next c.keep.ensures.rows c.self.invariant.0 (λ e. none),
      c.keep.ensures.within c.self.invariant.1,
      omega (arith, turns.0, ap (λ w. w.server.turns) c.turned-self-inside.ensures, c.keep.ensures.count),
      omega (arith, turns.1, ap (λ w. w.node.turns) c.turned-self-inside.ensures, c.keep.ensures.count),
    )

pub invariant_of-self-then-is_next : goal.invariant_of-self-then-is_next
invariant_of-self-then-is_next c =
    let some : is_none c.turn_of-turn.result ≡ true = (through_of c.args.for_other (side_of c.self.inside.ways c.args.post.now.by_server).turns c.turn_of-turn.result c.turn_of-turn.ensures).1 c.if-for_other.false in (
      push_through c.self.inside.rows.items c.keep.new.rows.items _ c.self.inside.next c.keep.ensures.rows c.self.invariant.0 (omega (arith, c.if-is_next.true, c.len.ensures)) some,
      c.keep.ensures.within c.self.invariant.1,
      omega (arith, c.self.invariant.2, c.keep.ensures.count),
      omega (arith, c.self.invariant.3, c.keep.ensures.count),
    )

pub invariant_of-self-else-is_next : goal.invariant_of-self-else-is_next
invariant_of-self-else-is_next c = (
  push_still c.self.inside.rows.items c.keep.new.rows.items _ c.self.inside.next c.keep.ensures.rows c.self.invariant.0 (λ e. absurd (c.if-is_next.false (omega (arith, e, c.len.ensures)))),
  c.keep.ensures.within c.self.invariant.1,
  omega (arith, c.self.invariant.2, c.keep.ensures.count),
  omega (arith, c.self.invariant.3, c.keep.ensures.count),
)

pub returns-then-for_other-clause-posts : goal.returns-then-for_other-clause-posts
returns-then-for_other-clause-posts c = c.keep.ensures.posts c.self.invariant.1 ∙ ap (λ k. k.log.posts ++ post_shown c.args.post.now ∷ []) c.self.view_is

pub returns-then-is_next-clause-posts : goal.returns-then-is_next-clause-posts
returns-then-is_next-clause-posts c = c.keep.ensures.posts c.self.invariant.1 ∙ ap (λ k. k.log.posts ++ post_shown c.args.post.now ∷ []) c.self.view_is

pub returns-else-is_next-clause-posts : goal.returns-else-is_next-clause-posts
returns-else-is_next-clause-posts c = c.keep.ensures.posts c.self.invariant.1 ∙ ap (λ k. k.log.posts ++ post_shown c.args.post.now ∷ []) c.self.view_is

pub returns-then-for_other-clause-log : goal.returns-then-for_other-clause-log
returns-then-for_other-clause-log c = λ u posts done p l b f.
    push_log u c.self.inside.payloads.items c.keep.new.payloads.items c.self.inside.rows.items c.keep.new.rows.items _ c.self.inside.ways c.turned-self-inside.result c.args.for_other posts done p c.keep.ensures.rows refl c.turn_of-turn.ensures
    (c.turned-self-inside.ensures ∙ ap (λ z. cond z (turned c.args.post.now.by_server c.self.inside.ways) c.self.inside.ways) (sym c.if-for_other.true))
    (subst (λ k. IsLog u k.log posts done) (sym c.self.view_is) l) b f

pub returns-then-is_next-clause-log : goal.returns-then-is_next-clause-log
returns-then-is_next-clause-log c = λ u posts done p l b f.
    push_log u c.self.inside.payloads.items c.keep.new.payloads.items c.self.inside.rows.items c.keep.new.rows.items _ c.self.inside.ways c.self.inside.ways c.args.for_other posts done p c.keep.ensures.rows refl c.turn_of-turn.ensures
    (ap (λ z. cond z (turned c.args.post.now.by_server c.self.inside.ways) c.self.inside.ways) (sym c.if-for_other.false))
    (subst (λ k. IsLog u k.log posts done) (sym c.self.view_is) l) b f

pub returns-else-is_next-clause-log : goal.returns-else-is_next-clause-log
returns-else-is_next-clause-log c = λ u posts done p l b f.
    push_log u c.self.inside.payloads.items c.keep.new.payloads.items c.self.inside.rows.items c.keep.new.rows.items _ c.self.inside.ways c.self.inside.ways c.args.for_other posts done p c.keep.ensures.rows refl c.turn_of-turn.ensures
    (ap (λ z. cond z (turned c.args.post.now.by_server c.self.inside.ways) c.self.inside.ways) (sym c.if-for_other.false))
    (subst (λ k. IsLog u k.log posts done) (sym c.self.view_is) l) b f
