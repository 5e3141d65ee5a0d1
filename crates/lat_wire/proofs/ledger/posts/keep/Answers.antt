use Rattle.std.proofs.Common.{◌≡◌, ◌++◌, ◌∷◌, [], length, ap, ◌∙◌, arith}
use Rattle.lat_wire.specs.ledger.Posts.{row_of}
use Rattle.lat_wire.proofs.ledger.Payloads.{posts_pushed, within_pushed}
use Rattle.lat_wire.proofs.ledger.posts.keep.Goals as goal

pub returns-clause-rows : goal.returns-clause-rows
returns-clause-rows c = c.push_reserved.ensures.items ∙ ap (λ r. c.args.rows.now.items ++ r ∷ []) (c.of-row.ensures ∙ ap (λ n. row_of c.args.post.now n c.args.turn) c.len.ensures)

pub returns-clause-posts : goal.returns-clause-posts
returns-clause-posts c = λ h.
    let start : c.len.result ≡ length c.args.payloads.now.items = omega (arith, c.len.ensures) in
    posts_pushed c.args.payloads.now.items c.payload_onto.new.payloads.items c.args.rows.now.items c.push_reserved.new.self.items c.args.post.now c.args.turn h c.payload_onto.ensures.items
    (c.push_reserved.ensures.items ∙ ap (λ r. c.args.rows.now.items ++ r ∷ []) (c.of-row.ensures ∙ ap (λ n. row_of c.args.post.now n c.args.turn) start))

pub returns-clause-within : goal.returns-clause-within
returns-clause-within c = λ h.
    let start : c.len.result ≡ length c.args.payloads.now.items = omega (arith, c.len.ensures) in
    within_pushed c.args.payloads.now.items c.payload_onto.new.payloads.items c.args.rows.now.items c.push_reserved.new.self.items c.args.post.now c.args.turn h c.payload_onto.ensures.items
    (c.push_reserved.ensures.items ∙ ap (λ r. c.args.rows.now.items ++ r ∷ []) (c.of-row.ensures ∙ ap (λ n. row_of c.args.post.now n c.args.turn) start))
