use Rattle.std.proofs.Common.{sym, subst, arith}
use Rattle.std.proofs.lemmas.List.{length-map}
use Rattle.lat_wire.specs.ledger.Logs.{IsLog}
use Rattle.lat_wire.specs.ledger.Ways.{mark_of}
use Rattle.lat_wire.proofs.ledger.Posting.{log_of, told_next, told_none}
use Rattle.lat_wire.proofs.ledger.posts.Posts.undelivered.Goals as goal

pub returns-then-self-len : goal.returns-then-self-len
returns-then-self-len c = λ u posts done l. told_next u (log_of c.self.inside.payloads.items c.self.inside.rows.items c.self.inside.ways) posts done c.self.inside.next c.len.result (subst (λ k. IsLog u k.log posts done) (sym c.self.view_is) l) c.self.invariant.0 (omega (arith, c.len.ensures, length-map c.self.inside.rows.items mark_of)) c.if-self-len.true

pub returns-else-self-len : goal.returns-else-self-len
returns-else-self-len c = λ u posts done l. told_none u (log_of c.self.inside.payloads.items c.self.inside.rows.items c.self.inside.ways) posts done c.self.inside.next c.len.result (subst (λ k. IsLog u k.log posts done) (sym c.self.view_is) l) c.self.invariant.0 (omega (arith, c.len.ensures, length-map c.self.inside.rows.items mark_of)) c.if-self-len.false
