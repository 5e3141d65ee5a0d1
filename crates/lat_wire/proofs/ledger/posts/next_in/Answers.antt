use Rattle.std.proofs.Common.{arith, map}
use Rattle.std.proofs.lemmas.List.{length-map}
use Rattle.lat_wire.specs.ledger.Ways.{mark_of}
use Rattle.lat_wire.proofs.ledger.Posting.{none_left, row_on}
use Rattle.lat_wire.proofs.ledger.posts.next_in.Goals as goal

pub loop-next-preserved : goal.loop-next-preserved
loop-next-preserved c = (
  omega (arith, c.loop-next-test.true),
  row_on c.args.rows.now c.loop-next.next _ c.is_through.result c.loop-next-test.true c.loop-next.invariant.1 c.is_through.ensures c.if-not-is_through.false,
)

pub returns : goal.returns
returns c = none_left (map mark_of c.args.rows.now) c.loop-next.next (omega (arith, c.loop-next.invariant.0, length-map c.args.rows.now mark_of)) (omega (arith, c.loop-next-test.false, length-map c.args.rows.now mark_of)) c.loop-next.invariant.1
