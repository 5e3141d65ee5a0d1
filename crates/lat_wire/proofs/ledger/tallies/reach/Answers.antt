use Rattle.std.proofs.Common.{ap, ◌∙◌, arith}
use Rattle.lat_wire.specs.ledger.Tallies.{tally_at}
use Rattle.lat_wire.proofs.ledger.Growing.{one_more}
use Rattle.lat_wire.proofs.ledger.tallies.reach.Goals as goal

pub loop-table-preserved : goal.loop-table-preserved
loop-table-preserved c = record {
  long = omega (arith, c.loop-table-test.true, c.len.ensures, c.push_reserved.ensures.len, c.requires.ids);
  room = omega (arith, c.push_reserved.ensures.capacity, c.loop-table.invariant.room);
  same = λ x. ap (λ ts. tally_at ts x) c.push_reserved.ensures.items ∙ (one_more c.loop-table.table.items x ∙ c.loop-table.invariant.same x);
}
