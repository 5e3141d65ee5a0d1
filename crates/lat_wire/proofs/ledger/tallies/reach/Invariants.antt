use Rattle.std.proofs.Common.{◌≡◌, ℕ, ◌-◌, ◌≤◌, vec_len, vec_capacity}
use Rattle.lat_wire.specs.ledger.Tallies.{tally_at}
use Rattle.lat_wire.proofs.ledger.tallies.reach.Given as goal

abbrev pub invariant-loop-table : goal.invariant-loop-table
invariant-loop-table l = record {
  long : vec_len l.table ≤ 65536;
  room : 65536 ≤ vec_capacity l.table;
  same : (x : ℕ) → tally_at l.table.items x ≡ tally_at l.initial.table.items x;
}

abbrev pub decreases-loop-table : goal.decreases-loop-table
decreases-loop-table l = l.ids - vec_len l.table
