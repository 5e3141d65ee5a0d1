use Rattle.std.proofs.Common.{◌≡◌, drop}
use Rattle.lat_captures.specs.Sums.{sums_of, takes_all}
use Rattle.lat_captures.proofs.accounts.Accounts.takes_all.Given as goal

abbrev pub invariant-loop-owned : goal.invariant-loop-owned
invariant-loop-owned l = takes_all l.by_master (sums_of l.fn.self) l.slots ≡ takes_all l.by_master (sums_of l.self) (drop l.owned-index l.slots)
