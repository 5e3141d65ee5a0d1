use Rattle.std.proofs.Common.{◌≡◌, drop}
use Rattle.lat_captures.specs.Sums.{sums_of, hears}
use Rattle.lat_captures.proofs.accounts.Accounts.hears.Given as goal

abbrev pub invariant-loop-message : goal.invariant-loop-message
invariant-loop-message l = hears l.by_master (sums_of l.fn.self) l.messages ≡ hears l.by_master (sums_of l.self) (drop l.message-index l.messages)
