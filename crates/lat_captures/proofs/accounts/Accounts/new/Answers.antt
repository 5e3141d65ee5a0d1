use Rattle.lat_captures.proofs.Arrays.{empty_sums}
use Rattle.lat_captures.proofs.accounts.Accounts.new.Goals as goal

pub returns : goal.returns
returns c = empty_sums
