use Rattle.std.proofs.Common.{length}
use Rattle.lat_wire.proofs.ledger.Ledger.+enter_all.Given as goal

abbrev pub decreases-enter_all : goal.decreases-enter_all
decreases-enter_all l = length l.frames.now
