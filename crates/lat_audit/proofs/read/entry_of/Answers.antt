use Rattle.std.proofs.Common.{rules}
use Rattle.lat_audit.proofs.read.entry_of.Goals as goal

pub returns-in_err-bytes-clause-reads : goal.returns-in_err-bytes-clause-reads
returns-in_err-bytes-clause-reads c = search rules
