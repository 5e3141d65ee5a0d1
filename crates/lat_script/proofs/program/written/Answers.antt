use Rattle.std.proofs.Common.{rules}
use Rattle.lat_script.proofs.program.written.Goals as goal

pub returns-in-Err-clause-written : goal.returns-in-Err-clause-written
returns-in-Err-clause-written g c = search rules
