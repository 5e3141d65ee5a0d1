use Rattle.lat_audit.proofs.Captures.{printed_legal}
use Rattle.lat_audit.proofs.laws.captures_are_legal.Goals as goal

pub returns : goal.returns
returns c = printed_legal
