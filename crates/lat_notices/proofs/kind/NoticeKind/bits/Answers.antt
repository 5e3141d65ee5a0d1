use Rattle.std.proofs.Common.{rules}
use Rattle.lat_notices.proofs.kind.NoticeKind.bits.Goals as goal

pub returns-in-Response-clause-value : goal.returns-in-Response-clause-value
returns-in-Response-clause-value c = search rules
