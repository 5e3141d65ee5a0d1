use Rattle.std.proofs.Common.{rules}
use Rattle.lat_credit.proofs.credits.Credits.heard.Goals as goal

pub returns-clause-value : goal.returns-clause-value
returns-clause-value c = search rules
