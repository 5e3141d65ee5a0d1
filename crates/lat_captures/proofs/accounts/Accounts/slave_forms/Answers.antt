use Rattle.std.proofs.Common.{rules}
use Rattle.lat_captures.proofs.accounts.Accounts.slave_forms.Goals as goal

pub returns-then-not-pay : goal.returns-then-not-pay
returns-then-not-pay c = search rules
