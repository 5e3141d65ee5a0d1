use Rattle.std.proofs.Common.{◌∙◌, ap, not}
use Rattle.lat_session.proofs.Gone.{gone_is}
use Rattle.lat_session.proofs.table.Sessions.are_gone.Goals as goal

pub returns : goal.returns
returns c = λ e st. ap not c.has_other.ensures ∙ gone_is c.args.self.now e st
