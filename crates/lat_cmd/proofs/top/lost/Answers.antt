use Rattle.lat_cmd.proofs.Telling.{lost_told}
use Rattle.lat_cmd.proofs.top.lost.Goals as goal

pub returns-clause-told : goal.returns-clause-told
returns-clause-told g c = lost_told c.args.status c.of.result _ _ _ _ _ c.requires c.of.ensures c.tell_end.ensures.told
