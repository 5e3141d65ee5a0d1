use Rattle.std.proofs.Common.{codes, refl}
use Rattle.lat_cmd.specs.Answers.{plain}
use Rattle.lat_cmd.proofs.top.too_long.Goals as goal

pub returns-clause-tells : goal.returns-clause-tells
returns-clause-tells g c = c.end_with-end.ensures.tells (plain (6, codes "limit bytes\n")) refl refl tt

pub returns-clause-told : goal.returns-clause-told
returns-clause-told g c = c.tell_why.ensures.told _ c.limit_explained-why.ensures
