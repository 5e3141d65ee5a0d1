-- The columns of tables.
use Rattle.std.specs.Prelude.{ℕ, List, codes}
use Rattle.lat_tables.specs.declared.column.Column.{Column}
use Rattle.lat_tables.specs.declared.column.Column.TheVariants as columns
use Rattle.lat_tables.specs.declared.column.Side.{Side}
use Rattle.lat_tables.specs.declared.column.Side.TheVariants.{Left, Right}

-- what stands above a column
abbrev pub title_text : Column → List ℕ
title_text columns.Line = codes "LINE"
title_text columns.State = codes "STATE"
title_text columns.Session = codes "SESSION"
title_text columns.Service = codes "SERVICE"
title_text columns.Peer = codes "PEER"
title_text columns.Waiting = codes "WAITING"
title_text columns.Ended = codes "ENDED"
title_text columns.Rating = codes "RATING"
title_text columns.Node = codes "NODE"
title_text columns.Address = codes "ADDRESS"
title_text columns.Expires = codes "EXPIRES"
title_text columns.Id = codes "ID"
title_text columns.PeerId = codes "PEER-ID"
title_text columns.Name = codes "NAME"
title_text columns.Timer = codes "TIMER"
title_text columns.KeepAlive = codes "KEEP-ALIVE"
title_text columns.Sessions = codes "SESSIONS"
title_text columns.Unacknowledged = codes "UNACKNOWLEDGED"
title_text columns.Rounds = codes "ROUNDS"
title_text columns.Place = codes "PLACE"
title_text columns.Request = codes "REQUEST"
title_text columns.Counter = codes "COUNTER"
title_text columns.Count = codes "COUNT"

-- texts stand at the left of their column, numbers at the right
abbrev pub side_of : Column → Side
side_of columns.State = Left
side_of columns.Service = Left
side_of columns.Peer = Left
side_of columns.Ended = Left
side_of columns.Node = Left
side_of columns.Address = Left
side_of columns.Name = Left
side_of columns.Counter = Left
side_of column = Right
