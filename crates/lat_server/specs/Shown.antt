-- What is kept, from the fields.
use Rattle.lat_server.specs.declared.server.ServerCore.TheInside.{Inside}
use Rattle.lat_server.specs.Kept.{Kept}

abbrev pub shown : Inside → Kept
shown a = record { lines = a.lines; offers = a.offers; directory = a.directory; queue = a.queue; solicits = a.solicits; gate = a.gate; prompt = a.prompt }
