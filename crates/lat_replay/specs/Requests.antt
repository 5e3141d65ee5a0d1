-- What is told of the requests and of the grants.
use Rattle.std.specs.Prelude.{ℕ, List, [], map, Option, Some, None}
use Rattle.lat_machines.specs.server.Queue.{QueueEvent, Request, records}
use Rattle.lat_machines.specs.server.Records.{kept_now}
use Rattle.lat_machines.specs.world.Reports.{RecordRow}
use Rattle.lat_queue.specs.Histories.{key_shown}
use Rattle.lat_queue.specs.declared.key.Key.{Key}
use Rattle.lat_wire.specs.report.ReportText.{grant_text}

abbrev pub request_row : List QueueEvent → Request → RecordRow
request_row q r = record { key = r.key; service = r.service; kept = kept_now q r }

-- all records, in the order of their first commands
abbrev pub request_rows : List QueueEvent → List RecordRow
request_rows q = map (request_row q) (records q)

-- the text of a place for a grant
abbrev pub place_text : Option Key → List ℕ
place_text None = []
place_text (Some k) = grant_text (key_shown k)
