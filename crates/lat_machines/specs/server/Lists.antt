-- What a server tells of its directory and of its requests. Places are counted from 0; None behind the last.
use Rattle.std.specs.Prelude.{ℕ, ◌-◌, length, Option, Some, None, slice_get}
use Rattle.lat_machines.specs.values.Names.{Name}
use Rattle.lat_machines.specs.values.Notices.{Service}
use Rattle.lat_machines.specs.server.Directory.{HeardAnnouncement, live}
use Rattle.lat_machines.specs.server.Queue.{Request, records, waiting}
use Rattle.lat_machines.specs.server.Server.{ServerConfig, Server, offered}

-- the announcement of the node that is live at a place
abbrev pub node_at : ServerConfig → Server → ℕ → Option HeardAnnouncement
node_at config state at = slice_get (live config.groups state.core.moment state.heard) at

abbrev pub service_in : Option HeardAnnouncement → ℕ → Option Service
service_in None at = None
service_in (Some e) at = slice_get e.announcement.services at

-- at a place of what the node at a place announced
abbrev pub service_at : ServerConfig → Server → ℕ → ℕ → Option Service
service_at config state node at = service_in (node_at config state node) at

abbrev pub offered_at : ServerConfig → ℕ → Option Name
offered_at config at = slice_get (offered config) at

-- of those that wait for a service
abbrev pub waiter_at : Server → Name → ℕ → Option Request
waiter_at state service at = slice_get (waiting service state.queue) at

-- how many requests may still get a record
abbrev pub records_left : Server → ℕ
records_left state = 65536 - length (records state.queue)
