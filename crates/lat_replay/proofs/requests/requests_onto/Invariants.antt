use Rattle.std.proofs.Common.{◌≡◌, ◌-◌, ◌++◌, string_bytes, take}
use Rattle.std.specs.List.{flat_map}
use Rattle.lat_machines.specs.server.Server.{Server}
use Rattle.lat_server.specs.Stands.{Stands}
use Rattle.lat_wire.specs.report.ReportText.{request_text}
use Rattle.lat_replay.specs.Requests.{request_rows}
use Rattle.lat_replay.proofs.requests.requests_onto.Given as goal

abbrev pub invariant-loop-request : goal.invariant-loop-request
invariant-loop-request l = (s : Server) → Stands l.server s → string_bytes l.out ≡ string_bytes l.initial.out ++ flat_map request_text (take l.place (request_rows s.queue))

abbrev pub decreases-loop-request : goal.decreases-loop-request
decreases-loop-request l = 65536 - l.place
