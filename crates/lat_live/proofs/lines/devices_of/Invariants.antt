use Rattle.std.proofs.Common.{◌≡◌, take}
use Rattle.lat_live.specs.Lines as lines
use Rattle.lat_live.proofs.lines.devices_of.Given as goal

abbrev pub invariant-loop-service : goal.invariant-loop-service
invariant-loop-service l = l.all.items ≡ lines.devices_of (take l.service-index l.services)
