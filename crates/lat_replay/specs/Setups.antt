-- What a schedule's setup is to the machines.
use Rattle.lat_machines.specs.world.Machines.{Setups}
use Rattle.lat_node.specs.Config as nodes
use Rattle.lat_server.specs.Config as servers
use Rattle.lat_schedule.specs.declared.setup.Setup.{Setup}

abbrev pub setups_shown : Setup → Setups
setups_shown s = record { server = servers.config_shown s.server; node = nodes.config_shown s.node }
