-- What a node is made of, as the machines know it.
use Rattle.std.specs.Prelude.{◌≤◌, length}
use Rattle.lat_machines.specs.values.Addresses.{address}
use Rattle.lat_machines.specs.node.Node as machine
use Rattle.lat_frames.specs.Timings.{IsTiming}
use Rattle.lat_circuit.specs.Frames.{timing_shown}
use Rattle.lat_node.specs.declared.config.NodeConfig.{NodeConfig}

abbrev pub config_shown : NodeConfig → machine.NodeConfig
config_shown config = record {
  own = address config.own.0;
  name = config.name;
  incarnation = config.incarnation;
  lines = config.lines;
  services = config.services;
  timer = config.timer;
  groups = config.groups;
  timing = timing_shown config.timing;
  prompt = config.prompt;
  first = config.first;
}

pub record IsConfig (config : NodeConfig) : Type 0 where
  pub lines : (1 ≤ config.lines) × (config.lines ≤ 64)
  pub timer : 1 ≤ config.timer
  pub groups : length config.groups ≤ 32
  pub timing : IsTiming config.timing
  pub first : (1 ≤ config.first) × (config.first ≤ 65535)
