-- What a switch is made of, and the switch as it is opened.
use Rattle.std.specs.Prelude.{◌*◌, ◌≤◌, []}
use Rattle.lat_machines.specs.values.Addresses.{address}
use Rattle.lat_machines.specs.server.Server.{ServerConfig, open_server}
use Rattle.lat_frames.specs.Timings.{IsTiming}
use Rattle.lat_circuit.specs.Frames.{timing_shown}
use Rattle.lat_switch.specs.declared.config.SwitchConfig.{SwitchConfig}
use Rattle.lat_switch.specs.Lines.{opened_lines}
use Rattle.lat_switch.specs.Switch.{Switch}

pub record IsConfig (config : SwitchConfig) : Type 0 where
  pub lines : (1 ≤ config.lines) × (config.lines ≤ 8)
  pub timing : IsTiming config.timing
  pub first : (1 ≤ config.first) × (config.first ≤ 65535)

-- its server: four lines for each of its own, none of which offers a service
abbrev pub inner_config : SwitchConfig → ServerConfig
inner_config config = record {
  own = address config.own.0;
  name = config.name;
  lines = 4 * config.lines;
  offers = [];
  groups = config.groups;
  timing = timing_shown config.timing;
  prompt = config.prompt;
  first = config.first;
}

abbrev pub open_switch : SwitchConfig → Switch
open_switch config = record {
  inner = record { config = inner_config config; state = open_server (inner_config config) };
  lines = opened_lines config.lines;
}
