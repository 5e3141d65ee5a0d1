-- What the setup of a schedule is.
use Rattle.std.specs.Prelude.{◌≢◌, ◌≤◌}
use Rattle.lat_base.specs.Names.{IsName}
use Rattle.lat_base.specs.declared.addr.Addr.{Addr}
use Rattle.lat_frames.specs.Timings.{IsTiming}
use Rattle.lat_model.specs.Lists.{Each}
use Rattle.lat_machines.specs.values.Addresses.{address, everyone}
use Rattle.lat_node.specs.Config as nodes
use Rattle.lat_server.specs.Config as servers
use Rattle.lat_server.specs.declared.config.Offer.{Offer}
use Rattle.lat_schedule.specs.declared.setup.Setup.{Setup}
use Rattle.lat_schedule.specs.declared.setup_line.ServerLine.{ServerLine}
use Rattle.lat_schedule.specs.declared.setup_line.NodeLine.{NodeLine}
use Rattle.lat_schedule.specs.declared.setup_line.Numbers.{Numbers}
use Rattle.lat_schedule.specs.declared.setup_line.CircuitLine.{CircuitLine}

-- what the line of the server may say
pub record IsServerLine (s : ServerLine) : Type 0 where
  pub own : address s.own.0 ≢ everyone
  pub name : IsName s.name
  pub lines : (1 ≤ s.lines) × (s.lines ≤ 32)
  pub first : (1 ≤ s.opening.first) × (s.opening.first ≤ 65535)

-- what that of the node may say, beside a server at this address
pub record IsNodeLine (server : Addr) (n : NodeLine) : Type 0 where
  pub own : address n.own.0 ≢ everyone
  pub apart : address n.own.0 ≢ address server.0
  pub name : IsName n.name
  pub lines : (1 ≤ n.lines) × (n.lines ≤ 64)
  pub timer : 1 ≤ n.timer
  pub first : (1 ≤ n.opening.first) × (n.opening.first ≤ 65535)

pub record AreNumbers (n : Numbers) : Type 0 where
  pub timer : (1 ≤ n.timer) × (n.timer ≤ 100)
  pub keepalive : 1 ≤ n.keepalive
  pub sessions : (1 ≤ n.sessions) × (n.sessions ≤ 64)

-- what that of the circuits may say
pub record IsCircuitLine (c : CircuitLine) : Type 0 where
  pub server : IsTiming c.server
  pub node : IsTiming c.node

-- both cores can be made of it, at two stations
pub record IsSetup (setup : Setup) : Type 0 where
  pub server : servers.IsConfig setup.server
  pub node : nodes.IsConfig setup.node
  pub apart : address setup.server.own.0 ≢ address setup.node.own.0
  pub server_own : address setup.server.own.0 ≢ everyone
  pub node_own : address setup.node.own.0 ≢ everyone
  pub server_name : IsName setup.server.name
  pub node_name : IsName setup.node.name
  pub services : Each IsName setup.node.services
  pub offers : Each (λ (o : Offer). IsName o.service) setup.server.offers
