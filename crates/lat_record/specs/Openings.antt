-- What a core may be made of.
use Rattle.std.specs.Prelude.{◌≡◌, ◌≤◌, length}
use Rattle.hex.specs.Hex.{IsBytes}
use Rattle.lat_base.specs.Names.{IsName}
use Rattle.lat_frames.specs.Timings.{IsTiming}
use Rattle.lat_frames.specs.declared.timing.Timing.{Timing}
use Rattle.lat_model.specs.Lists as lists
use Rattle.lat_node.specs.Config as nodes
use Rattle.lat_server.specs.Config as servers
use Rattle.lat_server.specs.declared.config.Offer.{Offer}
use Rattle.lat_server.specs.declared.config.ServerConfig.{ServerConfig}
use Rattle.lat_switch.specs.Config as switches
use Rattle.lat_switch.specs.declared.config.SwitchConfig.{SwitchConfig}
use Rattle.lat_record.specs.declared.opening.NodeOpening.{NodeOpening}
use Rattle.lat_record.specs.declared.opening.Opening.{Opening}
use Rattle.lat_record.specs.declared.opening.Opening.TheVariants.{Server, Switch, Node}
use Rattle.lat_record.specs.declared.opening.Rate.{Rate}
use Rattle.lat_record.specs.declared.opening.Rate.TheVariants.{Free, Each, WhileFree}
use Rattle.lat_record.specs.Values.{IsAddress}

-- a core can be made of it
abbrev pub IsOpening : Opening → Type 0
IsOpening (Server config) = servers.IsConfig config
IsOpening (Switch config) = switches.IsConfig config
IsOpening (Node opening) = nodes.IsConfig opening.config

-- Its numbers, names and bytes are those of their types, too

pub record IsTimed (t : Timing) : Type 0 where
  pub timing : IsTiming t
  pub keepalive : t.keepalive ≤ 255
  pub extra : t.extra ≤ 255

pub record IsServer (c : ServerConfig) : Type 0 where
  pub config : servers.IsConfig c
  pub own : IsAddress c.own
  pub name : IsName c.name
  pub timing : IsTimed c.timing
  pub groups : (length c.groups ≡ 32) × IsBytes c.groups
  pub offers : lists.Each (λ (o : Offer). IsName o.service) c.offers

pub record IsSwitch (c : SwitchConfig) : Type 0 where
  pub config : switches.IsConfig c
  pub own : IsAddress c.own
  pub name : IsName c.name
  pub timing : IsTimed c.timing
  pub groups : (length c.groups ≡ 32) × IsBytes c.groups

abbrev pub IsRate : Rate → Type 0
IsRate Free = Unit {0}
IsRate (Each rating) = (1 ≤ rating) × (rating ≤ 255)
IsRate (WhileFree rating) = (1 ≤ rating) × (rating ≤ 255)

-- and each service has a rate
pub record IsNode (o : NodeOpening) : Type 0 where
  pub config : nodes.IsConfig o.config
  pub own : IsAddress o.config.own
  pub name : IsName o.config.name
  pub timing : IsTimed o.config.timing
  pub incarnation : o.config.incarnation ≤ 65535
  pub announce : o.config.timer ≤ 255
  pub groups : IsBytes o.config.groups
  pub services : lists.Each IsName o.config.services
  pub few : length o.config.services ≤ 32
  pub rates : lists.Each IsRate o.rates
  pub paired : length o.rates ≡ length o.config.services

abbrev pub IsWritten : Opening → Type 0
IsWritten (Server config) = IsServer config
IsWritten (Switch config) = IsSwitch config
IsWritten (Node opening) = IsNode opening
