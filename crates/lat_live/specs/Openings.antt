-- What a daemon's core is opened from.
use Rattle.std.specs.Prelude.{ℕ, ◌+◌, ◌%◌, List, [], map, true, replicate, Option, Some, None}
use Rattle.lat_machines.specs.values.Addresses.{address}
use Rattle.lat_machines.specs.values.Timing.{Timing}
use Rattle.lat_machines.specs.server.Server as machine
use Rattle.lat_machines.specs.node.Node.{NodeConfig}
use Rattle.lat_words.specs.declared.settings.Offer.{Offer}
use Rattle.lat_words.specs.declared.settings.Pace.{Pace}
use Rattle.lat_words.specs.declared.settings.Service.{Service}
use Rattle.lat_words.specs.declared.settings.Settings.{Settings}
use Rattle.lat_server.specs.declared.config.Offer as server
use Rattle.lat_switch.specs.declared.config.SwitchConfig.{SwitchConfig}

-- the timing of these words, on wide circuits, whose credits are the ceiling
abbrev pub timing_of : Pace → Timing
timing_of pace = record { timer = pace.timer; keepalive = pace.keep_alive; sessions = 64; extra = 7; ceiling = pace.credits; wide = true }

-- The id of the first circuit of a daemon that starts at this time, in tenths of a second, and the incarnation of its node
abbrev pub first_at : ℕ → ℕ
first_at tenths = 1 + tenths % 65535

-- the groups that a server listens to, where the words name none: all
abbrev pub heard_groups : Option (List ℕ) → List ℕ
heard_groups (Some mask) = mask
heard_groups None = replicate 32 255

-- the groups that a node is for, where the words name none: every server's
abbrev pub told_groups : Option (List ℕ) → List ℕ
told_groups (Some mask) = mask
told_groups None = []

abbrev pub offer_of : Offer → machine.Offer
offer_of o = record { line = o.line; service = o.name }

-- the same, as a server is told
abbrev pub offer_as : Offer → server.Offer
offer_as o = record { line = o.line; service = o.name }

-- a prompt server with these offers, whose first circuit has this id
abbrev pub server_config : ℕ → Settings → machine.ServerConfig
server_config first s = record {
  own = address s.station.address.0;
  name = s.station.name;
  lines = s.seats.lines;
  offers = map offer_of s.seats.offers.items;
  groups = heard_groups s.seats.groups;
  timing = timing_of s.pace;
  prompt = true;
  first = first;
}

-- a switch whose server is prompt, and whose first circuit has this id
abbrev pub switch_config : ℕ → Settings → SwitchConfig
switch_config first s = record {
  own = s.station.address;
  name = s.station.name;
  lines = s.seats.lines;
  groups = heard_groups s.seats.groups;
  timing = record {
    timer = s.pace.timer;
    keepalive = s.pace.keep_alive;
    sessions = 64;
    extra = 7;
    ceiling = s.pace.credits;
    wide = true;
  };
  prompt = true;
  first = first;
}

-- a prompt node with these services, announced each so many seconds; this is its incarnation and the id of its first circuit
abbrev pub node_config : ℕ → Settings → NodeConfig
node_config first s = record {
  own = address s.station.address.0;
  name = s.station.name;
  incarnation = first;
  lines = s.seats.lines;
  services = map (λ (x : Service). x.name) s.seats.services.items;
  timer = s.pace.announce;
  groups = told_groups s.seats.groups;
  timing = timing_of s.pace;
  prompt = true;
  first = first;
}
