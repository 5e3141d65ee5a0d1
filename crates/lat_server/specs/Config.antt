-- What a server is made of, as the machines know it.
use Rattle.std.specs.Prelude.{ℕ, ◌≤◌, List, map}
use Rattle.lat_model.specs.Lists.{Each}
use Rattle.lat_machines.specs.values.Addresses.{address}
use Rattle.lat_machines.specs.server.Server as machine
use Rattle.lat_frames.specs.Timings.{IsTiming}
use Rattle.lat_circuit.specs.Frames.{timing_shown}
use Rattle.lat_lines.specs.Kept.{Apart, IsLine}
use Rattle.lat_server.specs.declared.config.Offer.{Offer}
use Rattle.lat_server.specs.declared.config.ServerConfig.{ServerConfig}

abbrev pub offer_shown : Offer → machine.Offer
offer_shown o = record { line = o.line; service = o.service }

abbrev pub config_shown : ServerConfig → machine.ServerConfig
config_shown config = record {
  own = address config.own.0;
  name = config.name;
  lines = config.lines;
  offers = map offer_shown config.offers;
  groups = config.groups;
  timing = timing_shown config.timing;
  prompt = config.prompt;
  first = config.first;
}

-- each offer names a line, and no line is in two
pub record AreOffers (lines : ℕ) (offers : List Offer) : Type 0 where
  pub each : Each (λ (o : Offer). IsLine lines o.line) offers
  pub apart : Apart (map (λ (o : Offer). o.line) offers)

pub record IsConfig (config : ServerConfig) : Type 0 where
  pub lines : (1 ≤ config.lines) × (config.lines ≤ 32)
  pub offers : AreOffers config.lines config.offers
  pub timing : IsTiming config.timing
  pub first : (1 ≤ config.first) × (config.first ≤ 65535)
