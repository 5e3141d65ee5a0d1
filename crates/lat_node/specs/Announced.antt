-- What a node announces.
use Rattle.std.specs.Prelude.{◌≡◌, ℕ, List, map}
use Rattle.lat_notices.specs.declared.notice.Notice.{Notice}
use Rattle.lat_notices.specs.declared.services.Service.{Service}
use Rattle.lat_machines.specs.values.Addresses.{everyone}
use Rattle.lat_machines.specs.values.Frames.{plain, OfNotice}
use Rattle.lat_machines.specs.node.Node.{NodeConfig, announcement}
use Rattle.lat_payload.specs.Notices.{notice_shown}
use Rattle.lat_node.specs.Kept.{Kept, config_of}
use Rattle.lat_node.specs.Places.{places, AreRates}

abbrev pub ratings : List Service → List ℕ
ratings services = map (λ (s : Service). s.rating) services

-- a notice is the announcement of what such a node offers, with these ratings
abbrev pub AnnouncesAs : NodeConfig → List ℕ → Notice → Type 0
AnnouncesAs config rates n = plain everyone 0 (OfNotice (notice_shown n)) ≡ announcement config rates

-- a notice is the announcement of all services, each with a rating that the rule may give of it where so many lines are held
pub record IsAnnounced {H : Type 0} (may : H → ℕ → ℕ → ℕ → ℕ → Type 0) (k : Kept H) (used : ℕ) (n : Notice) : Type 0 where
  pub rates : List ℕ
  pub each : AreRates (may k.rule) used k.lines.lines (places (config_of k)) rates
  pub is : AnnouncesAs (config_of k) rates n
