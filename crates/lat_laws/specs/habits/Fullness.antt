-- The lines of a machine are enough for its sessions, and a node whose lines are all held isn't chosen.
use Rattle.std.specs.Prelude.{◌≡◌, ℕ, ◌≤◌, ◌<◌, ◌↔◌, false, List, ◌∷◌, ◌++◌, Some, slice_get}
use Rattle.lat_model.specs.Lists.{Each}
use Rattle.lat_machines.specs.values.Names.{Name, same}
use Rattle.lat_machines.specs.values.Notices.{Announcement, Service, AnnouncementNotice}
use Rattle.lat_machines.specs.values.Frames.{OfNotice, OutFrame}
use Rattle.lat_machines.specs.values.Events.{Event}
use Rattle.lat_machines.specs.cores.Lines.{used}
use Rattle.lat_machines.specs.server.Directory.{HeardAnnouncement, Best, best}
use Rattle.lat_machines.specs.server.Server.{ServerConfig, open_server}
use Rattle.lat_machines.specs.node.Node.{NodeConfig, Node, open_node, node_step, Allowed}
use Rattle.lat_machines.specs.world.Histories.{server_run, RatedEvent, node_run}
use Rattle.lat_laws.specs.habits.Chosen.{IsLatest}

abbrev pub ServerLinesSuffice : Type 0
ServerLinesSuffice =
    (config : ServerConfig) (events : List Event) →
    0 < config.timing.sessions →
    used (server_run config events (open_server config)).core ≤ config.lines

abbrev pub NodeLinesSuffice : Type 0
NodeLinesSuffice =
    (config : NodeConfig) (events : List RatedEvent) → used (node_run config events (open_node config)).core ≤ config.lines

-- what each rule of rating must tell: 0 exactly where all lines are held
abbrev pub TellsFullness : ℕ → ℕ → ℕ → Type 0
TellsFullness held lines rating = (rating ≡ 0) ↔ (held ≡ lines)

-- an announcement that goes out at an event of a node, with ratings that tell this
pub record IsAnnounced (config : NodeConfig) (state : Node) (a : Announcement) : Type 0 where
  pub event : Event
  pub rates : List ℕ
  pub rated : Allowed TellsFullness config state event rates
  pub place : ℕ
  pub frame : OutFrame
  pub sent : slice_get (node_step config rates state event).frames place ≡ Some frame
  pub value : frame.value ≡ OfNotice (AnnouncementNotice a)

-- each service of it is rated 0 exactly where all lines were held
abbrev pub AnnouncementsTellFullness : Type 0
AnnouncementsTellFullness =
    (config : NodeConfig) (events : List RatedEvent) (a : Announcement) →
    IsAnnounced config (node_run config events (open_node config)) a →
    Each (λ (s : Service). (s.rating ≡ 0) ↔ (used (node_run config events (open_node config)).core ≡ config.lines)) a.services

-- where a server's latest announcement of a node was made with all lines held, another one is chosen, for every service
abbrev pub FullAreNotChosen : Type 0
FullAreNotChosen =
    (config : NodeConfig) (events : List RatedEvent) (a : Announcement) →
    IsAnnounced config (node_run config events (open_node config)) a →
    used (node_run config events (open_node config)).core ≡ config.lines →
    (groups : List ℕ) (service : Name) (now : ℕ) (before after : List HeardAnnouncement) (e : HeardAnnouncement) (b : Best) →
    e.announcement ≡ a →
    IsLatest e after →
    best groups service now (before ++ e ∷ after) ≡ Some b →
    same b.node a.node ≡ false
