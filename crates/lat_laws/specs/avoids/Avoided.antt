-- An avoided peer isn't chosen until it is heard again, and the directory stays as it was but for it.
use Rattle.std.specs.Prelude.{◌≡◌, ◌≢◌, ℕ, Bool, true, false, not, cond, List, Some, nat_eq, filter}
use Rattle.lat_model.specs.Lists.{Each}
use Rattle.lat_machines.specs.values.Names.{Name}
use Rattle.lat_machines.specs.values.Notices.{AnnouncementNotice}
use Rattle.lat_machines.specs.values.Frames.{OfNotice, Whole}
use Rattle.lat_machines.specs.values.Events.{Event, Hears, Avoids}
use Rattle.lat_machines.specs.values.Answers.{Done, Closed, NoLine}
use Rattle.lat_machines.specs.cores.Lines.{had_session, peer_address, line_exists}
use Rattle.lat_machines.specs.server.Directory.{HeardAnnouncement, latest, Best, best}
use Rattle.lat_machines.specs.server.Server.{ServerConfig, Server, server_step}

-- nothing is known from this address
abbrev pub NoneFrom : ℕ → List HeardAnnouncement → Type 0
NoneFrom address heard = Each (λ (e : HeardAnnouncement). e.from ≢ address) heard

-- the line exists, and has a session or had one
pub record HadPeer (config : ServerConfig) (state : Server) (line : ℕ) : Type 0 where
  pub exists : line_exists config.lines line ≡ true
  pub had : had_session state.core line ≡ true

-- nothing is known of the peer of the line's newest session
abbrev pub AvoidedAreGone : Type 0
AvoidedAreGone =
    (config : ServerConfig) (state : Server) (line : ℕ) →
    HadPeer config state line →
    NoneFrom (peer_address state.core line) (server_step config state (Avoids line)).state.heard

-- and of the others what was known: the latest announcements are those of before, but for the peer's
abbrev pub OthersStay : Type 0
OthersStay =
    (config : ServerConfig) (state : Server) (line : ℕ) →
    HadPeer config state line →
    latest (server_step config state (Avoids line)).state.heard
    ≡ filter (λ (e : HeardAnnouncement). not (nat_eq e.from (peer_address state.core line))) (latest state.heard)

abbrev pub AvoidIsAnswered : Type 0
AvoidIsAnswered =
    (config : ServerConfig) (state : Server) (line : ℕ) →
    (server_step config state (Avoids line)).answer
    ≡ cond (line_exists config.lines line) (cond (had_session state.core line) Done Closed) NoLine

-- an announcement from this address is heard
abbrev pub IsHeardFrom : ℕ → Event → Type 0
IsHeardFrom address (Hears from (Whole (OfNotice (AnnouncementNotice a))) numbers now) = from ≡ address
IsHeardFrom address _ = ⊥

-- until then nothing is known from it
abbrev pub AvoidedUntilHeard : Type 0
AvoidedUntilHeard =
    (config : ServerConfig) (state : Server) (e : Event) (address : ℕ) →
    NoneFrom address state.heard →
    (IsHeardFrom address e → ⊥) →
    NoneFrom address (server_step config state e).state.heard

-- and who is chosen is at another address
abbrev pub UnknownAreNotChosen : Type 0
UnknownAreNotChosen =
    (groups : List ℕ) (service : Name) (now address : ℕ) (heard : List HeardAnnouncement) (b : Best) →
    NoneFrom address heard →
    best groups service now heard ≡ Some b →
    b.from ≢ address

-- only an announcement and an avoid change the directory
abbrev pub changes_directory : Event → Bool
changes_directory (Hears from (Whole (OfNotice (AnnouncementNotice a))) numbers now) = true
changes_directory (Avoids line) = true
changes_directory _ = false

abbrev pub DirectoryStays : Type 0
DirectoryStays =
    (config : ServerConfig) (state : Server) (e : Event) →
    changes_directory e ≡ false →
    (server_step config state e).state.heard ≡ state.heard
