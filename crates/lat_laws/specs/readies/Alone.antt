-- A line that isn't ready grants nothing, and to say that it is ready or not changes nothing else by itself.
use Rattle.std.specs.Prelude.{◌≡◌, ◌≢◌, ℕ, ◌<◌, Bool, false, cond, List, ◌++◌}
use Rattle.lat_model.specs.Lists.{updated, Each}
use Rattle.lat_machines.specs.values.Events.{Event, Readies}
use Rattle.lat_machines.specs.values.Answers.{Done, NoLine}
use Rattle.lat_machines.specs.cores.Cores.{Seat, Core}
use Rattle.lat_machines.specs.cores.Lines.{line_exists}
use Rattle.lat_machines.specs.server.Server.{ServerConfig, Server, ServerStep, open_server, tells, grant_pass, passed, server_step}
use Rattle.lat_machines.specs.world.Histories.{server_run}
use Rattle.lat_machines.specs.world.Refusals.{server_after}

-- a core with line sessions more, none of them on this line
pub record OthersBegin (line : ℕ) (c : Core) (d : Core) : Type 0 where
  pub more : List Seat
  pub seats : d.seats ≡ c.seats ++ more
  pub others : Each (λ (s : Seat). s.line ≢ line) more

abbrev pub UnreadyGrantsNone : Type 0
UnreadyGrantsNone =
    (config : ServerConfig) (state : Server) (line : ℕ) →
    state.ready line ≡ false →
    OthersBegin line state.core (grant_pass config state).state.core

-- the line says so, where it exists
abbrev pub readied : ServerConfig → Server → ℕ → Bool → ServerStep
readied config state line ready =
    let there : Bool = line_exists config.lines line in
    tells (record state { ready = cond there (updated state.ready line ready) state.ready }) (cond there Done NoLine)

-- of circuits, queue and directory all else is what follows every event: requests are finished, and lines grant
abbrev pub ReadyAlone : Type 0
ReadyAlone =
    (config : ServerConfig) (state : Server) (line : ℕ) (ready : Bool) →
    server_step config state (Readies line ready) ≡ passed config (readied config state line ready)

abbrev pub ReadyKeepsDirectory : Type 0
ReadyKeepsDirectory =
    (config : ServerConfig) (state : Server) (line : ℕ) (ready : Bool) →
    (server_step config state (Readies line ready)).state.heard ≡ state.heard

-- and where a line is ready no more, nothing follows
abbrev pub UnreadyAlone : Type 0
UnreadyAlone =
    (config : ServerConfig) (events : List Event) (line : ℕ) →
    0 < config.timing.sessions →
    server_after config events (Readies line false) ≡ readied config (server_run config events (open_server config)) line false
