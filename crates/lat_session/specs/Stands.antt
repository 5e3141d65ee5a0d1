-- Which sessions of the model a table stands for.
use Rattle.std.specs.Prelude.{◌≡◌, ◌≢◌, ℕ, ◌≤◌, true, false, cond, length, ◌||◌}
use Rattle.lat_model.specs.Lists.{is_empty}
use Rattle.lat_model.specs.sessions.Slots.{starts, turned}
use Rattle.lat_model.specs.sessions.Session.{peer}
use Rattle.lat_model.specs.sessions.Sessions.{Sessions}
use Rattle.lat_model.specs.sessions.EndOk.{EndOk, AllSmall, IdsWithin}
use Rattle.lat_model.specs.sessions.PeersApart.{PeersApart}
use Rattle.lat_session.specs.Table.{Table, table_of}

-- the first slot that each session heard is a start or a reject
abbrev pub AllOpen : Sessions → Type 0
AllOpen e = (k : ℕ) → is_empty (e.session k).came || (starts (e.session k).came || turned (e.session k).came) ≡ true

-- the master connected each of its sessions, the slave heard the ask of each
abbrev pub AllBegun : Sessions → Type 0
AllBegun e =
    (k : ℕ) → (e.session k).rejects ≡ false → cond e.master (e.session k).accepted (starts (e.session k).came) ≡ true

-- no start came from the id 0
abbrev pub AllSources : Sessions → Type 0
AllSources e = (k : ℕ) → starts (e.session k).came ≡ true → peer (e.session k) ≢ 0

-- The table keeps what it is to keep of the sessions, and these are what an end knows of itself beside any peer
pub record Stands (t : Table) (e : Sessions) : Type 0 where
  pub is : t ≡ table_of (length t.sessions) e
  pub good : EndOk e
  pub small : AllSmall e
  pub opens : AllOpen e
  pub begun : AllBegun e
  pub sources : AllSources e
  pub apart : e.master ≡ false → PeersApart e
  pub within : IdsWithin (length t.sessions) e
  pub low : length t.sessions ≤ 64
  pub agreed : e.agreed ≤ length t.sessions
  pub served : e.served ≤ length t.sessions
