-- No two sessions of a slave that run, or whose reject waits, name one peer's id; so at most 255 rejects wait.
use Rattle.std.specs.Prelude.{◌≡◌, ℕ, ◌<◌, true}
use Rattle.lat_model.specs.sessions.Session.{Session}
use Rattle.lat_model.specs.sessions.Sessions.{Sessions}
use Rattle.lat_model.specs.sessions.Hearing.{names}

pub record Apart (session : ℕ → Session) : Type 0 where
  pub one : (p j k : ℕ) → names p (session j) ≡ true → names p (session k) ≡ true → j ≡ k
  pub low : (p k : ℕ) → names p (session k) ≡ true → p < 256

abbrev pub PeersApart : Sessions → Type 0
PeersApart e = Apart e.session
