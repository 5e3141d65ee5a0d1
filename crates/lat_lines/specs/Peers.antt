-- The stations that lines had sessions with.
use Rattle.std.specs.Prelude.{ℕ, cond, Option, Some, None}
use Rattle.lat_machines.specs.cores.Cores.{Core}
use Rattle.lat_machines.specs.cores.Lines.{had_session, peer_address}

-- the address that a line's newest session is or was with, None where it never had one
abbrev pub newest_peer : Core → ℕ → Option ℕ
newest_peer c line = cond (had_session c line) (Some (peer_address c line)) None
