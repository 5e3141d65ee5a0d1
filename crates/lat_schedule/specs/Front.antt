-- The first four lines of a schedule: the version, the server, the node and the circuits between them.
use Rattle.std.specs.Prelude.{ℕ, Result, Ok}
use Rattle.lat_schedule.specs.declared.front.Front.{Front}
use Rattle.lat_schedule.specs.Places.{Place, must, ◌>>=◌}
use Rattle.lat_schedule.specs.SetupLines.{version_of, server_of, node_of, circuit_of}
use Rattle.lat_schedule.specs.Setups.{IsServerLine, IsNodeLine, IsCircuitLine}

-- what they say, and the lines behind them; or the number of the first that is wrong or missing
abbrev pub front_at : Place → Result (Front × Place) ℕ
front_at at = do
  version ← must version_of at
  server ← must (server_of version.0) version.1
  node ← must (node_of version.0 server.0.own) server.1
  circuit ← must (circuit_of version.0) node.1
  Ok (record { version = version.0; server = server.0; node = node.0; circuit = circuit.0 }, circuit.1)

-- what they may say
pub record FitsFront (front : Front) : Type 0 where
  pub server : IsServerLine front.server
  pub node : IsNodeLine front.server.own front.node
  pub circuit : IsCircuitLine front.circuit
