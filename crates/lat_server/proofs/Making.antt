-- A server as it is made.
use Rattle.std.proofs.Common.{◌≡◌, true, [], refl, sym, subst}
use Rattle.lat_machines.specs.values.Addresses.{address}
use Rattle.lat_machines.specs.cores.Cores.{Side, open_core}
use Rattle.lat_dir.specs.Stands as dir
use Rattle.lat_queue.specs.Histories as queue
use Rattle.lat_lines.specs.Kept as lines
use Rattle.lat_lines.specs.Stands as stands
use Rattle.lat_server.specs.Gates.{open_gate}
use Rattle.lat_server.specs.Kept.{Kept, config_of}
use Rattle.lat_server.specs.Stands.{IsMachine, opening}
use Rattle.lat_server.proofs.Connecting.{same_side}
use Rattle.lat_server.proofs.Gates.{opened_as}

pub is_opened : (k : Kept) → k.lines.circuits.server ≡ true → stands.Stands k.lines (open_core (lines.side_of k.lines) (address k.lines.circuits.own.0) k.lines.circuits.first) → dir.Stands k.directory [] → queue.Stands k.queue []
    → k.solicits ≡ 0 → k.gate ≡ open_gate → IsMachine k (opening k)
is_opened k server ls ds qs none is = record {
  config = refl;
  state = record {
    lines = subst (λ (z : Side). stands.Stands k.lines (open_core z (config_of k).own k.lines.circuits.first)) (sym (same_side k server)) ls;
    directory = ds;
    queue = qs;
    solicits = none;
    gate = opened_as k.gate is;
    concluded = tt;
  };
}
