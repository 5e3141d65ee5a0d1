use Rattle.std.proofs.Common.{ap, string_bytes}
use Rattle.lat_machines.specs.server.Server.{open_server}
use Rattle.lat_server.specs.Looks as server_looks
use Rattle.lat_server.specs.Stands as servers
use Rattle.lat_rerun.specs.Reruns.{told}
use Rattle.lat_rerun.proofs.Opened.{told_of_opened}
use Rattle.lat_rerun.proofs.roles.of_server.Goals as goal

pub returns : goal.returns
returns c =
    let k = c.in_ok-core.core in
    let tell = λ (m : servers.Machine). told servers.next servers.answered server_looks.look_of m c.args.config.now.lines c.args.first c.args.entries.now in
    told_of_opened (λ r. (r.0, string_bytes r.1)) servers.IsMachine tell c.told.result k (servers.opening k) _ c.in_ok-core.ensures.stands
    (ap (λ config. tell (record { config = config; state = open_server config })) c.in_ok-core.ensures.config) c.told.ensures
