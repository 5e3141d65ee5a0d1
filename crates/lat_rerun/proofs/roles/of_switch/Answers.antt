use Rattle.std.proofs.Common.{ap, string_bytes}
use Rattle.lat_switch.specs.Core as switches
use Rattle.lat_switch.specs.Looks as switch_looks
use Rattle.lat_switch.specs.Stands.{Stands}
use Rattle.lat_switch.specs.Switch.{Switch}
use Rattle.lat_rerun.specs.Reruns.{told}
use Rattle.lat_rerun.proofs.Opened.{told_of_opened}
use Rattle.lat_rerun.proofs.roles.of_switch.Goals as goal

pub returns : goal.returns
returns c =
    let k = c.in_ok-core.core in
    let tell = λ (s : Switch). told switches.next switches.answered switch_looks.look_of s c.args.config.now.lines c.args.first c.args.entries.now in
    told_of_opened (λ r. (r.0, string_bytes r.1)) Stands tell c.told.result k (switches.opening k) _ c.in_ok-core.ensures.stands
    (ap tell c.in_ok-core.ensures.opening) c.told.ensures
