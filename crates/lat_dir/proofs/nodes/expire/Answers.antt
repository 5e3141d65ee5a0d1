use Rattle.std.proofs.Common.{◌-◌, ◌^◌, sym, subst}
use Rattle.lat_dir.specs.Expiry.{LiveUntil}
use Rattle.lat_dir.proofs.Expiry.{live_soonest}
use Rattle.lat_dir.proofs.nodes.expire.Goals as goal

pub returns-clause-until : goal.returns-clause-until
returns-clause-until c =
    let nodes = c.retain_living.new.nodes.entries in
    subst (λ until. LiveUntil until nodes) (sym c.soonest.ensures) (live_soonest (2 ^ 128 - 1) nodes)
