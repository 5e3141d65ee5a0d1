use Rattle.std.proofs.Common.{◌≡◌, Some, option_map, ap, sym, subst, rules}
use Rattle.lat_base.specs.declared.addr.Addr.{Addr}
use Rattle.lat_machines.specs.values.Addresses.{address}
use Rattle.lat_lines.specs.Stands as lines
use Rattle.lat_server.specs.Kept.{Kept}
use Rattle.lat_server.proofs.Granting.{at_shut}
use Rattle.lat_server.proofs.server.ServerCore.can_open.Goals as goal

pub returns-then-eq : goal.returns-then-eq
returns-then-eq c = λ core s.
    let is : c.args.shut ≡ Some c.args.from = search rules in
    sym (at_shut c.args.shut c.args.self.now core (address c.args.from.0) c.requires (ap (option_map (λ (a : Addr). address a.0)) is) s)

pub returns : goal.returns
returns c = λ core s. c.can_open.ensures core (subst (λ (z : Kept). lines.Stands z.lines core) (sym c.self.view_is) s)
