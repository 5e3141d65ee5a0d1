use Rattle.std.proofs.Common.{◌∙◌, ap, sym, get_or, nat_eq, ◌||◌, Fits, w8, rules, arith}
use Rattle.lat_machines.specs.values.Addresses.{address, everyone}
use Rattle.lat_payload.proofs.Addresses.{IsStation, address_same}
use Rattle.lat_payload.proofs.Everyone.{everyone_is}
use Rattle.lat_wire.proofs.ledger.stations.is_for.Goals as goal

pub returns-else-eq : goal.returns-else-eq
returns-else-eq c =
    let to : IsStation c.args.to.0 = record { long = omega arith; small = λ i. let f : Fits w8 (get_or c.args.to.0 i 0) = search rules in f.fits } in
    let own : IsStation c.args.own.0 = record { long = omega arith; small = λ i. let f : Fits w8 (get_or c.args.own.0 i 0) = search rules in f.fits } in
    c.is_everyone.ensures
    ∙ (everyone_is c.args.to.0 to
    ∙ ap (λ b. b || nat_eq (address c.args.to.0) everyone) (sym c.if-eq.false ∙ (c.eq.ensures ∙ address_same c.args.to.0 c.args.own.0 to own)))
