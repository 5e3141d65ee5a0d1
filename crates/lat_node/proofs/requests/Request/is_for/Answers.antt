use Rattle.std.proofs.Common.{◌≡◌, ◌∙◌, get_or, nat_eq, Fits, w8, rules, arith}
use Rattle.lat_machines.specs.values.Addresses.{address}
use Rattle.lat_payload.proofs.Addresses.{IsStation, address_same}
use Rattle.lat_node.proofs.requests.Request.is_for.Goals as goal

pub returns-else-eq : goal.returns-else-eq
returns-else-eq c =
    let own : IsStation c.args.self.to.0 = record { long = omega arith; small = λ i. let f : Fits w8 (get_or c.args.self.to.0 i 0) = search rules in f.fits } in
    let other : IsStation c.args.to.0 = record { long = omega arith; small = λ i. let f : Fits w8 (get_or c.args.to.0 i 0) = search rules in f.fits } in
    let is : c.eq.result ≡ nat_eq (address c.args.self.to.0) (address c.args.to.0) = c.eq.ensures ∙ address_same c.args.self.to.0 c.args.to.0 own other in
    search rules
