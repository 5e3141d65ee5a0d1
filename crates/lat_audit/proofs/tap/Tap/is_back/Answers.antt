use Rattle.std.proofs.Common.{◌≡◌, ◌∙◌, get_or, nat_eq, Fits, w8, rules, arith}
use Rattle.lat_machines.specs.values.Addresses.{address}
use Rattle.lat_payload.proofs.Addresses.{IsStation, address_same}
use Rattle.lat_audit.proofs.tap.Tap.is_back.Goals as goal

pub returns-else-run-self : goal.returns-else-run-self
returns-else-run-self c =
    let to : IsStation c.args.to.0 = record { long = omega arith; small = λ i. let f : Fits w8 (get_or c.args.to.0 i 0) = search rules in f.fits } in
    let server : IsStation c.args.self.server.0 = record { long = omega arith; small = λ i. let f : Fits w8 (get_or c.args.self.server.0 i 0) = search rules in f.fits } in
    let same : c.eq.result ≡ nat_eq (address c.args.to.0) (address c.args.self.server.0) = c.eq.ensures ∙ address_same c.args.to.0 c.args.self.server.0 to server in
    search rules
