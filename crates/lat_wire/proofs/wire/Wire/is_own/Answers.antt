use Rattle.std.proofs.Common.{◌≡◌, ◌∙◌, ap, sym, true, false, get_or, nat_eq, ◌||◌, Fits, w8, rules, arith}
use Rattle.lat_machines.specs.values.Addresses.{address}
use Rattle.lat_machines.specs.world.Machines.{own_of}
use Rattle.lat_payload.proofs.Addresses.{IsStation, address_same}
use Rattle.lat_wire.specs.Kept.{setups_of}
use Rattle.lat_wire.proofs.wire.Wire.is_own.Goals as goal

pub returns-else-eq : goal.returns-else-eq
returns-else-eq g c =
    let station : IsStation c.args.station.0 = record { long = omega arith; small = λ i. let f : Fits w8 (get_or c.args.station.0 i 0) = search rules in f.fits } in
    let server : IsStation c.own.result.0 = record { long = omega arith; small = λ i. let f : Fits w8 (get_or c.own.result.0 i 0) = search rules in f.fits } in
    let node : IsStation c.own-else-eq.result.0 = record { long = omega arith; small = λ i. let f : Fits w8 (get_or c.own-else-eq.result.0 i 0) = search rules in f.fits } in
    let one : c.eq.result ≡ nat_eq (address c.args.station.0) (own_of (setups_of c.args.self.now) true) =
    c.eq.ensures ∙ (address_same c.args.station.0 c.own.result.0 station server ∙ ap (nat_eq (address c.args.station.0)) (sym c.own.ensures)) in
    let two : c.eq-else-eq.result ≡ nat_eq (address c.args.station.0) (own_of (setups_of c.args.self.now) false) =
    c.eq-else-eq.ensures ∙ (address_same c.args.station.0 c.own-else-eq.result.0 station node ∙ ap (nat_eq (address c.args.station.0)) (sym c.own-else-eq.ensures)) in
    two ∙ ap (λ b. b || nat_eq (address c.args.station.0) (own_of (setups_of c.args.self.now) false)) (sym c.if-eq.false ∙ one)
