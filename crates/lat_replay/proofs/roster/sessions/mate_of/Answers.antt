use Rattle.std.proofs.Common.{◌≡◌, ◌∙◌, get_or, nat_eq, Fits, w8, rules, arith}
use Rattle.lat_machines.specs.values.Addresses.{address}
use Rattle.lat_payload.proofs.Addresses.{IsStation, address_same}
use Rattle.lat_replay.proofs.roster.sessions.mate_of.Goals as goal

pub returns-then-eq-clause-is : goal.returns-then-eq-clause-is
returns-then-eq-clause-is g c =
    let peer : IsStation c.args.session.peer.0 = record { long = omega arith; small = λ i. let f : Fits w8 (get_or c.args.session.peer.0 i 0) = search rules in f.fits } in
    let own : IsStation c.own.result.0 = record { long = omega arith; small = λ i. let f : Fits w8 (get_or c.own.result.0 i 0) = search rules in f.fits } in
    let same : c.eq.result ≡ nat_eq (address c.args.session.peer.0) (address c.own.result.0) = c.eq.ensures ∙ address_same c.args.session.peer.0 c.own.result.0 peer own in
    search rules

pub returns-else-eq-clause-is : goal.returns-else-eq-clause-is
returns-else-eq-clause-is g c =
    let peer : IsStation c.args.session.peer.0 = record { long = omega arith; small = λ i. let f : Fits w8 (get_or c.args.session.peer.0 i 0) = search rules in f.fits } in
    let own : IsStation c.own.result.0 = record { long = omega arith; small = λ i. let f : Fits w8 (get_or c.own.result.0 i 0) = search rules in f.fits } in
    let same : c.eq.result ≡ nat_eq (address c.args.session.peer.0) (address c.own.result.0) = c.eq.ensures ∙ address_same c.args.session.peer.0 c.own.result.0 peer own in
    search rules
