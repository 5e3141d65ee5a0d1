use Rattle.std.proofs.Common.{◌∙◌, get_or, Fits, w8, rules, arith}
use Rattle.lat_dir.proofs.Addresses.{IsStation, address_same}
use Rattle.lat_dir.proofs.node.are_one.Goals as goal

pub returns : goal.returns
returns c =
    let one : IsStation c.args.a.0 = record { long = omega arith; small = λ i. let f : Fits w8 (get_or c.args.a.0 i 0) = search rules in f.fits } in
    let two : IsStation c.args.b.0 = record { long = omega arith; small = λ i. let f : Fits w8 (get_or c.args.b.0 i 0) = search rules in f.fits } in
    c.eq.ensures ∙ address_same c.args.a.0 c.args.b.0 one two
