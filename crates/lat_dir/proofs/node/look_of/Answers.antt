use Rattle.std.proofs.Common.{◌≡◌, sym, get_or, Fits, w8, rules, arith}
use Rattle.lat_base.specs.Addresses.{addr_of}
use Rattle.lat_machines.specs.values.Addresses.{address}
use Rattle.lat_machines.proofs.Addresses.{bytes_of_address}
use Rattle.lat_dir.proofs.node.look_of.Goals as goal

pub returns : goal.returns
returns c =
    let back : addr_of (address c.args.from.0) ≡ c.args.from =
    λ i. record { 0 = bytes_of_address c.args.from.0 (omega arith) (λ n. let f : Fits w8 (get_or c.args.from.0 n 0) = search rules in f.fits) i } in
    λ i. record { name = c.args.name; from = sym back i; services = c.args.services; until = c.told.ensures i }
