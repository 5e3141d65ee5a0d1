use Rattle.std.proofs.Common.{◌≡◌, sym, get_or, Fits, w8, rules, arith}
use Rattle.lat_base.specs.Addresses.{addr_of}
use Rattle.lat_base.specs.declared.book.LineSession.{LineSession}
use Rattle.lat_machines.specs.values.Addresses.{address}
use Rattle.lat_machines.proofs.Addresses.{bytes_of_address}
use Rattle.lat_lines.proofs.getters.whom.Goals as goal

pub returns : goal.returns
returns c =
    let s : LineSession = c.args.session in
    let back : addr_of (address s.peer.0) ≡ s.peer =
    λ i. record { 0 = bytes_of_address s.peer.0 (omega arith) (λ n. let f : Fits w8 (get_or s.peer.0 n 0) = search rules in f.fits) i } in
    λ i. record { peer = sym back i; service = s.service; request = s.request }
