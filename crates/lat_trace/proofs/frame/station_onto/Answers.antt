use Rattle.std.proofs.Common.{◌≡◌, ◌++◌, ℕ, List, length, get_or, string_bytes, subst, Fits, w8, rules}
use Rattle.std.specs.Prelude.{OnOk}
use Rattle.lat_trace.proofs.Stations.{station_printed}
use Rattle.lat_trace.proofs.frame.station_onto.Goals as goal

pub returns : goal.returns
returns c =
    let long : length c.args.station.0 ≡ 6 = search (rules, c.args) in
    let small : (i : ℕ) → Fits w8 (get_or c.args.station.0 i 0) = λ i. search (rules, c.args) in
    subst (λ (z : List ℕ). OnOk c.address_onto.result (string_bytes c.address_onto.new.text ≡ string_bytes c.args.text.now ++ z))
    (station_printed c.args.station long (λ i. (small i).fits)) c.address_onto.ensures
