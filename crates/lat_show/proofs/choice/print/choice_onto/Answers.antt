use Rattle.std.proofs.Common.{◌≡◌, ℕ, ◌++◌, ◌∙◌, ap, length, get_or, string_bytes, Fits, w8, arith, rules}
use Rattle.std.proofs.lemmas.Grind.{common_steps}
use Rattle.hex.specs.Hex.{encode_lower}
use Rattle.lat_machines.specs.values.Addresses.{address}
use Rattle.lat_show.specs.choice.Printed.{low_bytes}
use Rattle.lat_show.proofs.choice.Stations.{station_printed}
use Rattle.lat_show.proofs.choice.print.choice_onto.Goals as goal

pub returns : goal.returns
returns c =
    let from = c.in-Some.best.from in
    let long : length from.0 ≡ 6 = search (rules, c.in-Some) in
    let small : (i : ℕ) → Fits w8 (get_or from.0 i 0) = λ i. search (rules, c.in-Some) in
    let printed : string_bytes c.address_onto.new.text ≡ string_bytes c.args.text.now ++ encode_lower (low_bytes 6 (address from.0)) =
    c.in_ok-address_onto.ensures ∙ ap (λ t. string_bytes c.args.text.now ++ t) (station_printed from long (λ i. (small i).fits)) in
    grind (arith, common_steps)
