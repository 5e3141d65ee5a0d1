use Rattle.std.proofs.Common.{◌≡◌, ℕ, List, false, length, ◌++◌, string_bytes, OnOk, sym, subst, rules}
use Rattle.std.specs.Prelude.{◌==◌}
use Rattle.lat_wire.proofs.report.Items.{some_items}
use Rattle.lat_wire.proofs.report.rows.items_onto.Goals as goal

pub returns : goal.returns
returns c =
    let items = c.args.items.now in
    let some : (length items == 0) ≡ false = search rules in
    subst (λ (t : List ℕ). OnOk c.each_onto.result (string_bytes c.each_onto.new.text ≡ string_bytes c.args.text.now ++ t)) (sym (some_items items some)) c.each_onto.ensures
