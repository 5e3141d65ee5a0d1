use Rattle.std.proofs.Common.{◌≡◌, ℕ, List, ◌++◌, string_bytes, subst, ◌∙◌}
use Rattle.std.specs.Prelude.{OnOk, codes}
use Rattle.lat_record.proofs.opening_text.node_groups_onto.Goals as goal

pub returns : goal.returns
returns c =
    subst (λ (digits : List ℕ). OnOk c.digits_onto.result (string_bytes c.digits_onto.new.text ≡ string_bytes c.args.text.now ++ (codes "node-groups " ++ (digits ++ codes "\n"))))
    (c.as_str.ensures.value ∙ c.in_ok-digits.ensures) c.digits_onto.ensures
