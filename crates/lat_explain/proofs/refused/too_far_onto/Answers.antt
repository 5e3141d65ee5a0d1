use Rattle.std.proofs.Common.{◌≡◌, ℕ, List, OnOk, string_bytes, subst}
use Rattle.std.specs.Prelude.{codes}
use Rattle.lat_explain.specs.RefusedExplained.{said}
use Rattle.lat_explain.proofs.Pieces.{three_pieces}
use Rattle.lat_explain.proofs.refused.too_far_onto.Goals as goal

pub returns : goal.returns
returns c =
    let all = three_pieces (string_bytes c.args.told.now) (string_bytes c.said_onto.new.told) (string_bytes c.said_onto-2.new.told)
    (said (codes "a frame whose ") c.args.which.now) (said (codes " isn't too far behind ") c.args.last.now) (said (codes " expected, found ") c.args.number.now)
    c.in_ok-said_onto.ensures c.in_ok-said_onto-2.ensures in
    subst (λ (t : List ℕ). OnOk c.said_onto-3.result (string_bytes c.said_onto-3.new.told ≡ t)) all c.said_onto-3.ensures
