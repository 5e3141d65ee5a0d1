use Rattle.std.proofs.Common.{◌≤◌, length, ap, ◌∙◌, sym, subst, List, ℕ, drop}
use Rattle.lat_printing.proofs.Bytes.{hand_took}
use Rattle.lat_printing.proofs.hand.Hand.took.Goals as goal

pub returns : goal.returns
returns c =
    let a = c.self.inside in
    let P : List ℕ → Type 0 = λ xs. c.args.count ≤ length xs in
    hand_took a.buf a.at a.end c.args.count (subst P (sym c.self.view_is) c.requires) ∙ ap (drop c.args.count) c.self.view_is
