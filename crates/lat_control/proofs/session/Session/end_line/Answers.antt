use Rattle.std.proofs.Common.{◌≡◌, [], ◌∷◌, ◌++◌, take, string_bytes, ap, ◌∙◌, subst, rules}
use Rattle.lat_control.specs.Answered.{Said}
use Rattle.lat_control.specs.Lines.{without_return}
use Rattle.lat_control.proofs.Answering.{one_more}
use Rattle.lat_control.proofs.KeptLines.{said_kept}
use Rattle.lat_control.proofs.session.Session.end_line.Goals as goal

pub returns-clause-owed : goal.returns-clause-owed
returns-clause-owed g c =
    let says = g.A.Answers.says in
    let text = string_bytes c.in_ok-text.text in
    let line : c.without_return-line.result.now ≡ without_return c.self.inside.kept.items = c.without_return-line.ensures ∙ ap without_return c.as_slice.ensures.value in
    let said : Said says (without_return c.self.inside.kept.items) text = subst (λ w. Said says w text) line c.in_ok-text.ensures in
    let begun : c.self.inside.begun.items ≡ c.args.self.now.begun = search rules in
    let owed : c.owe.new.owed.items ≡ c.args.self.now.owed ++ (text ++ 10 ∷ []) = search rules in
    one_more says (without_return c.args.self.now.begun) text c.args.self.now.owed _
    (said_kept says c.self.inside.kept.items c.args.self.now.begun text (c.self.invariant ∙ ap (λ w. take 258 w) begun) said) owed
