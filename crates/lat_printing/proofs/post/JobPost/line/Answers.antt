use Rattle.std.proofs.Common.{◌≡◌, ◌+◌, ◌≤◌, sym, ap, ◌∙◌, arith}
use Rattle.std.specs.Prelude.{true}
use Rattle.std.proofs.lemmas.Bool.Decides.{nat_tests}
use Rattle.lat_history.specs.History.{state_of}
use Rattle.lat_printing.specs.Posts.{is_of}
use Rattle.lat_printing.proofs.Scans.{first_line}
use Rattle.lat_printing.proofs.post.JobPost.line.Goals as goal

pub returns-then-is_of : goal.returns-then-is_of
returns-then-is_of g c =
    let m = g.C.Core in
    let who = m.correspondent_of (state_of m.opening m.next c.args.cell.now) in
    let post = c.args.self.now in
    let k = c.loop-before.before in
    let here : is_of post c.args.number (who (k + 1)) ≡ true = ap (is_of post c.args.number) (sym c.correspondent.ensures) ∙ sym c.is_of.ensures ∙ c.if-is_of.true in
    let test = c.loop-before-test.true in
    let end = c.loop-before.invariant.1 in
    let within : k + 1 ≤ post.lines = grind (arith, nat_tests) in
    sym (first_line who post c.args.number k post.lines c.loop-before.invariant.0 here within)
