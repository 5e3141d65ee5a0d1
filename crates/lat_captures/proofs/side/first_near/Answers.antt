use Rattle.std.proofs.Common.{◌≡◌, ◌+◌, ◌∙◌, sym, arith, Bool, false, ◌&&◌, inl, inr, nat_le}
use Rattle.lat_captures.specs.Tests.{bears}
use Rattle.lat_captures.proofs.Finding.{finds_first, finds_later, finds_none, not_passed, passed}
use Rattle.lat_captures.proofs.side.first_near.Goals as goal
use Rattle.lat_captures.proofs.side.first_near.Goals.{else-bears-via-then-bears+else-floor-number, else-bears-via-else-bears}

pub loop-number-preserved : goal.loop-number-preserved
loop-number-preserved c =
    let n = c.loop-number.number in
    let b : Bool = bears c.args.wide c.args.field n in
    let fails : (b && nat_le c.args.floor n) ≡ false =
    elim c.else-bears.branch [
      | else-bears-via-then-bears+else-floor-number w ↦ not_passed b c.args.floor n (inr w.if-floor-number.false)
      | else-bears-via-else-bears w ↦ not_passed b c.args.floor n (inl (sym c.bears.ensures ∙ w.if-bears.false))
    ] in
    c.loop-number.invariant
    ∙ finds_later (λ n. bears c.args.wide c.args.field n && nat_le c.args.floor n) n (c.args.least + c.args.count) c.loop-number-test.true fails

pub returns-then-floor-number : goal.returns-then-floor-number
returns-then-floor-number c =
    let n = c.loop-number.number in
    let b : Bool = bears c.args.wide c.args.field n in
    sym (
    c.loop-number.invariant
    ∙ finds_first (λ n. bears c.args.wide c.args.field n && nat_le c.args.floor n) n (c.args.least + c.args.count) c.loop-number-test.true
    (passed b c.args.floor n (sym c.bears.ensures ∙ c.if-bears.true) c.if-floor-number.true)
    )

pub returns : goal.returns
returns c =
    sym (
    c.loop-number.invariant
    ∙ finds_none (λ n. bears c.args.wide c.args.field n && nat_le c.args.floor n) c.loop-number.number (c.args.least + c.args.count) (omega arith)
    )
