use Rattle.std.proofs.Common.{◌≡◌, ◌++◌, sym, subst, arith, string_bytes}
use Rattle.std.proofs.lemmas.List.{append-nil}
use Rattle.lat_rerun.specs.RowText.{rows_of}
use Rattle.lat_rerun.proofs.RowByRow.{rows_more}
use Rattle.lat_rerun.proofs.rows.rows_onto.Goals as goal

pub loop-k-init : goal.loop-k-init
loop-k-init g c = λ s here. sym (append-nil (string_bytes c.args.text.now))

pub loop-k-preserved : goal.loop-k-preserved
loop-k-preserved g c = λ s here.
    rows_more (g.C.Core.look_of s) c.loop-k.k c.look.result (string_bytes c.args.text.now) (string_bytes c.loop-k.text) (string_bytes c.row_onto.new.text)
    (c.loop-k.invariant s here) (c.look.ensures.state s here) c.in_ok-row_onto.ensures

pub returns : goal.returns
returns g c = λ s here.
    let all : c.loop-k.k ≡ c.args.lines = omega (arith, c.loop-k-test.false, c.loop-k.auto.k-end) in
    subst (λ n. string_bytes c.loop-k.text ≡ string_bytes c.args.text.now ++ rows_of (g.C.Core.look_of s) n) all (c.loop-k.invariant s here)
