use Rattle.std.proofs.Common.{sym, ap, ◌∙◌, arith}
use Rattle.std.specs.Prelude.{slice_set}
use Rattle.std.proofs.lemmas.List.Edits.{map_over_more}
use Rattle.lat_switch.specs.Lines.{gives_way}
use Rattle.lat_switch.proofs.Lines.{over_none, over_all}
use Rattle.lat_switch.proofs.inner.give_way_each.Goals as goal

pub loop-line-preserved : goal.loop-line-preserved
loop-line-preserved c = λ m st.
    ap (slice_set c.loop-line.line-items c.loop-line.line-index) (c.give_way.ensures m st ∙ ap (gives_way m) (sym c.line-item.is))
    ∙ map_over_more (gives_way m) c.args.lines.now c.loop-line.line-items c.loop-line.line-index c.line-item.result (omega arith) (c.loop-line.invariant m st) c.line-item.is

pub loop-line-init : goal.loop-line-init
loop-line-init c = λ m st. over_none (gives_way m) c.args.lines.now

pub returns : goal.returns
returns c = λ m st. over_all (gives_way m) c.args.lines.now c.loop-line.line-items c.loop-line.line-index (omega arith) (c.loop-line.invariant m st)
