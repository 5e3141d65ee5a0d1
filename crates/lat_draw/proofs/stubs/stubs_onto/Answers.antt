use Rattle.std.proofs.Common.{◌≡◌, ◌≤◌, ◌+◌, ◌++◌, length, ap, ◌∙◌, string_bytes, arith}
use Rattle.lat_trace.specs.Shown.{between}
use Rattle.lat_wire.specs.Kept.{frame_count}
use Rattle.lat_wire.proofs.Refusing.{posts_length}
use Rattle.lat_draw.specs.Events.{stubs_drawn}
use Rattle.lat_draw.proofs.Stubbing.{stubs_more, stubs_none, rows_more, rows_none}
use Rattle.lat_draw.proofs.stubs.stubs_onto.Goals as goal

pub loop-number-init : goal.loop-number-init
loop-number-init g c = record {
  row = λ played are. rows_none played c.args.row c.args.entry.now.first;
  text = λ w events played s all drawn. stubs_none events played (c.args.row + 1) c.args.entry.now.first w.posts (string_bytes c.args.text.now);
  low = omega arith;
}

pub loop-number-preserved : goal.loop-number-preserved
loop-number-preserved g c =
    let i = c.loop-number.invariant in
    let first = c.args.entry.now.first in
    record {
      row = λ played are. rows_more played c.args.row c.loop-number.row first c.loop-number.number _ i.low (i.row played are) (c.in_ok-last.ensures.row played are);
      text = λ w events played s all drawn.
          let many : frame_count c.args.wire.now ≡ length w.posts = posts_length c.args.wire.now.book.log.posts w.posts s.parts.book.posts in
          let within : c.loop-number.number ≤ length w.posts = omega (arith, many) in
          stubs_more events played c.args.row c.loop-number.row first c.loop-number.number w.posts (string_bytes c.args.text.now) (string_bytes c.loop-number.text) _ i.low within
          (i.row played drawn) (i.text w events played s all drawn) (c.in_ok-last.ensures.text w events played s all drawn);
      low = omega arith;
    }

pub returns : goal.returns
returns g c = λ w events played s all drawn.
    c.loop-number.invariant.text w events played s all drawn
    ∙ ap (λ n. string_bytes c.args.text.now ++ stubs_drawn events played (c.args.row + 1) c.args.entry.now.first (between c.args.entry.now.first n w.posts)) (omega arith)
