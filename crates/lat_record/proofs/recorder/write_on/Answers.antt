use Rattle.std.proofs.Common.{◌≡◌, ◌+◌, ◌++◌, take, sym, ap, ◌∙◌, append_assoc, arith}
use Rattle.std.proofs.Math.Seq.{take-add}
use Rattle.lat_outside.proofs.Told.{appends_more}
use Rattle.lat_record.proofs.recorder.write_on.Goals as goal

pub loop-at-preserved : goal.loop-at-preserved
loop-at-preserved g c =
    let written = g.K.Sink.written in
    let bytes = c.args.bytes.now in
    let at = c.loop-at.at in
    let n = c.in_ok-n.n in
    let e = c.in_ok-n.ensures in
    let rest = c.split_at.result.1.now in
    let more : take at bytes ++ take n rest ≡ take (at + n) bytes = ap (λ r. take at bytes ++ take n r) c.split_at.ensures.back ∙ sym (take-add at n bytes) in
    record {
      within = omega (arith, e.bound, c.split_at.ensures.back_len);
      text =
          c.tell_front.ensures
          ∙ ap (λ t. t ++ take n rest) c.loop-at.invariant.text
          ∙ append_assoc c.args.text.now.items (take at bytes) (take n rest)
          ∙ ap (λ t. c.args.text.now.items ++ t) more;
      written = appends_more (written c.args.file.now) (written c.loop-at.file) (written c.write.new.self) (take at bytes) (take n rest) (take (at + n) bytes) c.loop-at.invariant.written e.bytes more;
      later = omega (arith, c.loop-at.invariant.later, e.cause.later);
    }
