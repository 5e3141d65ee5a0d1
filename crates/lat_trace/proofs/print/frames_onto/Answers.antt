use Rattle.std.proofs.Common.{◌≡◌, sym, subst, arith, add-one, ◌++◌}
use Rattle.std.specs.Prelude.{string_bytes}
use Rattle.lat_wire.specs.Told.{ShowsPost}
use Rattle.lat_trace.specs.Shown.{between}
use Rattle.lat_trace.specs.TraceText.{frames_text}
use Rattle.lat_trace.proofs.Framing.{frames_more, frames_none}
use Rattle.lat_trace.proofs.print.frames_onto.Goals as goal

pub loop-number-init : goal.loop-number-init
loop-number-init g c = record {
  text = λ w events s counts. frames_none events c.args.entry.now.first w.posts (string_bytes c.args.text.now);
  low = omega arith;
}

pub loop-number-preserved : goal.loop-number-preserved
loop-number-preserved g c = record {
  text = λ w events s counts.
      let first = c.args.entry.now.first in
      let number = c.loop-number.number in
      let sent : ShowsPost w.posts number c.in-Some.by_server c.in-Some.frame = c.in-Some.ensures.value w s in
      subst (λ n. string_bytes c.frame_onto.new.text ≡ string_bytes c.args.text.now ++ frames_text events first (between first n w.posts)) (sym (add-one number))
      (frames_more events first number w.posts sent.post (string_bytes c.args.text.now) (string_bytes c.loop-number.text) (string_bytes c.frame_onto.new.text) c.loop-number.invariant.low sent.is
      (c.loop-number.invariant.text w events s counts) (c.in_ok-frame_onto.ensures events sent.post (c.at.ensures events counts) sent.side sent.frame));
  low = omega (arith, c.loop-number.invariant.low);
}

pub returns : goal.returns
returns g c = λ w events s counts.
    let first = c.args.entry.now.first in
    let all : c.loop-number.number ≡ c.args.entry.now.behind = omega (arith, c.loop-number-test.false, c.loop-number.auto.number-end c.requires.within.0) in
    subst (λ n. string_bytes c.loop-number.text ≡ string_bytes c.args.text.now ++ frames_text events first (between first n w.posts)) all (c.loop-number.invariant.text w events s counts)
