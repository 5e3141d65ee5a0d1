use Rattle.std.proofs.Common.{◌≤◌, ◌++◌, length, ap, ◌∙◌, subst, arith, string_bytes}
use Rattle.std.proofs.lemmas.List.{take_all}
use Rattle.lat_model.specs.Lists.{Each}
use Rattle.lat_machines.specs.world.Machines.{Posted}
use Rattle.lat_audit.specs.Printed.{GoesOut}
use Rattle.lat_wire.specs.Kept.{setups_of}
use Rattle.lat_audit.specs.Tapped.{captured_lines}
use Rattle.lat_audit.proofs.Posts.{SeenAt, seen_at}
use Rattle.lat_audit.proofs.Lines.{lines_more, all_more}
use Rattle.lat_audit.proofs.Legal.{goes_out}
use Rattle.lat_audit.proofs.capture.entries_onto.Goals as goal

pub loop-index-preserved : goal.loop-index-preserved
loop-index-preserved g c = record {
  text = λ w s.
      let x : SeenAt w c.loop-index.index c.in-Some.by_server c.in-Some.frame = seen_at c.args.wire.now w c.loop-index.index _ _ s (c.in-Some.ensures.value w s) in
      lines_more (setups_of c.args.wire.now) c.args.tap.now.circuit c.args.slave w.posts c.loop-index.index x.post (string_bytes c.args.text.now) (string_bytes c.loop-index.text) (string_bytes c.frame_onto.new.text)
      x.there (c.loop-index.invariant.text w s)
      (c.in_ok-frame_onto.ensures.text (setups_of c.args.wire.now) x.post c.requires x.seen_as);
  bytes = λ w s.
      let x : SeenAt w c.loop-index.index c.in-Some.by_server c.in-Some.frame = seen_at c.args.wire.now w c.loop-index.index _ _ s (c.in-Some.ensures.value w s) in
      all_more w.posts c.loop-index.index x.post x.there (goes_out _ _ x.post x.seen_as c.in_ok-frame_onto.ensures.bytes) (c.loop-index.invariant.bytes w s);
}

pub returns-clause-text : goal.returns-clause-text
returns-clause-text g c = λ w s.
    let past : length w.posts ≤ c.loop-index.index = omega (arith, c.loop-index-test.false, c.frames-index-end.ensures.value w s) in
    c.loop-index.invariant.text w s
    ∙ ap (λ xs. string_bytes c.args.text.now ++ captured_lines (setups_of c.args.wire.now) c.args.tap.now.circuit c.args.slave xs) (take_all c.loop-index.index w.posts past)

pub returns-clause-bytes : goal.returns-clause-bytes
returns-clause-bytes g c = λ w s.
    let past : length w.posts ≤ c.loop-index.index = omega (arith, c.loop-index-test.false, c.frames-index-end.ensures.value w s) in
    subst (Each (λ (x : Posted). GoesOut x.frame)) (take_all c.loop-index.index w.posts past) (c.loop-index.invariant.bytes w s)
