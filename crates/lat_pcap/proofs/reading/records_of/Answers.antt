use Rattle.std.proofs.Common.{◌≡◌, ◌+◌, ◌-◌, eqb, true, false, length, drop, ap, ◌∙◌, refl, arith}
use Rattle.std.proofs.lemmas.Bool.Decides.{nat_tests}
use Rattle.std.proofs.lemmas.List.{length-drop}
use Rattle.lat_pcap.specs.declared.contents.Contents.{Contents}
use Rattle.lat_pcap.specs.Texts.{frame_in, raw}
use Rattle.lat_pcap.specs.Held.{added}
use Rattle.lat_pcap.proofs.Loop.{ends, stops, more, over, added_few, added_right}
use Rattle.lat_pcap.proofs.reading.records_of.Goals as goal

pub returns-then-at-bytes : goal.returns-then-at-bytes
returns-then-at-bytes c =
    let body = c.args.bytes.now in
    let n = length body + 1 - c.loop.counter in
    let left = length-drop c.loop.at body in
    let none : eqb (length (drop c.loop.at body)) 0 ≡ true = grind (arith, nat_tests) in
    ends c.loop.contents (n - 1) n c.args.head c.loop.at (drop c.loop.at body) _ c.loop.invariant.same (omega (arith, c.loop-test.true)) none c.loop.invariant.right

pub returns-in-Err : goal.returns-in-Err
returns-in-Err c =
    let body = c.args.bytes.now in
    let n = length body + 1 - c.loop.counter in
    let left = length-drop c.loop.at body in
    let some : eqb (length (drop c.loop.at body)) 0 ≡ false = grind (arith, nat_tests) in
    stops c.loop.contents (n - 1) n c.args.head c.loop.at (drop c.loop.at body) c.in-Err.wrong _ c.loop.invariant.same (omega (arith, c.loop-test.true)) some c.in-Err.ensures.gives

pub loop-preserved : goal.loop-preserved
loop-preserved c =
    let body = c.args.bytes.now in
    let n = length body + 1 - c.loop.counter in
    let k = length body + 1 - (c.loop.counter + 1) in
    let left = length-drop c.loop.at body in
    let some : eqb (length (drop c.loop.at body)) 0 ≡ false = grind (arith, nat_tests) in
    let stamp = c.in-Ok.stamp in
    let r = raw stamp.seconds stamp.fraction stamp.whole c.in-Ok.data.now in
    let found = frame_in c.args.head.precision r in
    let now : c.add.new.self ≡ added c.loop.contents found = c.in_ok-add-in-Ok.ensures ∙ ap (added c.loop.contents) c.in_ok-frame_of-in-Ok.ensures in
    record {
      same = rw now (more c.loop.contents k n c.args.head c.loop.at (drop c.loop.at body) r c.in-Ok.behind (drop c.in-Ok.behind body) _
          c.loop.invariant.same (omega (arith, c.loop-test.true)) some c.in-Ok.ensures.gives);
      within = c.in-Ok.ensures.within;
      end_is = refl;
      right = ap (λ (a : Contents). a.wrong) now ∙ added_right c.loop.contents found ∙ c.loop.invariant.right;
      few = rw now (added_few c.loop.contents found c.loop.counter c.loop.invariant.few);
    }

pub returns : goal.returns
returns c =
    let body = c.args.bytes.now in
    let n = length body + 1 - c.loop.counter in
    over c.loop.contents n c.args.head c.loop.at (drop c.loop.at body) _ c.loop.invariant.same (omega (arith, c.loop-test.false)) c.loop.invariant.right
