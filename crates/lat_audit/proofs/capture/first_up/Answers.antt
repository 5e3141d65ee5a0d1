use Rattle.std.proofs.Common.{◌≡◌, ◌≤◌, true, false, length, sym, ◌∙◌, arith, rules}
use Rattle.std.specs.Prelude.{is_some}
use Rattle.lat_wire.specs.Kept.{setups_of}
use Rattle.lat_audit.proofs.Posts.{SeenAt, seen_at, first_found, first_later, first_past}
use Rattle.lat_audit.proofs.capture.first_up.Goals as goal

pub returns-then-is_some : goal.returns-then-is_some
returns-then-is_some g c = λ w s.
    let some : is_some c.run_up-run.result ≡ true = search rules in
    let x : SeenAt w c.loop-index.index c.in-Some.by_server c.in-Some.frame = seen_at c.args.wire.now w c.loop-index.index _ _ s (c.in-Some.ensures.value w s) in
    first_found (setups_of c.args.wire.now) c.args.tap.now.circuit w.posts c.loop-index.index x.post c.run_up-run.result x.there
    (c.run_up-run.ensures (setups_of c.args.wire.now) x.post c.requires x.seen_as) some
    ∙ sym (c.loop-index.invariant w s)

pub loop-index-preserved : goal.loop-index-preserved
loop-index-preserved g c = λ w s.
    let none : is_some c.run_up-run.result ≡ false = search rules in
    let x : SeenAt w c.loop-index.index c.in-Some.by_server c.in-Some.frame = seen_at c.args.wire.now w c.loop-index.index _ _ s (c.in-Some.ensures.value w s) in
    c.loop-index.invariant w s
    ∙ first_later (setups_of c.args.wire.now) c.args.tap.now.circuit w.posts c.loop-index.index x.post c.run_up-run.result x.there
    (c.run_up-run.ensures (setups_of c.args.wire.now) x.post c.requires x.seen_as) none

pub returns : goal.returns
returns g c = λ w s.
    let past : length w.posts ≤ c.loop-index.index = omega (arith, c.loop-index-test.false, c.frames-index-end.ensures.value w s) in
    sym (c.loop-index.invariant w s ∙ first_past (setups_of c.args.wire.now) c.args.tap.now.circuit w.posts c.loop-index.index past)
