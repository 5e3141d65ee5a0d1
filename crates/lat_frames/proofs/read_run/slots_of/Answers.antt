use Rattle.std.proofs.Common.{◌≡◌, ℕ, ◌+◌, ◌-◌, drop, ap, ◌∙◌, arith}
use Rattle.lat_frames.specs.Reading.{slots_at}
use Rattle.lat_frames.proofs.SlotsLoop.{none_yet, goes_on}
use Rattle.lat_frames.proofs.read_run.slots_of.Goals as goal

pub loop-init : goal.loop-init
loop-init c =
    let bytes = drop c.args.place c.args.payload.now in
    let all : c.args.count - 0 ≡ c.args.count = omega arith in
    record {
      same = rw c.new-slots.ensures (none_yet (slots_at (c.args.count - 0) c.args.place bytes) ∙ ap (λ (n : ℕ). slots_at n c.args.place bytes) all);
      within = c.requires.0;
    }

pub loop-preserved : goal.loop-preserved
loop-preserved c =
    let bytes = c.args.payload.now in
    let n = c.args.count - c.loop.counter in
    let k = c.args.count - (c.loop.counter + 1) in
    let next = c.in_ok-slot.behind in
    record {
      same = rw c.in_ok-push.ensures.ok (goes_on c.loop.slots k n c.loop.at (drop c.loop.at bytes) c.in_ok-slot.slot next (drop next bytes) _
          c.loop.invariant.same (omega arith) c.in_ok-slot.ensures.exact);
      within = c.in_ok-slot.ensures.within;
    }
