use Rattle.std.proofs.Common.{◌≡◌, true, false, arith}
use Rattle.lat_frames.proofs.EachSlot.{room_at}
use Rattle.lat_frames.proofs.check.slots_fit.Goals as goal

pub returns-then-len-left : goal.returns-then-len-left
returns-then-len-left c =
    let room = room_at c.args.slots.now c.loop-slot.slot-index c.slot-item.result c.loop-slot-test.true c.slot-item.is in
    (λ no. absurd (let h : false ≡ true = no in cc), λ p. absurd (omega (arith, room, c.loop-slot.invariant.left, c.slot_len-len.ensures, c.if-len-left.true, p.1)))
