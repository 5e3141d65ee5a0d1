use Rattle.std.proofs.Common.{◌≡◌, ◌+◌, length, take}
use Rattle.std.proofs.lemmas.List.{length-take-le}
use Rattle.lat_slots.proofs.Places.{body_is}
use Rattle.lat_slots.proofs.read.behind_head.Goals as goal

pub returns : goal.returns
returns c =
    let bytes = c.args.payload.now in
    let at = c.args.at in
    let n = c.args.head.count in
    let len : length (take (at + 4 + n) bytes) ≡ at + 4 + n = length-take-le (at + 4 + n) bytes c.requires.room.0 in
    rw (body_is bytes at n, len) at c.body_of.ensures
