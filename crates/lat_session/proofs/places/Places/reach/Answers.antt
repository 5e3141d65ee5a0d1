use Rattle.std.proofs.Common.{◌≡◌, ◌<◌, ap, arith, length, slice_set, length-set}
use Rattle.lat_session.proofs.Reached.{free_behind}
use Rattle.lat_session.proofs.places.Places.reach.Goals as goal

pub invariant_of-self-lent : goal.invariant_of-self-lent
invariant_of-self-lent c = λ w.
    let all = c.self.inside.all.items in
    let at : c.args.at < length all = omega (arith, c.requires, ap length c.self.view_is) in
    let size : length (slice_set all c.args.at w) ≡ length all = length-set all c.args.at w in (
      omega (arith, size, at, c.max-self-inside.ensures, c.self.invariant.0),
      free_behind all c.self.inside.reached c.max-self-inside.result c.args.at w (omega (arith, c.max-self-inside.ensures)) (omega (arith, c.max-self-inside.ensures)) c.self.invariant.1,
    )
