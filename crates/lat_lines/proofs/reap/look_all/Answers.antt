use Rattle.std.proofs.Common.{◌<◌, length, sym, subst, arith}
use Rattle.lat_lines.specs.Looks.{Looks}
use Rattle.lat_lines.proofs.Lists.{rest_same, zip_more}
use Rattle.lat_lines.proofs.reap.look_all.Goals as goal

pub loop-seat-preserved : goal.loop-seat-preserved
loop-seat-preserved c =
    let xs = c.args.seats.now in
    let ys = c.loop-seat.seats in
    let i = c.loop-seat.seat-index in
    let inside : i < length ys = omega arith in
    let within : i < length xs = omega (arith, c.loop-seat.auto.seats) in
    let looked = subst (λ s. Looks c.args.circuits.now s c.look.new.self) (sym c.seat-item.is) c.look.ensures in
    record {
      looked = zip_more (Looks c.args.circuits.now) xs ys i c.seat-item.result c.look.new.self within inside c.loop-seat.invariant.rest c.seat-item.is c.loop-seat.invariant.looked looked;
      rest = rest_same xs ys i c.look.new.self within inside c.loop-seat.invariant.rest;
    }
