use Rattle.std.proofs.Common.{◌+◌, ◌-◌, drop, arith}
use Rattle.lat_notices.proofs.ServicesLoop.{goes_on}
use Rattle.lat_notices.proofs.read_services.services_of.Goals as goal

pub loop-preserved : goal.loop-preserved
loop-preserved c =
    let bytes = c.args.bytes.now in
    let n = c.args.count - c.loop.counter in
    let k = c.args.count - (c.loop.counter + 1) in
    let next = c.in_ok-service.behind in
    record {
      same = rw c.in_ok-push.ensures.ok (goes_on c.loop.services k n c.loop.at (drop c.loop.at bytes) c.in_ok-service.service next (drop next bytes) _ c.loop.invariant.same (omega arith) c.in_ok-service.ensures.gives);
      within = c.in_ok-service.ensures.within;
    }
