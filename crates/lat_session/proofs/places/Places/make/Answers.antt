use Rattle.std.proofs.Common.{sym, subst, arith}
use Rattle.lat_session.specs.States.{AllFree}
use Rattle.lat_session.proofs.Reached.{all_blank}
use Rattle.lat_session.proofs.places.Places.make.Goals as goal

pub invariant_of-result : goal.invariant_of-result
invariant_of-result c = (omega arith, subst AllFree (sym c.in_ok-streams.ensures) (all_blank c.args.count c.args.ceiling))
