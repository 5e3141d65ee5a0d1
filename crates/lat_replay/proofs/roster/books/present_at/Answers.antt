use Rattle.std.proofs.Common.{◌+◌, sym, ◌∙◌, arith}
use Rattle.lat_machines.specs.world.Machines.{core_of}
use Rattle.lat_replay.specs.roster.Present.{IsPresent, NotOn}
use Rattle.lat_replay.proofs.roster.Present.{not_some, one_more_line}
use Rattle.lat_replay.proofs.roster.books.present_at.Goals as goal

pub loop-below-preserved : goal.loop-below-preserved
loop-below-preserved g c = record {
  within = omega (arith, c.loop-below-test.true);
  none = λ w line st one le.
      one_more_line (NotOn (core_of w c.args.server) c.args.number) c.loop-below.below line (λ n a b. c.loop-below.invariant.none w n st a b)
      (not_some c.present_on-found.result (NotOn (core_of w c.args.server) c.args.number (c.loop-below.below + 1)) (λ n. IsPresent (core_of w c.args.server) c.args.number n) (sym c.is_some.ensures ∙ c.if-is_some.false) (c.present_on-found.ensures.finds w st))
      one le;
}

pub returns-clause-finds : goal.returns-clause-finds
returns-clause-finds g c = λ w st line i. c.loop-below.invariant.none w line st i.0 (omega (arith, i.1, c.loop-below-test.false))
