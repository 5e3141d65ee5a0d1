use Rattle.std.proofs.Common.{◌∙◌, arith}
use Rattle.lat_cmd.specs.generate.Grown.{begun, turns}
use Rattle.lat_cmd.proofs.generate.Growing.{shown, turn_more, no_turn, grown_so}
use Rattle.lat_cmd.proofs.generate.texts.grown.Goals as goal

pub loop-init : goal.loop-init
loop-init g c = record {
  shows = no_turn c.in_ok-growth.growth (begun c.args.seed) c.in_ok-growth.ensures.shows;
  writes = c.in_ok-growth.ensures.start.2;
  events = omega (arith, c.in_ok-growth.ensures.start.0);
  moment = omega (arith, c.in_ok-growth.ensures.start.1);
}

pub turn-requires-clause-service : goal.turn-requires-clause-service
turn-requires-clause-service g c = (shown c.loop.growth (turns c.loop.counter (begun c.args.seed)) c.loop.invariant.shows).service

pub loop-preserved : goal.loop-preserved
loop-preserved g c = record {
  shows = turn_more c.loop.growth c.turn.new.self c.loop.counter (begun c.args.seed) c.loop.invariant.shows c.in_ok-turn.ensures.shows;
  writes = c.in_ok-turn.ensures.writes ∙ c.loop.invariant.writes;
  events = omega (arith, c.in_ok-turn.ensures.events, c.loop.invariant.events);
  moment = omega (arith, c.in_ok-turn.ensures.moment, c.loop.invariant.moment);
}

pub returns-clause-shows : goal.returns-clause-shows
returns-clause-shows g c = grown_so c.loop.growth c.loop.counter c.args.seed (omega arith) c.loop.invariant.shows
