use Rattle.std.proofs.Common.{◌≡◌, ◌≤◌, ◌+◌, ◌*◌}
use Rattle.lat_cmd.specs.generate.Grown.{begun, turns}
use Rattle.lat_cmd.specs.generate.Growths.{StandsFor}
use Rattle.lat_cmd.proofs.generate.texts.grown.Given as goal

abbrev pub invariant-loop : goal.invariant-loop
invariant-loop g l = record {
  shows : StandsFor l.growth (turns l.counter (begun l.seed));
  writes : l.growth.writes ≡ l.writes;
  events : l.growth.events ≤ l.counter + 2;
  moment : l.growth.generator.moment ≤ 80 * l.counter;
}
