use Rattle.std.proofs.Common.{◌≡◌, ◌-◌, ◌≤◌, vec_len}
use Rattle.lat_cmd.specs.generate.Draws.{so_many}
use Rattle.lat_cmd.proofs.generate.Bytes.{behind}
use Rattle.lat_cmd.proofs.generate.generator.Generator.bytes.Given as goal

abbrev pub invariant-loop-drawn : goal.invariant-loop-drawn
invariant-loop-drawn l = record {
  drawn : so_many l.count l.initial.self ≡ behind l.drawn.items (so_many (l.count - vec_len l.drawn) l.self);
  few : vec_len l.drawn ≤ l.count;
  moment : l.self.moment ≡ l.initial.self.moment;
}

abbrev pub decreases-loop-drawn : goal.decreases-loop-drawn
decreases-loop-drawn l = l.count - vec_len l.drawn
