use Rattle.std.proofs.Common.{◌≤◌, ◌+◌, ◌-◌, ◌*◌, length}
use Rattle.lat_model.specs.Lists.{upwards}
use Rattle.lat_machines.specs.server.Server.{grant_lines}
use Rattle.lat_server.specs.Events.{Passes, IsShut}
use Rattle.lat_server.specs.Kept.{AtRest, SameConfig, Spends}
use Rattle.lat_server.proofs.server.ServerCore.grant_pass.Given as goal

abbrev pub invariant-loop-line : goal.invariant-loop-line
invariant-loop-line l = record {
  rest : AtRest l.self;
  spare : Spends 0 l.initial.self l.self;
  same : SameConfig l.initial.self l.self;
  shut : IsShut l.shut l.self;
  room : length l.out + 2 ≤ length l.initial.out + 2 * l.line;
  passes : Passes (λ config p. grant_lines config (upwards 0 (l.line - 1)) p) l.initial.self l.self l.initial.out l.out;
}
