use Rattle.std.proofs.Common.{◌≡◌, ◌≤◌, ◌+◌, ◌-◌, suc}
use Rattle.lat_machines.specs.world.Machines.{Setups, Machines}
use Rattle.lat_laws.specs.tales.Rows.{RowsAfter}
use Rattle.lat_wire.specs.Kept.{setups_of}
use Rattle.lat_wire.specs.Stands.{Stands}
use Rattle.lat_replay.specs.roster.Following.{LeadsTo}
use Rattle.lat_replay.specs.roster.Reserved.{HasPlaces}
use Rattle.lat_replay.proofs.roster.sessions.follow_all.Given as goal

abbrev pub invariant-loop-turn : goal.invariant-loop-turn
invariant-loop-turn g l = record {
  within : l.turn ≤ l.count;
  places : HasPlaces (l.count - l.turn) l.roster;
  leads : (u : Setups) (x : Machines) (target : RowsAfter) → setups_of l.wire ≡ u → Stands l.wire x → LeadsTo u x l.server (suc l.before) l.count target l.initial.roster → LeadsTo u x l.server (suc (l.before + l.turn)) (l.count - l.turn) target l.roster;
}
