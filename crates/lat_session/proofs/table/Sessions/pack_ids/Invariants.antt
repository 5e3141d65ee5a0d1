use Rattle.std.proofs.Common.{◌≡◌, ◌+◌, ◌-◌, ◌≤◌, ℕ, List, map, length}
use Rattle.lat_model.specs.Lists.{upwards}
use Rattle.lat_model.specs.sessions.Packing.{Packing, turn_all}
use Rattle.lat_session.specs.Packed.{Packed, NoRejects}
use Rattle.lat_session.specs.Table.{SameEnd}
use Rattle.lat_session.proofs.table.Sessions.pack_ids.Given as goal

abbrev pub invariant-loop-at : goal.invariant-loop-at
invariant-loop-at l =
    ((before : List ℕ) (p : Packing) → Packed before l.initial.self l.initial.progress l.initial.out p → NoRejects p → Packed before l.self l.progress l.out (turn_all (map p.after.at_id (upwards l.from (l.at - l.from))) p))
    × (length l.initial.out ≤ length l.out)
    × (length l.out + l.progress.room ≡ length l.initial.out + l.initial.progress.room)
    × (l.from ≤ l.at)
    × (l.at ≤ l.to)
    × SameEnd l.initial.self l.self
