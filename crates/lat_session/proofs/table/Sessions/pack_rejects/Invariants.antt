use Rattle.std.proofs.Common.{◌≡◌, ◌+◌, ◌≤◌, ℕ, List, length, take, drop}
use Rattle.lat_model.specs.sessions.Packing.{Packing, turn_all}
use Rattle.lat_session.specs.Packed.{Packed, open_serials}
use Rattle.lat_session.specs.Table.{SameEnd}
use Rattle.lat_session.proofs.table.Sessions.pack_rejects.Given as goal

abbrev pub invariant-loop : goal.invariant-loop
invariant-loop l =
    ((before : List ℕ) (p : Packing) → Packed before l.initial.self l.initial.progress l.initial.out p →
    Packed before l.self l.progress l.out (turn_all (take l.counter (open_serials p.after)) p)
    × (drop l.at (open_serials (turn_all (take l.counter (open_serials p.after)) p).after) ≡ drop l.counter (open_serials p.after)))
    × (length l.initial.out ≤ length l.out)
    × (length l.out + l.progress.room ≡ length l.initial.out + l.initial.progress.room)
    × (length l.self.asks + l.counter ≡ l.end + l.at)
    × (l.at ≤ l.counter)
    × (l.end ≡ length l.initial.self.asks)
    × SameEnd l.initial.self l.self
