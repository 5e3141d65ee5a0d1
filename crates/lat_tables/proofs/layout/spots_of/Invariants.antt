use Rattle.std.proofs.Common.{◌≡◌, ◌++◌, ◌-◌}
use Rattle.lat_log.specs.Sights.{gathered, one}
use Rattle.lat_tables.specs.Tables.{Sheet, spot_at, spots}
use Rattle.lat_tables.proofs.layout.spots_of.Given as goal

abbrev pub invariant-loop-at : goal.invariant-loop-at
invariant-loop-at l =
    let t : Sheet = record { columns = l.columns; rows = l.rows } in
    l.list.items ++ gathered (one (spot_at t)) l.at (l.count - l.at) ≡ spots t
