use Rattle.std.proofs.Common.{◌≡◌, ◌+◌, ◌-◌, [], ◌∷◌, ◌++◌, length, sym, ap, ◌∙◌, arith, rules}
use Rattle.lat_log.specs.Sights.{gathered, one}
use Rattle.lat_log.proofs.Gathered.{full, one_more}
use Rattle.lat_tables.specs.Tables.{Sheet, spot_at}
use Rattle.lat_tables.proofs.layout.spots_of.Goals as goal

pub loop-at-preserved : goal.loop-at-preserved
loop-at-preserved c =
    let t : Sheet = record { columns = c.args.columns.now; rows = c.args.rows.now } in
    let pushed : c.push.new.self.items ≡ c.loop-at.list.items ++ c.in_ok-spot.spot ∷ [] = search rules in
    ap (λ xs. xs ++ gathered (one (spot_at t)) (c.loop-at.at + 1) (length c.args.columns.now - (c.loop-at.at + 1))) pushed
    ∙ one_more (spot_at t) c.loop-at.at (length c.args.columns.now) c.loop-at.list.items c.in_ok-spot.spot _ c.loop-at-test.true (sym c.in_ok-spot.ensures) c.loop-at.invariant

pub returns : goal.returns
returns c =
    let t : Sheet = record { columns = c.args.columns.now; rows = c.args.rows.now } in
    full (one (spot_at t)) c.loop-at.at (length c.args.columns.now) c.loop-at.list.items _ (omega (arith, c.loop-at-test.false)) c.loop-at.invariant
