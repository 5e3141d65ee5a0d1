use Rattle.std.proofs.Common.{sym, subst}
use Rattle.lat_replay.specs.roster.Roster.{ShowsRows}
use Rattle.lat_replay.proofs.Reported.{counted}
use Rattle.lat_replay.proofs.counts.counts_of.Goals as goal

pub returns : goal.returns
returns g c = λ w k s h sh.
    counted c.args.wire.now w k c.rows-rows.result.now c.frames.result c.put_in.result c.taken_in.result s h (subst (λ z. ShowsRows z k.rows) (sym c.rows-rows.ensures) sh.rows) (c.frames.ensures.value w s) c.put_in.ensures c.taken_in.ensures
