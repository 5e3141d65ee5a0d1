use Rattle.std.proofs.Common.{◌≡◌, Some, sym, subst, slice_get}
use Rattle.lat_queue.specs.Tables.{Table}
use Rattle.lat_queue.proofs.TableLemmas.{placed_in_line}
use Rattle.lat_queue.proofs.queue.Queue.shown.Goals as goal

pub info_of-requires-clause-there : goal.info_of-requires-clause-there
info_of-requires-clause-there c =
    placed_in_line c.in_ok-key.key.now c.args.self.now.entries c.in_ok-key.entry.now c.args.place
    (subst (λ (t : Table). slice_get t.entries c.args.place ≡ Some (c.in_ok-key.key.now, c.in_ok-key.entry.now)) c.self.view_is (sym c.in_ok-key.ensures.entry))
