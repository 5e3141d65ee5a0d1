use Rattle.std.proofs.Common.{◌≡◌, Some, length, sym, subst}
use Rattle.std.specs.Map.{lookup}
use Rattle.lat_queue.specs.KeyHash.{one_key}
use Rattle.lat_queue.specs.declared.entry.Entry.{Entry}
use Rattle.lat_queue.specs.Tables.{Table, OnLine}
use Rattle.lat_queue.proofs.TableLemmas.{lookup_each, found_in_line}
use Rattle.lat_queue.proofs.queue.Queue.info.Goals as goal

pub info_of-requires-clause-line : goal.info_of-requires-clause-line
info_of-requires-clause-line c =
    let e = c.in_ok-entry.entry.now in
    subst (λ (t : Table). OnLine (length t.offered) e.standing) c.self.view_is
    (lookup_each (λ (x : Entry). OnLine (length c.self.inside.offered) x.standing) c.args.key.now c.self.inside.entries.entries e c.self.invariant.0.placed (sym c.in_ok-entry.ensures.value))

pub info_of-requires-clause-there : goal.info_of-requires-clause-there
info_of-requires-clause-there c =
    let e = c.in_ok-entry.entry.now in
    found_in_line c.args.key.now c.args.self.now.entries e (subst (λ (t : Table). lookup (one_key c.args.key.now) t.entries ≡ Some e) c.self.view_is (sym c.in_ok-entry.ensures.value))
