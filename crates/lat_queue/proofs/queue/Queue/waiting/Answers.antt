use Rattle.std.proofs.Common.{length, sym, subst, ◌<◌}
use Rattle.lat_queue.specs.declared.entry.Entry.{Entry}
use Rattle.lat_queue.specs.Tables.{Table, OnLine}
use Rattle.lat_queue.proofs.TableLemmas.{lookup_each}
use Rattle.lat_queue.proofs.queue.Queue.waiting.Goals as goal

pub returns-in-Waits-clause-on_line : goal.returns-in-Waits-clause-on_line
returns-in-Waits-clause-on_line c =
    let e = c.in_ok-entry.field-0.now in
    subst (λ (t : Table). c.in-Waits.line < length t.offered) c.self.view_is
    (subst (OnLine (length c.self.inside.offered)) c.in-Waits.is
    (lookup_each (λ (x : Entry). OnLine (length c.self.inside.offered) x.standing) c.args.key.now c.self.inside.entries.entries e c.self.invariant.0.placed (sym c.in_ok-entry.ensures.value)))
