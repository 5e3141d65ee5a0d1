use Rattle.std.proofs.Common.{refl, sym, ap, ◌∙◌, subst, List}
use Rattle.lat_queue.specs.declared.key.Key.{Key}
use Rattle.lat_queue.specs.declared.entry.Entry.{Entry}
use Rattle.lat_queue.specs.declared.entry.Standing.TheVariants.{Done}
use Rattle.lat_queue.specs.Tables.{Table, Holds, waits_somewhere, waiting_count}
use Rattle.lat_queue.proofs.TableLemmas.{holds_still}
use Rattle.lat_queue.proofs.CountLemmas.{count_still}
use Rattle.lat_queue.proofs.queue.Queue.end.Goals as goal

pub invariant_of-self : goal.invariant_of-self
invariant_of-self c =
    let s = c.self.inside in
    let t : Table = record { offered = s.offered; entries = s.entries.entries; granted = s.granted } in
    let e : Entry = c.in-Some.entry in
    let found = sym c.get.ensures.value ∙ sym c.copied.ensures ∙ c.in-Some.is in (
      subst (λ (es : List (Key × Entry)). Holds (record { offered = s.offered; entries = es; granted = s.granted }) s.lines.items) (sym c.rewrite.ensures)
          (holds_still t s.lines.items c.args.key.now e (Done c.in-Granted.grant) c.self.invariant.0 found (ap waits_somewhere c.in-Granted.is) refl),
      c.self.invariant.1 ∙ sym (ap waiting_count c.rewrite.ensures ∙ count_still s.entries.entries c.args.key.now e (Done c.in-Granted.grant) found (ap waits_somewhere c.in-Granted.is) refl),
    )
