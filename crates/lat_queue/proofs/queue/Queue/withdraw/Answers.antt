use Rattle.std.proofs.Common.{◌≡◌, Some, ◌<◌, length, refl, sym, ap, ◌∙◌, subst, slice_set, List, arith}
use Rattle.std.proofs.lemmas.Option.{get_or_from_slice_get}
use Rattle.lat_queue.specs.declared.key.Key.{Key}
use Rattle.lat_queue.specs.declared.entry.Entry.{Entry}
use Rattle.lat_queue.specs.declared.entry.Standing.TheVariants.{Cancelled}
use Rattle.lat_queue.specs.Lines.{without}
use Rattle.lat_queue.specs.Tables.{Table, Holds, waiting_of, waiters, waiting_count}
use Rattle.lat_queue.proofs.TableLemmas.{WaitsThere, waits_there, holds_left}
use Rattle.lat_queue.proofs.CountLemmas.{count_left}
use Rattle.lat_queue.proofs.queue.Queue.withdraw.Goals as goal

pub invariant_of-self : goal.invariant_of-self
invariant_of-self c =
    let s = c.self.inside in
    let t : Table = record { offered = s.offered; entries = s.entries.entries; granted = s.granted } in
    let k : Key = c.args.key.now in
    let e : Entry = c.in-Some.entry in
    let i = c.in-Some.line in
    let w : WaitsThere t k e i = waits_there t k e i (subst (λ (z : Table). waiting_of z k ≡ Some (e, i)) (sym c.self.view_is) (sym c.in-Some.ensures.value)) in
    let here : i < length t.offered = subst (λ (z : Table). i < length z.offered) (sym c.self.view_is) c.in-Some.ensures.on_line in
    let line = c.leave.ensures ∙ ap (without k) (c.index_mut-waiting.ensures.value ∙ get_or_from_slice_get s.lines.items i (waiters i t.entries) c.index_mut-waiting.result.now (c.self.invariant.0.each i here)) in (
      subst (λ (es : List (Key × Entry)). Holds (record { offered = s.offered; entries = es; granted = s.granted }) (slice_set s.lines.items i c.leave.new.self)) (sym c.rewrite.ensures)
          (holds_left t s.lines.items k e i Cancelled s.granted c.leave.new.self c.self.invariant.0 w.found w.waits refl (omega arith) line),
      omega (arith, c.self.invariant.1, ap waiting_count c.rewrite.ensures, count_left s.entries.entries k e i Cancelled w.found w.waits refl),
    )

pub overflow_sub-self : goal.overflow_sub-self
overflow_sub-self c =
    let s = c.self.inside in
    let t : Table = record { offered = s.offered; entries = s.entries.entries; granted = s.granted } in
    let k : Key = c.args.key.now in
    let e : Entry = c.in-Some.entry in
    let i = c.in-Some.line in
    let w : WaitsThere t k e i = waits_there t k e i (subst (λ (z : Table). waiting_of z k ≡ Some (e, i)) (sym c.self.view_is) (sym c.in-Some.ensures.value)) in
    omega (arith, c.self.invariant.1, count_left s.entries.entries k e i Cancelled w.found w.waits refl)
