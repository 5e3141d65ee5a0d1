use Rattle.std.proofs.Common.{◌<◌, ◌++◌, ◌∷◌, [], length, sym, ap, ◌∙◌, subst, slice_set, List, arith}
use Rattle.std.proofs.lemmas.Option.{get_or_from_slice_get}
use Rattle.std.proofs.lemmas.Grind.{elements}
use Rattle.lat_queue.specs.declared.key.Key.{Key}
use Rattle.lat_queue.specs.declared.entry.Entry.{Entry}
use Rattle.lat_queue.specs.Tables.{Table, Holds, MayStand, waiters, waiter_of, waiting_count}
use Rattle.lat_queue.proofs.TableLemmas.{holds_joined, holds_added, not_waiting}
use Rattle.lat_queue.proofs.CountLemmas.{count_joined, count_beside}
use Rattle.lat_queue.proofs.queue.Queue.add.Goals as goal

pub invariant_of-self-in-Waits : goal.invariant_of-self-in-Waits
invariant_of-self-in-Waits c =
    let s = c.self.inside in
    let t : Table = record { offered = s.offered; entries = s.entries.entries; granted = s.granted } in
    let k : Key = c.args.key.now in
    let e : Entry = c.args.entry in
    let i = c.in-Waits.line in
    let room : MayStand t e.standing = subst (λ (z : Table). MayStand z e.standing) (sym c.self.view_is) c.requires.stands in
    let few = subst (λ (z : Table). length z.entries < 65536) (sym c.self.view_is) c.requires.few in
    let here : i < length t.offered = (subst (MayStand t) c.in-Waits.is room).0 in
    let line = c.join.ensures ∙ ap (λ z. z ++ waiter_of (k, e) ∷ []) (c.index_mut-waiting.ensures.value ∙ get_or_from_slice_get s.lines.items i (waiters i t.entries) c.index_mut-waiting.result.now (c.self.invariant.0.each i here)) in (
      subst (λ (es : List (Key × Entry)). Holds (record { offered = s.offered; entries = es; granted = s.granted }) (slice_set s.lines.items i c.join.new.self)) (sym c.in_ok-insert_new.ensures.ok)
          (holds_joined t s.lines.items k e i c.join.new.self c.self.invariant.0 room few c.in-Waits.is line),
      omega (arith, c.self.invariant.1, ap waiting_count c.in_ok-insert_new.ensures.ok, count_joined s.entries.entries k e i c.in-Waits.is),
    )

pub invariant_of-self-in_default : goal.invariant_of-self-in_default
invariant_of-self-in_default c =
    let s = c.self.inside in
    let t : Table = record { offered = s.offered; entries = s.entries.entries; granted = s.granted } in
    let few = subst (λ (z : Table). length z.entries < 65536) (sym c.self.view_is) c.requires.few in (
      subst (λ (es : List (Key × Entry)). Holds (record { offered = s.offered; entries = es; granted = s.granted }) s.lines.items) (sym c.in_ok-insert_new.ensures.ok)
          (holds_added t s.lines.items c.args.key.now c.args.entry c.self.invariant.0 few (not_waiting c.args.entry.standing c.in_default.not-Waits)),
      c.self.invariant.1 ∙ sym (ap waiting_count c.in_ok-insert_new.ensures.ok ∙ count_beside s.entries.entries c.args.key.now c.args.entry (not_waiting c.args.entry.standing c.in_default.not-Waits)),
    )

pub join-requires : goal.join-requires
join-requires c = grind (arith, elements)
