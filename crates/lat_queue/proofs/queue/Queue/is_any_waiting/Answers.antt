use Rattle.std.proofs.Common.{◌≡◌, rules, sym, ap, ◌∙◌, subst}
use Rattle.std.specs.List.{list_any}
use Rattle.std.proofs.lemmas.Iterator.{YieldsList-from_slice}
use Rattle.std.proofs.lemmas.Iterator.Search.{any_from_yields_List}
use borrow.Author.Tests.{tests}
use Rattle.lat_queue.specs.Tables.{Table}
use Rattle.lat_queue.specs.Histories.{Stands}
use Rattle.lat_queue.proofs.AnyLemmas.{has_waiter, any_right}
use Rattle.lat_queue.proofs.queue.Queue.is_any_waiting.Goals as goal

pub returns-then-not-is_empty : goal.returns-then-not-is_empty
returns-then-not-is_empty c = λ h st.
    let s = c.self.inside in
    let t : Table = record { offered = s.offered; entries = s.entries.entries; granted = s.granted } in
    let found : c.any.result ≡ list_any has_waiter c.deref.result.now =
    any_from_yields_List has_waiter _ _ c.any.result c.any.ensures.ran (YieldsList-from_slice c.deref.result.now c.iter.ensures.rest) (λ x b q k. search (rules, tests)) in
    found
    ∙ ap (list_any has_waiter) c.deref.ensures.value
    ∙ any_right t s.lines.items h c.self.invariant.0 (subst (λ (z : Table). Stands z h) (sym c.self.view_is) st)
