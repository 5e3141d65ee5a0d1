use Rattle.std.proofs.Common.{◌<◌, get_or, sym, subst, List, ℕ, arith}
use Rattle.lat_trace.proofs.Counting.{counts_none, counts_small}
use Rattle.lat_trace.proofs.fates.Fates.of.Goals as goal

pub loop-event-init : goal.loop-event-init
loop-event-init c = record {
  counts = counts_none c.in_ok-counts.counts.items c.args.frames (c.in_ok-counts.ensures.items_if_clones_equal (λ y e. e));
  length = omega (arith, c.in_ok-counts.ensures.len, c.in_ok-counts.counts.ok.0);
}

pub count-requires : goal.count-requires
count-requires c =
    subst (λ (z : List ℕ). (frame : ℕ) → get_or z frame 0 < 4294967295) (sym c.deref_mut.ensures.value)
    (counts_small c.loop-event.counts.items c.args.events.now c.loop-event.event-index c.requires.few c.loop-event.invariant.counts)
