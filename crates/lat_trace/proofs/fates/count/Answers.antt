use Rattle.std.proofs.Common.{◌+◌, ◌++◌, ◌∷◌, [], get_or, refl, subst, sym, slice_set}
use Rattle.std.proofs.lemmas.List.{get_or-set_other, get_or-set_same, length-set}
use Rattle.lat_schedule.specs.declared.event.WorldEvent.{WorldEvent}
use Rattle.lat_trace.specs.Fates.{AreCounts}
use Rattle.lat_trace.proofs.Counting.{counts_one, counts_stay, delivers_none, delivers_past}
use Rattle.lat_trace.proofs.fates.count.Goals as goal

pub returns-then-index-counts-clause-counts : goal.returns-then-index-counts-clause-counts
returns-then-index-counts-clause-counts c = λ events are.
    let counts = c.args.counts.now in
    let index = c.in-Deliver.index in
    let more = get_or counts index 0 + 1 in
    subst (λ (z : WorldEvent). AreCounts (slice_set counts index more) (events ++ z ∷ [])) (sym c.in-Deliver.is)
    (counts_one counts (slice_set counts index more) events index c.if-index-counts.true (length-set counts index more) (get_or-set_same counts index more 0 c.if-index-counts.true)
    (λ frame other. get_or-set_other counts index frame more 0 other) are)

pub returns-else-index-counts-clause-counts : goal.returns-else-index-counts-clause-counts
returns-else-index-counts-clause-counts c = λ events are.
    counts_stay c.args.counts.now events c.args.event.now (delivers_past c.args.counts.now c.args.event.now c.in-Deliver.index c.in-Deliver.is c.if-index-counts.false) are

pub returns-in_default : goal.returns-in_default
returns-in_default c = record {
  length = refl;
  counts = λ events are. counts_stay c.args.counts.now events c.args.event.now (λ frame within. delivers_none c.args.event.now c.in_default.not-Deliver frame) are;
}
