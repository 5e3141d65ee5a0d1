use Rattle.std.proofs.Common.{◌∙◌, refl, sym, rules}
use Rattle.std.proofs.lemmas.List.{get_or-replicate}
use Rattle.lat_past.proofs.Fitting.{none_fit}
use Rattle.lat_past.proofs.history.History.new.Goals as goal

pub invariant_of-result : goal.invariant_of-result
invariant_of-result c =
    rw c.new.ensures (
    record {
      many = refl;
      puts = refl;
      takes = refl;
      long = search rules;
      seat_events = λ seat low. rw c.new-2.ensures.0 (get_or-replicate 256 seat 0 0 low);
      seat_bytes = λ seat low. rw c.new-2.ensures.1 (get_or-replicate 256 seat 0 0 low);
      seat_items = λ seat low. rw c.new-2.ensures.2 (get_or-replicate 256 seat 0 0 low);
      last = c.new-3.ensures.1 ∙ sym (none_fit c.new-3.result.most);
    }
    )
