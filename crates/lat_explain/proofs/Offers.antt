-- The offers that may stand, line by line.
use Rattle.std.proofs.Common.{◌≡◌, ℕ, ◌+◌, ◌-◌, ◌<◌, List, ◌++◌, sym, append_assoc}
use Rattle.lat_explain.specs.Awaited.{offer_form, offer_forms}
use Rattle.lat_explain.proofs.Counts.{one_more}

pub offers_more : (offers : List ℕ) (n k : ℕ) (table next : List ℕ) → k < n → next ≡ table ++ offer_form offers (k + 1)
    → table ++ offer_forms offers (n - k) (k + 1) ≡ next ++ offer_forms offers (n - (k + 1)) (k + 1 + 1)
unfolding offer_forms
offers_more offers n k table next lt new =
    rw (one_more n k lt, new) (sym (append_assoc table (offer_form offers (k + 1)) (offer_forms offers (n - (k + 1)) (k + 1 + 1))))
