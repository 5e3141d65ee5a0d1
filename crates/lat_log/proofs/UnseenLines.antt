-- Lines of which no session was seen.
use Rattle.std.proofs.Common.{◌≡◌, ℕ, suc, ◌+◌, ◌-◌, ◌<◌, List, [], ◌∷◌, ◌++◌, None, refl, sym, ap, ◌∙◌, arith}
use Rattle.std.proofs.lemmas.List.{append_assoc, append-nil}
use Rattle.lat_log.specs.Watches.{unseen_from}
use Rattle.lat_log.specs.declared.seen.LineSeen.{LineSeen}

abbrev unseen : ℕ → LineSeen
unseen line = record { line = line; session = None }

unseen_more : (line n k : ℕ) → n ≡ suc k → unseen_from line n ≡ unseen line ∷ unseen_from (line + 1) k
unfolding unseen_from
unseen_more line n k is = rw (is, unseen_from) refl

pub more : (at end : ℕ) (got all : List LineSeen) → at < end → got ++ unseen_from (at + 1) (end - at) ≡ all
    → (got ++ record { line = at + 1; session = None } ∷ []) ++ unseen_from (at + 1 + 1) (end - (at + 1)) ≡ all
more at end got all h was =
    let less : end - at ≡ suc (end - (at + 1)) = omega (arith, h) in
    append_assoc got (unseen (at + 1) ∷ []) (unseen_from (at + 1 + 1) (end - (at + 1)))
    ∙ ap (λ r. got ++ r) (sym (unseen_more (at + 1) (end - at) (end - (at + 1)) less))
    ∙ was

pub full : (at end : ℕ) (got all : List LineSeen) → end - at ≡ 0 → got ++ unseen_from (at + 1) (end - at) ≡ all → got ≡ all
unfolding unseen_from
full at end got all h was = sym (append-nil got) ∙ ap (λ r. got ++ r) (sym (rw (h, unseen_from) refl)) ∙ was
