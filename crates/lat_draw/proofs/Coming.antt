-- Whether a frame was delivered before.
use Rattle.std.proofs.Common.{◌≡◌, ℕ, suc, Bool, true, false, List, [], ◌∷◌, length, refl, sym, arith}
use Rattle.std.specs.Prelude.{nat_lt}
use Rattle.std.specs.List.{filter, list_any}
use Rattle.std.proofs.lemmas.Bool.{lt-ltb}
use Rattle.lat_schedule.specs.declared.event.WorldEvent.{WorldEvent}
use Rattle.lat_trace.specs.Fates.{delivers, deliveries}

-- some event delivers a frame where there is a delivery of it
any_more : (p : WorldEvent → Bool) (e : WorldEvent) (es : List WorldEvent) (b : Bool) → p e ≡ b → list_any p es ≡ nat_lt 0 (length (filter p es)) → list_any p (e ∷ es) ≡ nat_lt 0 (length (filter p (e ∷ es)))
any_more p e es true h rest = rw h (sym (lt-ltb 0 (suc (length (filter p es))) (omega arith)))
any_more p e es false h rest = rw h rest

any_counts : (p : WorldEvent → Bool) (es : List WorldEvent) → list_any p es ≡ nat_lt 0 (length (filter p es))
any_counts p [] = refl
any_counts p (e ∷ es) = any_more p e es (p e) refl (any_counts p es)

pub any_delivers : (frame : ℕ) (es : List WorldEvent) → list_any (delivers frame) es ≡ nat_lt 0 (deliveries frame es)
unfolding deliveries
any_delivers frame es = any_counts (delivers frame) es
