use Rattle.std.proofs.Common.{cond, length, ap, ◌∙◌}
use Rattle.lat_stream.specs.Kept.{Kept}
use Rattle.lat_stream.specs.Steps.{can_take}
use Rattle.lat_stream.proofs.Taken.{waiting_is}
use Rattle.lat_stream.proofs.stream.Stream.waiting.Goals as goal

pub returns-clause-model : goal.returns-clause-model
returns-clause-model c = λ m ceiling s h e.
    c.count_waiting.ensures ∙ ap (λ (k : Kept). cond (can_take k) (length k.heard) 0) e ∙ waiting_is m ceiling s h
