use Rattle.std.proofs.Common.{cond, length, ap, ◌∙◌, ◌-◌}
use Rattle.lat_stream.specs.Kept.{Kept}
use Rattle.lat_stream.specs.Steps.{can_put}
use Rattle.lat_stream.proofs.Taken.{room_is}
use Rattle.lat_stream.proofs.stream.Stream.room.Goals as goal

pub returns-clause-model : goal.returns-clause-model
returns-clause-model c = λ m ceiling s h e.
    c.count_room.ensures ∙ ap (λ (k : Kept). cond (can_put k) (4096 - length k.unframed) 0) e ∙ room_is m ceiling s h
