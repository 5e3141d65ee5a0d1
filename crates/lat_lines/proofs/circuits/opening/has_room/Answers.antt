use Rattle.std.proofs.Common.{◌∙◌, ap, nat_lt}
use Rattle.lat_model.specs.sessions.Sessions.{held}
use Rattle.lat_lines.proofs.circuits.opening.has_room.Goals as goal

pub returns-clause-model : goal.returns-clause-model
returns-clause-model c = λ e st. ap (λ n. nat_lt n c.agreed.result) (c.held.ensures.model e st) ∙ ap (λ n. nat_lt (held e.half.sessions) n) (c.agreed.ensures.model e st)
