use Rattle.std.specs.Prelude.{◌≡◌, true}
use Rattle.lat_model.specs.circuits.Ids.{is_id_of}
use Rattle.lat_model.proofs.circuits.Ids.{first_is, next_follows, next_some, next_low, ids_apart, behind_drawn, DrawnAs, drawn_as}
use Rattle.lat_model.proofs.circuits.IdLists.{ids_length, ids_rise, each_id}
use Rattle.lat_model.proofs.laws.circuit_ids_follow.Goals as goal

pub returns-clause-first : goal.returns-clause-first
returns-clause-first c = first_is

pub returns-clause-next : goal.returns-clause-next
returns-clause-next c = next_follows

pub returns-clause-low : goal.returns-clause-low
returns-clause-low c = λ f n l. (next_some f n, next_low f n l)

pub returns-clause-once : goal.returns-clause-once
returns-clause-once c = ids_apart

pub returns-clause-drawn : goal.returns-clause-drawn
returns-clause-drawn c = behind_drawn

pub returns-clause-only : goal.returns-clause-only
returns-clause-only c = λ f n x h. let o : DrawnAs f n x = drawn_as f n x h in (o.behind, (o.before, o.is))

pub returns-clause-count : goal.returns-clause-count
returns-clause-count c = ids_length

pub returns-clause-rising : goal.returns-clause-rising
returns-clause-rising c = ids_rise

pub returns-clause-listed : goal.returns-clause-listed
returns-clause-listed c = λ f n. each_id (λ x. is_id_of f n x ≡ true) f n (λ x h. h)
