use Rattle.std.proofs.Common.{◌≡◌, false, length, sym, ap, ◌∙◌, rules}
use Rattle.std.specs.Prelude.{Err, ◌==◌}
use Rattle.lat_schedule.specs.Places.{nothing_at, place}
use Rattle.lat_schedule.proofs.Passing.{not_over}
use Rattle.lat_schedule.proofs.rest.Rest.nothing.Goals as goal

pub returns-else-is_empty : goal.returns-else-is_empty
returns-else-is_empty c =
    let r = c.heard-rest.result in
    let some : (length r.text.now == 0) ≡ false = search rules in
    not_over r.silent r.number r.text.now some c.heard-rest.ensures.says ∙ ap nothing_at c.heard-rest.ensures.same
