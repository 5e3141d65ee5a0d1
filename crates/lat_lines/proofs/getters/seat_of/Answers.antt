use Rattle.std.proofs.Common.{nat_eq, rules, tests, ◌∙◌}
use Rattle.std.proofs.lemmas.Iterator.{YieldsList-from_slice}
use Rattle.std.proofs.lemmas.Iterator.Search.{find_from_yields_List}
use Rattle.lat_lines.specs.declared.seat.Seat.{Seat}
use Rattle.lat_lines.proofs.getters.seat_of.Goals as goal

pub returns : goal.returns
returns c = c.copied.ensures ∙ find_from_yields_List (λ (s : Seat). nat_eq s.line c.args.line) _ _ _ c.find.ensures.ran (YieldsList-from_slice c.args.seats.now cc) (λ x b q k. search (rules, tests))
