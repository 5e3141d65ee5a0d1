use Rattle.std.proofs.Common.{is_none, rules}
use Rattle.std.proofs.lemmas.List.Elements.{filter_from_retain}
use Rattle.lat_lines.specs.declared.seat.Seat.{Seat}
use Rattle.lat_lines.proofs.reap.keep_open.Goals as goal

pub returns-clause-items : goal.returns-clause-items
returns-clause-items c = filter_from_retain _ (λ (s : Seat). is_none s.session.end) (λ f s b g call. search rules) _ _ _ c.retain.ensures.filtered
