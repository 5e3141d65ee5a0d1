use Rattle.std.proofs.Common.{not, ◌+◌, ap, rules, tests, ◌∙◌, refl, arith}
use Rattle.std.proofs.lemmas.Iterator.{YieldsList-from_range}
use Rattle.std.proofs.lemmas.Iterator.Search.{find_from_yields_List}
use Rattle.lat_model.specs.Lists.{least, upwards}
use Rattle.lat_machines.specs.cores.Lines.{has_session}
use Rattle.lat_lines.proofs.Telling.{least_told}
use Rattle.lat_lines.proofs.lines.Lines.free_line.Goals as goal

pub returns-clause-model : goal.returns-clause-model
returns-clause-model c = λ d st.
    least_told (λ line. not (has_session d line)) c.self.inside.count c.find.result
    (find_from_yields_List (λ line. not (has_session d line)) _ _ _ c.find.ensures.ran (YieldsList-from_range 1 (c.self.inside.count + 1) c.self.inside.count refl (omega arith)) (λ x b q k. search (rules, tests)))
    ∙ ap (λ z. least (λ line. not (has_session d line)) (upwards 0 z.lines)) c.self.view_is
