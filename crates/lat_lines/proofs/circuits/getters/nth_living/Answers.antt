use Rattle.std.proofs.Common.{is_none, rules, tests}
use Rattle.std.proofs.lemmas.Iterator.{YieldsList-from_slice}
use Rattle.std.proofs.lemmas.Iterator.Consumers.{YieldsList-from_filter, nth_from_yields_List}
use Rattle.lat_circuit.specs.Kept as circuit
use Rattle.lat_lines.proofs.circuits.getters.nth_living.Goals as goal

pub returns : goal.returns
returns c =
    nth_from_yields_List c.nth.result c.nth.new.self c.args.at c.nth.ensures.ran
    (YieldsList-from_filter _ (λ (q : circuit.Kept). is_none q.ended) (YieldsList-from_slice c.args.held.now cc) c.filter-living.ensures.closure (λ x b q k. search (rules, tests)))
