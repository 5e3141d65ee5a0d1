use Rattle.std.proofs.Common.{◌∙◌, rules, tests, is_none}
use Rattle.std.proofs.lemmas.Iterator.{YieldsList-from_slice}
use Rattle.std.proofs.lemmas.Iterator.Consumers.{count_from_yields_List, YieldsList-from_filter}
use Rattle.std.proofs.lemmas.List.Sums.{length-filter}
use Rattle.lat_circuit.specs.Kept as circuit
use Rattle.lat_lines.proofs.circuits.opening.count_living.Goals as goal

pub returns : goal.returns
returns c =
    let alive = λ (q : circuit.Kept). is_none q.ended in
    count_from_yields_List c.filter.result c.count.result c.count.ensures.ran (YieldsList-from_filter _ alive (YieldsList-from_slice c.args.held.now (cc)) c.filter.ensures.closure (λ x b q k. search (rules, tests)))
    ∙ length-filter alive c.args.held.now
