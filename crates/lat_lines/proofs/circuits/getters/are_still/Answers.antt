use Rattle.std.proofs.Common.{◌<◌, length, sym, ◌∙◌, arith, rules}
use Rattle.lat_lines.proofs.circuits.Living.{next_still, one_stirs}
use Rattle.lat_lines.proofs.circuits.getters.are_still.Goals as goal

pub returns-then-not-is_still : goal.returns-then-not-is_still
returns-then-not-is_still c = λ d each.
    let held = c.args.held.now in
    let at = c.loop-circuit.circuit-index in
    let low : at < length held = search rules in
    one_stirs d held at c.circuit-item.result each low c.circuit-item.is (λ e st. sym c.if-not-is_still.true ∙ c.is_still.ensures e st) ∙ c.loop-circuit.invariant.rest d each

pub loop-circuit-preserved : goal.loop-circuit-preserved
loop-circuit-preserved c =
    let held = c.args.held.now in
    let at = c.loop-circuit.circuit-index in
    let low : at < length held = search rules in
    record { rest = λ d each. next_still d held at _ c.circuit-item.result each (omega arith) low c.circuit-item.is (λ e st. sym c.if-not-is_still.false ∙ c.is_still.ensures e st) ∙ c.loop-circuit.invariant.rest d each }
