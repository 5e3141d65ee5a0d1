use Rattle.std.proofs.Common.{drop, arith}
use Rattle.lat_fields.proofs.Steps.{behind}
use Rattle.lat_slots.proofs.Exact.{found_from, only_from}
use Rattle.lat_slots.proofs.read.read_slot.Goals as goal

pub returns-clause-found : goal.returns-clause-found
returns-clause-found c =
    found_from c.slot_of.result c.args.at c.args.payload.now (drop c.args.at c.args.payload.now) (behind c.args.at c.args.payload.now (λ i. omega (arith, c.type_inv.payload i))) c.slot_of.ensures.gives

pub returns-clause-only : goal.returns-clause-only
returns-clause-only c = λ s next h. only_from c.slot_of.result c.args.at c.args.payload.now (drop c.args.at c.args.payload.now) s next c.slot_of.ensures.gives h
