use Rattle.std.proofs.Common.{arith, rules}
use Rattle.lat_wire.proofs.ledger.Heads.{heading_told}
use Rattle.lat_wire.proofs.ledger.heading.heading_of.Goals as goal

pub returns-then-payload-lt6-clause-value : goal.returns-then-payload-lt6-clause-value
returns-then-payload-lt6-clause-value c = heading_told c.args.payload.now _ (λ i. omega (arith, c.type_inv.payload i)) (search rules)

pub returns-in-Some-Run-clause-value : goal.returns-in-Some-Run-clause-value
returns-in-Some-Run-clause-value c = heading_told c.args.payload.now _ (λ i. omega (arith, c.type_inv.payload i)) (search rules)

pub returns-in-Some-Start-clause-value : goal.returns-in-Some-Start-clause-value
returns-in-Some-Start-clause-value c = heading_told c.args.payload.now _ (λ i. omega (arith, c.type_inv.payload i)) (search rules)

pub returns-in-Some-Start-2-clause-value : goal.returns-in-Some-Start-2-clause-value
returns-in-Some-Start-2-clause-value c = heading_told c.args.payload.now _ (λ i. omega (arith, c.type_inv.payload i)) (search rules)
