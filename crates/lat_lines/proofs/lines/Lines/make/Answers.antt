use Rattle.std.proofs.Common.{◌≡◌, [], replicate, None, IfOk, sym, subst, rules, arith}
use Rattle.std.proofs.lemmas.Grind.{common_steps}
use Rattle.lat_model.specs.Lists.{Each}
use Rattle.lat_machines.specs.values.Addresses.{address}
use Rattle.lat_machines.specs.cores.Cores.{open_core}
use Rattle.lat_circuit.specs.Kept as circuit
use Rattle.lat_lines.specs.circuits.Kept.{Kept, side_of}
use Rattle.lat_lines.specs.circuits.Stands as stands
use Rattle.lat_lines.proofs.Standing.{stands_new}
use Rattle.lat_lines.proofs.lines.Lines.make.Goals as goal

pub returns-clause-stands : goal.returns-clause-stands
returns-clause-stands c =
    let own = address c.args.own.0 in
    let made = subst (λ r. IfOk r (λ (k : Kept). stands.Stands k (open_core (side_of k) own c.args.first))) c.in_ok-make.was c.make.ensures.stands in
    let last = subst (λ r. IfOk r (λ v. v.items ≡ replicate c.args.count None)) c.in_ok-no_last.was c.no_last.ensures in
    stands_new c.in_ok-make.field-0 c.args.count own c.args.first c.in_ok-with_capacity.field-0.items c.in_ok-no_last.field-0.items c.in_ok-with_capacity-2.field-0.items made (search rules) last

pub returns-clause-own : goal.returns-clause-own
returns-clause-own c =
    subst (λ r. IfOk r (λ (k : Kept). (k.own ≡ c.args.own) × (k.name ≡ c.args.name) × (k.timing ≡ c.args.timing) × (k.server ≡ c.args.server) × (k.first ≡ c.args.first))) c.in_ok-make.was c.make.ensures.own

pub returns-clause-clear : goal.returns-clause-clear
returns-clause-clear c =
    let none = subst (λ r. IfOk r (λ (k : Kept). (k.held ≡ []) × (k.moment ≡ 0))) c.in_ok-make.was c.make.ensures.none in
    subst (Each (λ (q : circuit.Kept). q.ended ≡ None)) (sym none.0) tt

pub invariant_of-result : goal.invariant_of-result
invariant_of-result c = grind (arith, common_steps)

pub returns-clause-rooms : goal.returns-clause-rooms
returns-clause-rooms c = subst (λ r. IfOk r (λ (k : Kept). k.rooms ≡ [])) c.in_ok-make.was c.make.ensures.rooms
