use Rattle.std.proofs.Common.{subst, arith}
use Rattle.std.proofs.lemmas.Grind.{elements}
use Rattle.lat_machines.specs.cores.Cores.{Core, at_moment}
use Rattle.lat_lines.specs.circuits.Kept.{Kept}
use Rattle.lat_lines.specs.circuits.Shown.{shown}
use Rattle.lat_lines.specs.circuits.Stands.{Stands}
use Rattle.lat_lines.proofs.circuits.Places.{moved_stands}
use Rattle.lat_lines.proofs.circuits.Circuits.pass.Goals as goal

pub returns-clause-state : goal.returns-clause-state
returns-clause-state c =
    let a = c.self.inside in
    let n = c.max-self-inside.result in
    subst (λ (k : Kept). (d : Core) → Stands k d → Stands (shown (record a { moment = n })) (at_moment c.args.now d)) c.self.view_is
    (λ d st. moved_stands (shown a) d c.args.now n c.max-self-inside.ensures st)

pub invariant_of-self : goal.invariant_of-self
invariant_of-self c = grind (arith, elements)
