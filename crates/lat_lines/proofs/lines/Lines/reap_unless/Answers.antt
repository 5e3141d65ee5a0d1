use Rattle.std.proofs.Common.{◌≡◌, map, sym, subst}
use Rattle.lat_queue.specs.Histories.{key_shown}
use Rattle.lat_lines.specs.Kept.{Kept}
use Rattle.lat_lines.specs.Stands.{Seated, freed_between}
use Rattle.lat_lines.proofs.resting.Rested.{rested_seated}
use Rattle.lat_lines.proofs.lines.Lines.reap_unless.Goals as goal

pub returns-then-is_calm-clause-state : goal.returns-then-is_calm-clause-state
returns-then-is_calm-clause-state c = λ d e seated covers st later zero calms.
    subst (λ (z : Kept). Seated z e × (map key_shown z.freed ≡ freed_between d e)) (sym c.rest.ensures)
    (rested_seated c.args.self.now c.args.self.now.circuits d e seated st later (calms c.if-is_calm.true) zero)

pub returns-else-is_calm-clause-state : goal.returns-else-is_calm-clause-state
returns-else-is_calm-clause-state c = λ d e seated covers st later zero calms. c.reap.ensures.state d e seated covers st later
