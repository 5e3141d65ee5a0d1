-- What lines were asked for.
use Rattle.std.proofs.Common.{◌≡◌, ◌<◌, ℕ, ◌+◌, List, [], ◌∷◌, ◌++◌, length, take, get_or, Option, Some, sym, ap, ◌∙◌, append_assoc, append-nil}
use Rattle.lat_outside.specs.Openings.{OpeningsView, with_line}
use Rattle.lat_live.specs.declared.opening.StartFault.{StartFault}
use Rattle.lat_live.specs.declared.opening.StartFault.TheVariants as faults
use Rattle.lat_live.specs.declared.opening.PortOf.TheVariants as ports
use Rattle.lat_live.specs.declared.plan.LinePlan.{LinePlan}
use Rattle.lat_live.specs.Opened.{IsRefusedAt, LineRefused, ports_of, with_lines}
use Rattle.lat_live.proofs.Steps.{next_mapped, there}

pub no_lines : (asked : OpeningsView) → asked ≡ with_lines [] asked
no_lines asked = ap (λ (ports : List (Option ℕ)). record asked { lines = ports }) (sym (append-nil asked.lines))

pub one_line : (lines : List LinePlan) (k : ℕ) (line : LinePlan) (first old new : OpeningsView) → k < length lines → line ≡ get_or lines k line →
    old ≡ with_lines (take k lines) first → new ≡ with_line old line.port → new ≡ with_lines (take (k + 1) lines) first
one_line lines k line first old new less is so_far asked =
    let more : first.lines ++ ports_of (take (k + 1) lines) ≡ (first.lines ++ ports_of (take k lines)) ++ line.port ∷ [] =
    ap (λ (ports : List (Option ℕ)). first.lines ++ ports) (next_mapped (λ (l : LinePlan). l.port) lines k line less is) ∙ sym (append_assoc first.lines (ports_of (take k lines)) (line.port ∷ [])) in
    asked ∙ ap (λ (os : OpeningsView). with_line os line.port) so_far ∙ ap (λ (ports : List (Option ℕ)). record first { lines = ports }) (sym more)

pub line_refused : (lines : List LinePlan) (k number : ℕ) (line : LinePlan) (first old new : OpeningsView) (fault : StartFault) → k < length lines → line ≡ get_or lines k line → number ≡ k + 1 →
    old ≡ with_lines (take k lines) first → new ≡ with_line old line.port → IsRefusedAt number line.port fault → LineRefused lines first new fault
line_refused lines k number line first old new (faults.Refused r) less is count so_far asked refused = (
  k,
  there (λ (l : LinePlan). l.port) lines k line less is ∙ ap (λ (port : Option ℕ). Some port) refused.1,
  refused.0 ∙ ap (λ n. ports.Line n) count,
  one_line lines k line first old new less is so_far asked,
)
line_refused lines k number line first old new faults.Memory less is count so_far asked refused = tt
