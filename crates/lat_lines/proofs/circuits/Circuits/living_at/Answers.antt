use Rattle.std.proofs.Common.{◌≡◌, ◌∙◌, sym, ap, subst, refl, false, length, MatchOption, Some, slice_get, get_or}
use Rattle.std.proofs.lemmas.Option.{slice_get_read}
use Rattle.lat_lines.specs.circuits.Kept.{Kept}
use Rattle.lat_lines.specs.circuits.Info.{held_circuit}
use Rattle.lat_lines.specs.circuits.Living.{lives_in, LivesAt}
use Rattle.lat_lines.proofs.CircuitFound.{has_same, finds_at, finds_none, none_is}
use Rattle.lat_lines.proofs.circuits.Circuits.living_at.Goals as goal

pub returns-in_err-at-clause-place : goal.returns-in_err-at-clause-place
returns-in_err-at-clause-place c =
    let k = c.args.self.now in
    let none : lives_in (held_circuit k c.args.circuit) ≡ false = ap lives_in (finds_none (has_same c.args.circuit) k.held (sym c.in_err-at.ensures)) in
    subst (λ o. MatchOption o (lives_in (held_circuit k c.args.circuit) ≡ false) (LivesAt k c.args.circuit)) (sym c.from_residual.ensures) none

pub returns-then-lives-clause-place : goal.returns-then-lives-clause-place
returns-then-lives-clause-place c =
    let k = c.args.self.now in
    let q = c.index.result.now in
    let at = c.in_ok-at.at in
    let f = finds_at (has_same c.args.circuit) k.held at (sym c.in_ok-at.ensures) in
    let here : slice_get k.held at ≡ Some q = slice_get_read k.held (length k.held) at q refl f.within (c.index.ensures ∙ ap (λ (z : Kept). get_or z.held at q) c.self.view_is) in
    (q, record { here = here; found = f.is ∙ here; lives = none_is q.ended (sym c.lives.ensures.value ∙ c.if-lives.true) })

pub returns-else-lives-clause-place : goal.returns-else-lives-clause-place
returns-else-lives-clause-place c =
    let k = c.args.self.now in
    let q = c.index.result.now in
    let at = c.in_ok-at.at in
    let f = finds_at (has_same c.args.circuit) k.held at (sym c.in_ok-at.ensures) in
    let here : slice_get k.held at ≡ Some q = slice_get_read k.held (length k.held) at q refl f.within (c.index.ensures ∙ ap (λ (z : Kept). get_or z.held at q) c.self.view_is) in
    ap lives_in (f.is ∙ here) ∙ (sym c.lives.ensures.value ∙ c.if-lives.false)
