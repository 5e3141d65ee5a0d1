use Rattle.std.proofs.Common.{◌∙◌, sym, ap, subst, MatchOption}
use Rattle.lat_session.specs.Table.{state_at}
use Rattle.lat_lines.specs.circuits.Kept.{Kept}
use Rattle.lat_lines.specs.circuits.Living.{NoneAsks, AsksAt}
use Rattle.lat_lines.proofs.circuits.Calling.{living_is, asked_is, none_asks, none_asks_here}
use Rattle.lat_lines.proofs.circuits.Circuits.asked_place.Goals as goal

pub returns-in_err-at-clause-place : goal.returns-in_err-at-clause-place
returns-in_err-at-clause-place c =
    subst (λ o. MatchOption o (NoneAsks c.args.self.now c.args.circuit c.args.id) (AsksAt c.args.self.now c.args.circuit c.args.id)) (sym c.from_residual.ensures)
    (none_asks c.args.self.now c.args.circuit c.args.id c.in_err-at.ensures.place)

pub returns-then-is_some-clause-place : goal.returns-then-is_some-clause-place
returns-then-is_some-clause-place c =
    let k = c.args.self.now in
    let q = c.index.result.now in
    let is = living_is k c.args.circuit c.in_ok-at.at c.self.inside.held.items q (ap (λ (z : Kept). z.held) c.self.view_is) c.in_ok-at.ensures.place c.index.ensures in
    (q, is, asked_is (state_at q.sessions c.args.id) (sym c.asked_at.ensures.value ∙ sym c.is_some.ensures ∙ c.if-is_some.true))

pub returns-else-is_some-clause-place : goal.returns-else-is_some-clause-place
returns-else-is_some-clause-place c =
    let k = c.args.self.now in
    let q = c.index.result.now in
    let is = living_is k c.args.circuit c.in_ok-at.at c.self.inside.held.items q (ap (λ (z : Kept). z.held) c.self.view_is) c.in_ok-at.ensures.place c.index.ensures in
    let none = sym c.is_some.ensures ∙ c.if-is_some.false in
    none_asks_here k c.args.circuit c.args.id c.in_ok-at.at q is (sym c.asked_at.ensures.value ∙ none) (λ e st slave. sym (c.asked_at.ensures.slave e st slave) ∙ none)
