use Rattle.std.proofs.Common.{◌≡◌, ◌∙◌, subst, ap, not, arith}
use Rattle.std.proofs.lemmas.Grind.{elements}
use Rattle.lat_machines.specs.world.Machines.{Machines, HearsFrame, happens}
use Rattle.lat_wire.specs.Rates.{rates}
use Rattle.lat_replay.specs.Kept.{Kept, setups_of, moment_of}
use Rattle.lat_replay.specs.Stands.{Stands}
use Rattle.lat_replay.proofs.Stepping.{frame_stands, unheard_stands, holds_on}
use Rattle.std.proofs.Common.{refl, Err, None}
use Rattle.std.proofs.lemmas.Result.{err_from_is_err_and}
use Rattle.lat_wire.specs.Refusals.{RefusedAs, deliver_refusal}
use Rattle.lat_wire.proofs.Refusing.{same_fault}
use Rattle.lat_replay.proofs.Stepping.{refused_stands, on_err}
use Rattle.lat_replay.proofs.world.World.deliver.Goals as goal

pub returns-then-is_none-clause-stands : goal.returns-then-is_none-clause-stands
returns-then-is_none-clause-stands g c =
    let k : Kept g.row.H.Denot = record { wire = c.self.inside.wire; roster = c.self.inside.roster } in
    let new : Kept g.row.H.Denot = record { wire = c.deliver.new.self; roster = c.reserve_new.new.roster } in
    subst (λ (z : Kept g.row.H.Denot). (w : Machines) → Stands z w → Stands new (happens (setups_of z) w (HearsFrame c.args.index (moment_of z) (rates (setups_of z) w)))) c.self.view_is
    (λ w s. unheard_stands k new w c.args.index (moment_of k) c.in_ok-deliver.field-0 c.in_ok-deliver.ensures.setups c.in_ok-before.ensures.same (c.in_ok-deliver.ensures.answer w s.wire) (c.is_none.ensures ∙ ap not c.if-is_none.true) (c.in_ok-deliver.ensures.stands w s.wire) s)

pub invariant_of-self-2 : goal.invariant_of-self-2
invariant_of-self-2 g c =
    let k : Kept g.row.H.Denot = record { wire = c.self.inside.wire; roster = c.self.inside.roster } in
    let new : Kept g.row.H.Denot = record { wire = c.deliver.new.self; roster = c.follow.new.roster } in
    holds_on k new (λ w. HearsFrame c.args.index (moment_of k) (rates (setups_of k) w)) c.self.inside.server_lines c.self.inside.node_lines c.in_ok-deliver.ensures.setups
    (λ w s. frame_stands k new w c.args.index (moment_of k) c.hearer-hearer.result c.in_ok-deliver.field-0 c.in_ok-before.before c.reserve_new.new.roster c.in_ok-deliver.ensures.setups c.in_ok-before.ensures.same c.follow.ensures.shows (c.in_ok-deliver.ensures.answer w s.wire) (c.is_none.ensures ∙ ap not c.if-is_none.false)
    (λ p q. c.hearer-hearer.ensures w p (subst (λ (z : Kept g.row.H.Denot). Stands z w) c.self.view_is s) q)
    (c.in_ok-before.ensures.before w s.wire) (c.in_ok-deliver.ensures.stands w s.wire) s)
    c.self.invariant

pub returns-clause-stands : goal.returns-clause-stands
returns-clause-stands g c =
    let k : Kept g.row.H.Denot = record { wire = c.self.inside.wire; roster = c.self.inside.roster } in
    let new : Kept g.row.H.Denot = record { wire = c.deliver.new.self; roster = c.follow.new.roster } in
    subst (λ (z : Kept g.row.H.Denot). (w : Machines) → Stands z w → Stands new (happens (setups_of z) w (HearsFrame c.args.index (moment_of z) (rates (setups_of z) w)))) c.self.view_is
    (λ w s. frame_stands k new w c.args.index (moment_of k) c.hearer-hearer.result c.in_ok-deliver.field-0 c.in_ok-before.before c.reserve_new.new.roster c.in_ok-deliver.ensures.setups c.in_ok-before.ensures.same c.follow.ensures.shows (c.in_ok-deliver.ensures.answer w s.wire) (c.is_none.ensures ∙ ap not c.if-is_none.false)
    (λ p q. c.hearer-hearer.ensures w p (subst (λ (z : Kept g.row.H.Denot). Stands z w) c.self.view_is s) q)
    (c.in_ok-before.ensures.before w s.wire) (c.in_ok-deliver.ensures.stands w s.wire) s)

pub returns-in_err-before-clause-err_stands : goal.returns-in_err-before-clause-err_stands
returns-in_err-before-clause-err_stands g c =
    let k : Kept g.row.H.Denot = record { wire = c.self.inside.wire; roster = c.self.inside.roster } in
    let new : Kept g.row.H.Denot = record { wire = c.self.inside.wire; roster = c.reserve_new.new.roster } in
    on_err c.from_residual.result
    (subst (λ (z : Kept g.row.H.Denot). (w : Machines) → Stands z w → Stands new w) c.self.view_is (λ w s. refused_stands k new w refl c.in_err-before.ensures.same s))

pub returns-in_err-deliver-clause-refused : goal.returns-in_err-deliver-clause-refused
returns-in_err-deliver-clause-refused g c =
    let k : Kept g.row.H.Denot = record { wire = c.self.inside.wire; roster = c.self.inside.roster } in
    let p = err_from_is_err_and c.from_residual-in_err-deliver.result c.from_residual-in_err-deliver.ensures.1 in
    subst (λ (z : Kept g.row.H.Denot). (w : Machines) → Stands z w → RefusedAs c.from_residual-in_err-deliver.result (deliver_refusal (setups_of z) w c.args.index)) c.self.view_is
    (λ w s. same_fault (Unit {0}) c.from_residual-in_err-deliver.result (deliver_refusal (setups_of k) w c.args.index) c.in_err-deliver.field-0.0 (p.1 ∙ ap (λ z. Err z) p.2) (c.in_err-deliver.ensures.refused w s.wire))

pub returns-in_err-deliver-clause-err_stands : goal.returns-in_err-deliver-clause-err_stands
returns-in_err-deliver-clause-err_stands g c =
    let k : Kept g.row.H.Denot = record { wire = c.self.inside.wire; roster = c.self.inside.roster } in
    let new : Kept g.row.H.Denot = record { wire = c.deliver.new.self; roster = c.reserve_new.new.roster } in
    on_err c.from_residual-in_err-deliver.result
    (subst (λ (z : Kept g.row.H.Denot). (w : Machines) → Stands z w → Stands new w) c.self.view_is (λ w s. refused_stands k new w c.in_err-deliver.ensures.err c.in_ok-before.ensures.same s))

pub returns-clause-refused : goal.returns-clause-refused
returns-clause-refused g c =
    subst (λ (z : Kept g.row.H.Denot). (w : Machines) → Stands z w → deliver_refusal (setups_of z) w c.args.index ≡ None) c.self.view_is (λ w s. c.in_ok-deliver.ensures.refused w s.wire)

pub returns-then-is_none-clause-refused : goal.returns-then-is_none-clause-refused
returns-then-is_none-clause-refused g c =
    subst (λ (z : Kept g.row.H.Denot). (w : Machines) → Stands z w → deliver_refusal (setups_of z) w c.args.index ≡ None) c.self.view_is (λ w s. c.in_ok-deliver.ensures.refused w s.wire)

pub invariant_of-self-then-is_none : goal.invariant_of-self-then-is_none
invariant_of-self-then-is_none g c =
    let k : Kept g.row.H.Denot = record { wire = c.self.inside.wire; roster = c.self.inside.roster } in
    let new : Kept g.row.H.Denot = record { wire = c.deliver.new.self; roster = c.reserve_new.new.roster } in
    holds_on k new (λ w. HearsFrame c.args.index (moment_of k) (rates (setups_of k) w)) c.self.inside.server_lines c.self.inside.node_lines c.in_ok-deliver.ensures.setups
    (λ w s. unheard_stands k new w c.args.index (moment_of k) c.in_ok-deliver.field-0 c.in_ok-deliver.ensures.setups c.in_ok-before.ensures.same (c.in_ok-deliver.ensures.answer w s.wire) (c.is_none.ensures ∙ ap not c.if-is_none.true) (c.in_ok-deliver.ensures.stands w s.wire) s)
    c.self.invariant

pub returns-in_err-before-clause-refused : goal.returns-in_err-before-clause-refused
returns-in_err-before-clause-refused c = grind (arith, elements)
