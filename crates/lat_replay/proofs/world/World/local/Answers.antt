use Rattle.std.proofs.Common.{◌≡◌, ◌∙◌, subst, ap}
use Rattle.lat_machines.specs.world.Machines.{Machines, Does, happens}
use Rattle.lat_lines.specs.Events.{event_shown}
use Rattle.lat_wire.specs.Rates.{rates}
use Rattle.lat_replay.specs.Kept.{Kept, setups_of, moment_of}
use Rattle.lat_replay.specs.Stands.{Stands}
use Rattle.lat_replay.proofs.Stepping.{local_stands, holds_on}
use Rattle.std.proofs.Common.{refl, Err, None}
use Rattle.std.proofs.lemmas.Result.{err_from_is_err_and}
use Rattle.lat_wire.specs.Refusals.{RefusedAs, local_refusal}
use Rattle.lat_wire.proofs.Refusing.{same_fault}
use Rattle.lat_replay.proofs.Stepping.{refused_stands, on_err, fits}
use Rattle.lat_replay.proofs.world.World.local.Goals as goal

pub invariant_of-self-2 : goal.invariant_of-self-2
invariant_of-self-2 g c =
    let k : Kept g.row.H.Denot = record { wire = c.self.inside.wire; roster = c.self.inside.roster } in
    let new : Kept g.row.H.Denot = record { wire = c.local.new.self; roster = c.follow.new.roster } in
    holds_on k new (λ w. Does c.args.server (event_shown c.args.event.now) (rates (setups_of k) w)) c.self.inside.server_lines c.self.inside.node_lines c.in_ok-answer.ensures.setups
    (λ w s. local_stands k new w c.args.server c.args.event.now c.in_ok-answer.answer c.in_ok-before.before c.reserve_for.new.roster c.add_items.new.roster c.requires c.in_ok-answer.ensures.setups c.in_ok-before.ensures.same c.add_items.ensures.shows c.follow.ensures.shows (c.in_ok-answer.ensures.answer w s.wire) (c.in_ok-before.ensures.before w s.wire) (c.in_ok-answer.ensures.stands w s.wire) s)
    c.self.invariant

pub returns-clause-stands : goal.returns-clause-stands
returns-clause-stands g c =
    let k : Kept g.row.H.Denot = record { wire = c.self.inside.wire; roster = c.self.inside.roster } in
    let new : Kept g.row.H.Denot = record { wire = c.local.new.self; roster = c.follow.new.roster } in
    subst (λ (z : Kept g.row.H.Denot). (w : Machines) → Stands z w → Stands new (happens (setups_of z) w (Does c.args.server (event_shown c.args.event.now) (rates (setups_of z) w)))) c.self.view_is
    (λ w s. local_stands k new w c.args.server c.args.event.now c.in_ok-answer.answer c.in_ok-before.before c.reserve_for.new.roster c.add_items.new.roster c.requires c.in_ok-answer.ensures.setups c.in_ok-before.ensures.same c.add_items.ensures.shows c.follow.ensures.shows (c.in_ok-answer.ensures.answer w s.wire) (c.in_ok-before.ensures.before w s.wire) (c.in_ok-answer.ensures.stands w s.wire) s)

pub returns-in_err-before-clause-err_stands : goal.returns-in_err-before-clause-err_stands
returns-in_err-before-clause-err_stands g c =
    let k : Kept g.row.H.Denot = record { wire = c.self.inside.wire; roster = c.self.inside.roster } in
    let new : Kept g.row.H.Denot = record { wire = c.self.inside.wire; roster = c.reserve_for.new.roster } in
    on_err c.from_residual.result
    (subst (λ (z : Kept g.row.H.Denot). (w : Machines) → Stands z w → Stands new w) c.self.view_is (λ w s. refused_stands k new w refl c.in_err-before.ensures.same s))

pub returns-in_err-answer-clause-refused : goal.returns-in_err-answer-clause-refused
returns-in_err-answer-clause-refused g c =
    let k : Kept g.row.H.Denot = record { wire = c.self.inside.wire; roster = c.self.inside.roster } in
    let p = err_from_is_err_and c.from_residual-in_err-answer.result c.from_residual-in_err-answer.ensures.1 in
    subst (λ (z : Kept g.row.H.Denot). (w : Machines) → Stands z w → RefusedAs c.from_residual-in_err-answer.result (local_refusal w (moment_of z) (event_shown c.args.event.now))) c.self.view_is
    (λ w s. same_fault (Unit {0}) c.from_residual-in_err-answer.result (local_refusal w (moment_of k) (event_shown c.args.event.now)) c.in_err-answer.field-0.0 (p.1 ∙ ap (λ z. Err z) p.2) (c.in_err-answer.ensures.refused w s.wire))

pub returns-in_err-answer-clause-err_stands : goal.returns-in_err-answer-clause-err_stands
returns-in_err-answer-clause-err_stands g c =
    let k : Kept g.row.H.Denot = record { wire = c.self.inside.wire; roster = c.self.inside.roster } in
    let new : Kept g.row.H.Denot = record { wire = c.local.new.self; roster = c.reserve_for.new.roster } in
    on_err c.from_residual-in_err-answer.result
    (subst (λ (z : Kept g.row.H.Denot). (w : Machines) → Stands z w → Stands new w) c.self.view_is (λ w s. refused_stands k new w c.in_err-answer.ensures.err c.in_ok-before.ensures.same s))

pub returns-clause-refused : goal.returns-clause-refused
returns-clause-refused g c =
    subst (λ (z : Kept g.row.H.Denot). (w : Machines) → Stands z w → local_refusal w (moment_of z) (event_shown c.args.event.now) ≡ None) c.self.view_is (λ w s. c.in_ok-answer.ensures.refused w s.wire)

pub add_items-requires : goal.add_items-requires
add_items-requires g c =
    fits c.self.inside.wire c.self.invariant.world c.reserve_for.new.roster c.args.server c.args.event.now c.in_ok-answer.answer c.self.invariant.stands.wire c.in_ok-before.ensures.items
    (c.in_ok-answer.ensures.answer c.self.invariant.world c.self.invariant.stands.wire)
