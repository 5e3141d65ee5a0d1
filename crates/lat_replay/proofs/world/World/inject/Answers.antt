use Rattle.std.proofs.Common.{◌≡◌, ◌∙◌, subst, ap}
use Rattle.lat_machines.specs.values.Addresses.{address}
use Rattle.lat_machines.specs.world.Machines.{Machines, HearsForeign, happens}
use Rattle.lat_payload.specs.Reads.{reading_of}
use Rattle.lat_wire.specs.Rates.{rates}
use Rattle.lat_replay.specs.Kept.{Kept, setups_of, moment_of}
use Rattle.lat_replay.specs.Stands.{Stands}
use Rattle.lat_replay.proofs.Stepping.{foreign_stands, holds_on}
use Rattle.std.proofs.Common.{refl, Err, None}
use Rattle.std.proofs.lemmas.Result.{err_from_is_err_and}
use Rattle.lat_wire.specs.Refusals.{RefusedAs, inject_refusal}
use Rattle.lat_wire.proofs.Refusing.{same_fault}
use Rattle.lat_replay.proofs.Stepping.{refused_stands, on_err}
use Rattle.lat_replay.proofs.world.World.inject.Goals as goal

pub invariant_of-self-2 : goal.invariant_of-self-2
invariant_of-self-2 g c =
    let k : Kept g.row.H.Denot = record { wire = c.self.inside.wire; roster = c.self.inside.roster } in
    let new : Kept g.row.H.Denot = record { wire = c.inject.new.self; roster = c.follow.new.roster } in
    holds_on k new (λ w. HearsForeign c.args.server (address c.args.from.0) (reading_of c.args.payload.now) (moment_of k) (rates (setups_of k) w)) c.self.inside.server_lines c.self.inside.node_lines c.in_ok-inject.ensures.setups
    (λ w s. foreign_stands k new w c.args.server (address c.args.from.0) (moment_of k) (reading_of c.args.payload.now) c.in_ok-before.before c.reserve_new.new.roster c.in_ok-inject.ensures.setups c.in_ok-before.ensures.same c.follow.ensures.shows (c.in_ok-inject.ensures.refused w s.wire) (c.in_ok-before.ensures.before w s.wire) (c.in_ok-inject.ensures.stands w s.wire) s)
    c.self.invariant

pub returns-clause-stands : goal.returns-clause-stands
returns-clause-stands g c =
    let k : Kept g.row.H.Denot = record { wire = c.self.inside.wire; roster = c.self.inside.roster } in
    let new : Kept g.row.H.Denot = record { wire = c.inject.new.self; roster = c.follow.new.roster } in
    subst (λ (z : Kept g.row.H.Denot). (w : Machines) → Stands z w → Stands new (happens (setups_of z) w (HearsForeign c.args.server (address c.args.from.0) (reading_of c.args.payload.now) (moment_of z) (rates (setups_of z) w)))) c.self.view_is
    (λ w s. foreign_stands k new w c.args.server (address c.args.from.0) (moment_of k) (reading_of c.args.payload.now) c.in_ok-before.before c.reserve_new.new.roster c.in_ok-inject.ensures.setups c.in_ok-before.ensures.same c.follow.ensures.shows (c.in_ok-inject.ensures.refused w s.wire) (c.in_ok-before.ensures.before w s.wire) (c.in_ok-inject.ensures.stands w s.wire) s)

pub returns-in_err-before-clause-err_stands : goal.returns-in_err-before-clause-err_stands
returns-in_err-before-clause-err_stands g c =
    let k : Kept g.row.H.Denot = record { wire = c.self.inside.wire; roster = c.self.inside.roster } in
    let new : Kept g.row.H.Denot = record { wire = c.self.inside.wire; roster = c.reserve_new.new.roster } in
    on_err c.from_residual.result
    (subst (λ (z : Kept g.row.H.Denot). (w : Machines) → Stands z w → Stands new w) c.self.view_is (λ w s. refused_stands k new w refl c.in_err-before.ensures.same s))

pub returns-in_err-inject-clause-refused : goal.returns-in_err-inject-clause-refused
returns-in_err-inject-clause-refused g c =
    let k : Kept g.row.H.Denot = record { wire = c.self.inside.wire; roster = c.self.inside.roster } in
    let p = err_from_is_err_and c.from_residual-in_err-inject.result c.from_residual-in_err-inject.ensures.1 in
    subst (λ (z : Kept g.row.H.Denot). (w : Machines) → Stands z w → RefusedAs c.from_residual-in_err-inject.result (inject_refusal (setups_of z) w (address c.args.from.0))) c.self.view_is
    (λ w s. same_fault (Unit {0}) c.from_residual-in_err-inject.result (inject_refusal (setups_of k) w (address c.args.from.0)) c.in_err-inject.field-0.0 (p.1 ∙ ap (λ z. Err z) p.2) (c.in_err-inject.ensures.refused w s.wire))

pub returns-in_err-inject-clause-err_stands : goal.returns-in_err-inject-clause-err_stands
returns-in_err-inject-clause-err_stands g c =
    let k : Kept g.row.H.Denot = record { wire = c.self.inside.wire; roster = c.self.inside.roster } in
    let new : Kept g.row.H.Denot = record { wire = c.inject.new.self; roster = c.reserve_new.new.roster } in
    on_err c.from_residual-in_err-inject.result
    (subst (λ (z : Kept g.row.H.Denot). (w : Machines) → Stands z w → Stands new w) c.self.view_is (λ w s. refused_stands k new w c.in_err-inject.ensures.err c.in_ok-before.ensures.same s))

pub returns-clause-refused : goal.returns-clause-refused
returns-clause-refused g c =
    subst (λ (z : Kept g.row.H.Denot). (w : Machines) → Stands z w → inject_refusal (setups_of z) w (address c.args.from.0) ≡ None) c.self.view_is (λ w s. c.in_ok-inject.ensures.refused w s.wire)
