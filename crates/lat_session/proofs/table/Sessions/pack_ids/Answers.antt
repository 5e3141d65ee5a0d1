use Rattle.std.proofs.Common.{◌≡◌, ◌-◌, refl, subst, arith, map, le_refl, rules}
use Rattle.lat_model.specs.Lists.{upwards}
use Rattle.lat_model.specs.sessions.Packing.{turn_all}
use Rattle.lat_session.specs.Packed.{Packed}
use Rattle.lat_session.proofs.PackAll.{turns_no_rejects}
use Rattle.lat_session.proofs.PackLoops.{ids_more}
use Rattle.lat_session.proofs.table.Sessions.pack_ids.Goals as goal

pub loop-at-init : goal.loop-at-init
loop-at-init c =
    let none : 0 ≡ c.args.from - c.args.from = omega arith in
    (λ before p h n. subst (λ k. Packed before c.args.self.now c.args.progress.now c.args.out.now (turn_all (map p.after.at_id (upwards c.args.from k)) p)) none h, le_refl _, refl, le_refl _, c.requires.ids.0, (refl, refl, refl))

pub loop-at-preserved : goal.loop-at-preserved
loop-at-preserved c = (
  λ before p h n.
      subst (λ z. Packed before c.pack_id.new.self c.pack_id.new.progress c.pack_id.new.out z) (ids_more p c.args.from c.loop-at.at c.loop-at.invariant.3)
      (c.pack_id.ensures.packed before (turn_all (map p.after.at_id (upwards c.args.from (c.loop-at.at - c.args.from))) p) (c.loop-at.invariant.0 before p h n) (turns_no_rejects (map p.after.at_id (upwards c.args.from (c.loop-at.at - c.args.from))) p n)),
  search rules,
  search rules,
  search rules,
  search rules,
  search rules,
)

pub returns-clause-packed : goal.returns-clause-packed
returns-clause-packed c = λ before p h n.
    let last : c.loop-at.at ≡ c.args.to = omega (arith, c.loop-at.invariant.4, c.loop-at-test.false) in
    subst (λ k. Packed before c.loop-at.self c.loop-at.progress c.loop-at.out (turn_all (map p.after.at_id (upwards c.args.from (k - c.args.from))) p)) last (c.loop-at.invariant.0 before p h n)

pub returns-clause-sent : goal.returns-clause-sent
returns-clause-sent c = λ p n. turns_no_rejects (map p.after.at_id (upwards c.args.from (c.args.to - c.args.from))) p n
