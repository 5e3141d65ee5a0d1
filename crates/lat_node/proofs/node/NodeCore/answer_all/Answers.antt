use Rattle.std.proofs.Common.{◌≡◌, ◌+◌, ◌-◌, ℕ, suc, sym, subst, refl, arith}
use Rattle.lat_model.specs.Lists.{upwards}
use Rattle.lat_machines.specs.node.Node.{NodeConfig, answers_in, answers_one}
use Rattle.lat_node.specs.Kept.{config_of}
use Rattle.lat_node.specs.Stands.{Stands}
use Rattle.lat_node.proofs.AskedLemmas.{lives_in, answers_next}
use Rattle.lat_node.proofs.StepLemmas.{same_twice}
use Rattle.lat_node.proofs.node.NodeCore.answer_all.Goals as goal

pub loop-id-init : goal.loop-id-init
loop-id-init g c = record { state = λ s st lives. st; same = record { config = refl; rule = refl } }

pub loop-id-preserved : goal.loop-id-preserved
loop-id-preserved g c =
    let config = config_of {H = g.row.H.Denot} c.args.self.now in
    let n = c.loop-id.id - 1 in
    let here : suc n ≡ c.loop-id.id = omega (arith, c.loop-id.auto.id) in
    let next : suc n ≡ c.loop-id.id + 1 - 1 = omega (arith, c.loop-id.auto.id) in
    record {
      state = λ s st lives.
          let t = answers_in config c.args.circuit (upwards 0 n) s in
          let one = c.answer_at.ensures.state t (c.loop-id.invariant.state s st lives) (lives_in config c.args.circuit (upwards 0 n) s lives) in
          let same = subst (λ (x : NodeConfig). Stands {H = g.row.H.Denot} c.answer_at.new.self (answers_one x c.args.circuit t c.loop-id.id)) c.loop-id.invariant.same.config one in
          subst (λ (m : ℕ). Stands {H = g.row.H.Denot} c.answer_at.new.self (answers_in config c.args.circuit (upwards 0 m) s)) next
          (subst (Stands {H = g.row.H.Denot} c.answer_at.new.self) (sym (answers_next config c.args.circuit n s))
          (subst (λ (i : ℕ). Stands {H = g.row.H.Denot} c.answer_at.new.self (answers_one config c.args.circuit t i)) (sym here) same));
      same = same_twice c.args.self.now c.loop-id.self c.answer_at.new.self c.loop-id.invariant.same c.answer_at.ensures.same;
    }

pub returns-clause-state : goal.returns-clause-state
returns-clause-state g c = λ s st lives.
    let all : c.loop-id.id - 1 ≡ 64 = omega (arith, c.loop-id-test.false, c.loop-id.auto.id-end (omega arith)) in
    subst (λ (m : ℕ). Stands {H = g.row.H.Denot} c.loop-id.self (answers_in (config_of {H = g.row.H.Denot} c.args.self.now) c.args.circuit (upwards 0 m) s)) all (c.loop-id.invariant.state s st lives)

pub returns-clause-same : goal.returns-clause-same
returns-clause-same g c = c.loop-id.invariant.same
