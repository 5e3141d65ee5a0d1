use Rattle.std.proofs.Common.{◌∙◌, ◌<◌, length, slice_index, refl, sym, ap, subst, arith}
use Rattle.std.proofs.lemmas.Option.{same_Some}
use Rattle.lat_machines.specs.values.Addresses.{address}
use Rattle.lat_machines.specs.cores.Cores.{Core, with_circuits}
use Rattle.lat_machines.specs.cores.Hearing.{outlive_at}
use Rattle.lat_circuit.specs.Kept as circuit
use Rattle.lat_lines.specs.circuits.Kept.{Kept, SameCircuits, IsOwn, ids}
use Rattle.lat_lines.specs.circuits.Shown.{shown}
use Rattle.lat_lines.specs.circuits.Stands.{Stands}
use Rattle.lat_lines.proofs.CircuitsHeld.{each_at}
use Rattle.lat_lines.proofs.circuits.Places.{became, with_at, read_at, own_after, holds_after, same_after}
use Rattle.lat_lines.proofs.circuits.Passing.{is_followed, one_unfollowed, one_followed}
use Rattle.lat_lines.proofs.circuits.Circuits.outlive_at.Goals as goal

pub returns-then-not-is_outlived-clause-state : goal.returns-then-not-is_outlived-clause-state
returns-then-not-is_outlived-clause-state c =
    let q = c.index.result.now in
    let here = read_at c.args.self.now c.self.inside.held.items c.args.at q (ap (λ (k : Kept). k.held) c.self.view_is) c.requires.at c.index.ensures in
    one_unfollowed c.args.self.now (address c.args.from.0) c.args.source c.args.at q here (sym c.is_outlived.ensures ∙ c.if-not-is_outlived.true)

pub invariant_of-self : goal.invariant_of-self
invariant_of-self c =
    let a = c.self.inside in
    let q = c.index_mut-circuit.result.now in
    let low : c.args.at < length a.held.items = omega (arith, c.requires.at, ap (λ (k : Kept). length k.held) c.self.view_is) in
    let config = ap (λ (f : circuit.Facts). f.config) c.lapse.ensures.keeps.facts in
    let id = ap (λ (f : circuit.Facts). f.id) c.lapse.ensures.keeps.facts in
    let here = (became a c.args.at q c.lapse.new.self low c.index_mut-circuit.ensures.value config id).here in
    let own = each_at (IsOwn (shown a)) a.held.items c.args.at q c.self.invariant.0.each here in
    let after : IsOwn (shown a) c.lapse.new.self =
    own_after (shown a) q c.lapse.new.self own config (ap (λ (f : circuit.Facts). f.master) c.lapse.ensures.keeps.facts) c.lapse.ensures.keeps.sessions.0 c.lapse.ensures.keeps.sessions.1 (omega (arith, c.lapse.ensures.keeps.now, own.moment)) in
    (holds_after (shown a) c.args.at q c.lapse.new.self here id after c.self.invariant.0, c.self.invariant.1, c.self.invariant.2)

pub returns-clause-state : goal.returns-clause-state
returns-clause-state c =
    let a = c.self.inside in
    let from = address c.args.from.0 in
    let q = c.index_mut-circuit.result.now in
    let r = c.lapse.new.self in
    let low : c.args.at < length a.held.items = omega (arith, c.requires.at, ap (λ (k : Kept). length k.held) c.self.view_is) in
    let config = ap (λ (f : circuit.Facts). f.config) c.lapse.ensures.keeps.facts in
    let id = ap (λ (f : circuit.Facts). f.id) c.lapse.ensures.keeps.facts in
    let b = became a c.args.at q r low c.index_mut-circuit.ensures.value config id in
    let read = read_at (shown a) a.held.items c.args.at c.index.result.now refl low c.index.ensures in
    let one = same_Some q c.index.result.now (sym b.here ∙ read) in
    let follows = ap (is_followed from c.args.source) one ∙ sym c.is_outlived.ensures ∙ c.if-not-is_outlived.false in
    subst (λ (k : Kept). (d : Core) → Stands k d → Stands (shown (with_at a c.args.at r)) (with_circuits d (outlive_at from c.args.source (slice_index (ids k) c.args.at) d.circuits))) c.self.view_is
    (one_followed (shown a) from c.args.source c.args.at q r (shown (with_at a c.args.at r)) c.self.invariant.0 b follows c.lapse.ensures.state)

pub returns-clause-same : goal.returns-clause-same
returns-clause-same c =
    let a = c.self.inside in
    let q = c.index_mut-circuit.result.now in
    let low : c.args.at < length a.held.items = omega (arith, c.requires.at, ap (λ (k : Kept). length k.held) c.self.view_is) in
    let b = became a c.args.at q c.lapse.new.self low c.index_mut-circuit.ensures.value (ap (λ (f : circuit.Facts). f.config) c.lapse.ensures.keeps.facts) (ap (λ (f : circuit.Facts). f.id) c.lapse.ensures.keeps.facts) in
    subst (λ (k : Kept). SameCircuits k (shown (with_at a c.args.at c.lapse.new.self))) c.self.view_is (same_after (shown a) c.args.at q c.lapse.new.self (shown (with_at a c.args.at c.lapse.new.self)) b)
