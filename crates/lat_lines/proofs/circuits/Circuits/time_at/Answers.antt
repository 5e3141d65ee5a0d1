use Rattle.std.proofs.Common.{◌∙◌, ◌<◌, length, is_none, slice_index, refl, sym, ap, subst, arith}
use Rattle.std.proofs.lemmas.Option.{same_Some}
use Rattle.std.proofs.lemmas.Grind.{common_steps}
use Rattle.lat_model.specs.ends.Timers.{time_step}
use Rattle.lat_circuit.specs.Kept as circuit
use Rattle.lat_lines.specs.circuits.Kept.{Kept, SameCircuits, IsOwn, side_of, ids}
use Rattle.lat_lines.specs.circuits.Shown.{shown}
use Rattle.lat_lines.specs.circuits.Stands.{Simulates}
use Rattle.lat_lines.specs.circuits.Times.{passes_one}
use Rattle.lat_lines.proofs.CircuitsHeld.{each_at}
use Rattle.lat_lines.proofs.circuits.Places.{became, with_at, read_at, own_after, holds_after, same_after}
use Rattle.lat_lines.proofs.circuits.Each.{steps_alone, one_ended}
use Rattle.lat_lines.proofs.circuits.Passing.{time_lives}
use Rattle.lat_lines.proofs.circuits.Circuits.time_at.Goals as goal

pub returns-then-not-lives-clause-did : goal.returns-then-not-lives-clause-did
returns-then-not-lives-clause-did c =
    let q = c.index.result.now in
    let here = read_at c.args.self.now c.self.inside.held.items c.args.at q (ap (λ (k : Kept). k.held) c.self.view_is) c.requires.at c.index.ensures in
    one_ended (passes_one (side_of c.args.self.now)) (steps_alone (side_of c.args.self.now) (λ d e. time_step d.moment e)) c.args.self.now c.args.at q c.args.out.now here (sym c.lives.ensures.value ∙ c.if-not-lives.true)

pub invariant_of-self : goal.invariant_of-self
invariant_of-self c =
    let a = c.self.inside in
    let q = c.index_mut-circuit.result.now in
    let low : c.args.at < length a.held.items = omega (arith, c.requires.at, ap (λ (k : Kept). length k.held) c.self.view_is) in
    let config = ap (λ (f : circuit.Facts). f.config) c.time.ensures.facts in
    let id = ap (λ (f : circuit.Facts). f.id) c.time.ensures.facts in
    let here = (became a c.args.at q c.time.new.self low c.index_mut-circuit.ensures.value config id).here in
    let own = each_at (IsOwn (shown a)) a.held.items c.args.at q c.self.invariant.0.each here in
    let after : IsOwn (shown a) c.time.new.self =
    own_after (shown a) q c.time.new.self own config (ap (λ (f : circuit.Facts). f.master) c.time.ensures.facts) c.time.ensures.sessions.0 c.time.ensures.sessions.1 (omega (arith, c.time.ensures.moment)) in
    (holds_after (shown a) c.args.at q c.time.new.self here id after c.self.invariant.0, c.self.invariant.1, c.self.invariant.2)

pub returns-clause-did : goal.returns-clause-did
returns-clause-did c =
    let a = c.self.inside in
    let q = c.index_mut-circuit.result.now in
    let r = c.time.new.self in
    let low : c.args.at < length a.held.items = omega (arith, c.requires.at, ap (λ (k : Kept). length k.held) c.self.view_is) in
    let config = ap (λ (f : circuit.Facts). f.config) c.time.ensures.facts in
    let id = ap (λ (f : circuit.Facts). f.id) c.time.ensures.facts in
    let b = became a c.args.at q r low c.index_mut-circuit.ensures.value config id in
    let own = each_at (IsOwn (shown a)) a.held.items c.args.at q c.self.invariant.0.each b.here in
    let after : IsOwn (shown a) r =
    own_after (shown a) q r own config (ap (λ (f : circuit.Facts). f.master) c.time.ensures.facts) c.time.ensures.sessions.0 c.time.ensures.sessions.1 (omega (arith, c.time.ensures.moment)) in
    let read = read_at (shown a) a.held.items c.args.at c.index.result.now refl low c.index.ensures in
    let one = same_Some q c.index.result.now (sym b.here ∙ read) in
    let alive = ap (λ (z : circuit.Kept). is_none z.ended) one ∙ sym c.lives.ensures.value ∙ c.if-not-lives.false in
    let P : Kept → Type 0 = λ k. Simulates (passes_one (side_of k) (slice_index (ids k) c.args.at)) k (shown (with_at a c.args.at r)) c.args.out.now c.time.new.out in
    subst P c.self.view_is (
    time_lives (shown a) c.args.at q r (shown (with_at a c.args.at r)) c.args.out.now c.time.new.out c.self.invariant.0 b after alive c.time.ensures.did
    )

pub returns-clause-same : goal.returns-clause-same
returns-clause-same c =
    let a = c.self.inside in
    let q = c.index_mut-circuit.result.now in
    let low : c.args.at < length a.held.items = omega (arith, c.requires.at, ap (λ (k : Kept). length k.held) c.self.view_is) in
    let b = became a c.args.at q c.time.new.self low c.index_mut-circuit.ensures.value (ap (λ (f : circuit.Facts). f.config) c.time.ensures.facts) (ap (λ (f : circuit.Facts). f.id) c.time.ensures.facts) in
    subst (λ (k : Kept). SameCircuits k (shown (with_at a c.args.at c.time.new.self))) c.self.view_is (same_after (shown a) c.args.at q c.time.new.self (shown (with_at a c.args.at c.time.new.self)) b)

pub time-requires-clause-lives : goal.time-requires-clause-lives
time-requires-clause-lives c = grind (arith, common_steps)

pub time-requires-clause-moment : goal.time-requires-clause-moment
time-requires-clause-moment c = grind (arith, common_steps)
