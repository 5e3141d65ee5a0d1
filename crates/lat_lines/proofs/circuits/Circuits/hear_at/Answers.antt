use Rattle.std.proofs.Common.{◌≡◌, ◌<◌, length, slice_index, ap, subst, arith}
use Rattle.std.proofs.lemmas.Grind.{common_steps}
use Rattle.lat_machines.specs.cores.Cores.{Core}
use Rattle.lat_machines.specs.values.Answers.{Circuit}
use Rattle.lat_circuit.specs.Messages.{message_shown}
use Rattle.lat_circuit.specs.Hears.{heard_shown}
use Rattle.lat_lines.specs.circuits.Hears.{hears_at}
use Rattle.lat_lines.specs.circuits.Kept.{Kept, SameCircuits, IsOwn, side_of, ids}
use Rattle.lat_lines.specs.circuits.Shown.{shown}
use Rattle.lat_lines.specs.circuits.Stands.{Stands, Simulates}
use Rattle.lat_lines.proofs.CircuitsHeld.{each_at}
use Rattle.lat_lines.proofs.circuits.Heard.{heard_at, heard_answer}
use Rattle.lat_lines.proofs.circuits.Places.{became, with_at, own_after, holds_after, same_after}
use Rattle.lat_lines.proofs.circuits.Circuits.hear_at.Goals as goal

pub invariant_of-self : goal.invariant_of-self
invariant_of-self c =
    let a = c.self.inside in
    let q = c.index_mut-circuit.result.now in
    let r = c.heard.ensures.remains in
    let low : c.args.at < length a.held.items = omega (arith, c.requires.at, ap (λ (k : Kept). length k.held) c.self.view_is) in
    let b = became a c.args.at q c.heard.new.self low c.index_mut-circuit.ensures.value r.config r.id in
    let own = each_at (IsOwn (shown a)) a.held.items c.args.at q c.self.invariant.0.each b.here in
    let after : IsOwn (shown a) c.heard.new.self = own_after (shown a) q c.heard.new.self own r.config r.master r.sessions.0 r.sessions.1 r.moment in
    (holds_after (shown a) c.args.at q c.heard.new.self b.here r.id after c.self.invariant.0, c.self.invariant.1, c.self.invariant.2)

pub returns-clause-did : goal.returns-clause-did
returns-clause-did c =
    let a = c.self.inside in
    let q = c.index_mut-circuit.result.now in
    let r = c.heard.ensures.remains in
    let m = message_shown c.args.m.now in
    let low : c.args.at < length a.held.items = omega (arith, c.requires.at, ap (λ (k : Kept). length k.held) c.self.view_is) in
    let b = became a c.args.at q c.heard.new.self low c.index_mut-circuit.ensures.value r.config r.id in
    let own = each_at (IsOwn (shown a)) a.held.items c.args.at q c.self.invariant.0.each b.here in
    let after : IsOwn (shown a) c.heard.new.self = own_after (shown a) q c.heard.new.self own r.config r.master r.sessions.0 r.sessions.1 r.moment in
    let P : Kept → Type 0 = λ k. Simulates (λ d. (hears_at (side_of k) (slice_index (ids k) c.args.at) m d).doing) k (shown (with_at a c.args.at c.heard.new.self)) c.args.out.now c.heard.new.out in
    subst P c.self.view_is (
    heard_at (shown a) c.args.at q c.heard.new.self (shown (with_at a c.args.at c.heard.new.self)) m c.args.out.now c.heard.new.out c.self.invariant.0 b own after c.heard.ensures.did
    )

pub returns-clause-answer : goal.returns-clause-answer
returns-clause-answer c =
    let a = c.self.inside in
    let q = c.index_mut-circuit.result.now in
    let r = c.heard.ensures.remains in
    let m = message_shown c.args.m.now in
    let low : c.args.at < length a.held.items = omega (arith, c.requires.at, ap (λ (k : Kept). length k.held) c.self.view_is) in
    let b = became a c.args.at q c.heard.new.self low c.index_mut-circuit.ensures.value r.config r.id in
    let own = each_at (IsOwn (shown a)) a.held.items c.args.at q c.self.invariant.0.each b.here in
    let P : Kept → Type 0 = λ k. (d : Core) → Stands k d → Circuit (heard_shown c.heard.result) ≡ (hears_at (side_of k) (slice_index (ids k) c.args.at) m d).answer in
    subst P c.self.view_is (heard_answer (shown a) c.args.at q m c.heard.result b.here own c.heard.ensures.answer)

pub returns-clause-same : goal.returns-clause-same
returns-clause-same c =
    let a = c.self.inside in
    let q = c.index_mut-circuit.result.now in
    let r = c.heard.ensures.remains in
    let low : c.args.at < length a.held.items = omega (arith, c.requires.at, ap (λ (k : Kept). length k.held) c.self.view_is) in
    let b = became a c.args.at q c.heard.new.self low c.index_mut-circuit.ensures.value r.config r.id in
    subst (λ (k : Kept). SameCircuits k (shown (with_at a c.args.at c.heard.new.self))) c.self.view_is (same_after (shown a) c.args.at q c.heard.new.self (shown (with_at a c.args.at c.heard.new.self)) b)

pub heard-requires-clause-lives : goal.heard-requires-clause-lives
heard-requires-clause-lives c = grind (arith, common_steps)

pub heard-requires-clause-moment : goal.heard-requires-clause-moment
heard-requires-clause-moment c = grind (arith, common_steps)
