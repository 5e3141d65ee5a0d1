use Rattle.std.proofs.Common.{◌≤◌, ◌<◌, ◌∙◌, ◌&&◌, nat_lt, length, sym, ap, subst, arith, lt-ltb, le-ltb}
use Rattle.lat_lines.specs.circuits.Kept.{Kept, Holds}
use Rattle.lat_lines.proofs.circuits.Answered.{fact_is}
use Rattle.lat_lines.proofs.circuits.Circuits.has_place.Goals as goal

pub returns-then-len-lt-CIRCUITS-clause-model : goal.returns-then-len-lt-CIRCUITS-clause-model
returns-then-len-lt-CIRCUITS-clause-model c = λ d st clear.
    let k = c.args.self.now in
    let low : length k.held < 8 = omega (arith, c.len.ensures, c.self.inside.held.ok.0, ap (λ (z : Kept). length z.held) c.self.view_is, c.if-len-lt-CIRCUITS.true) in
    fact_is k d (nat_lt c.self.inside.drawn 65535) (subst Holds c.self.view_is c.self.invariant.0) clear st
    (ap (λ b. b && nat_lt k.drawn 65535) (lt-ltb (length k.held) 8 low) ∙ ap (λ (z : Kept). nat_lt z.drawn 65535) (sym c.self.view_is))

pub returns-else-len-lt-CIRCUITS-clause-model : goal.returns-else-len-lt-CIRCUITS-clause-model
returns-else-len-lt-CIRCUITS-clause-model c = λ d st clear.
    let k = c.args.self.now in
    let many : 8 ≤ length k.held = omega (arith, c.len.ensures, c.self.inside.held.ok.0, ap (λ (z : Kept). length z.held) c.self.view_is, c.if-len-lt-CIRCUITS.false) in
    fact_is k d (nat_lt c.len.result 8) (subst Holds c.self.view_is c.self.invariant.0) clear st
    (ap (λ b. b && nat_lt k.drawn 65535) (le-ltb (length k.held) 8 many) ∙ sym (le-ltb c.len.result 8 c.if-len-lt-CIRCUITS.false))
