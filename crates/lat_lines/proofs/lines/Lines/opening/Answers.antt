use Rattle.std.proofs.Common.{◌≡◌, true, false, cond, ◌&&◌, nat_lt, lt-ltb, Some, None, Ok, Err, sym, ap, subst, ◌∙◌, arith}
use Rattle.std.specs.Option.{IfSome}
use Rattle.std.proofs.lemmas.Bool.{and_parts, le-ltb}
use Rattle.lat_model.specs.ends.End.{lives}
use Rattle.lat_machines.specs.values.Addresses.{address}
use Rattle.lat_machines.specs.cores.Cores.{circuit_to}
use Rattle.lat_machines.specs.server.Server.{has_room}
use Rattle.lat_lines.specs.circuits.Opens.{id_or_zero}
use Rattle.lat_lines.specs.Stands.{Stands}
use Rattle.lat_lines.specs.Shown.{shown}
use Rattle.lat_lines.specs.declared.opening.OpenFault.TheVariants.{SessionsFull, CircuitsFull, IdsOut}
use Rattle.lat_lines.proofs.Ways.{way_living, way_none}
use Rattle.lat_lines.proofs.lines.Lines.opening.Goals as goal

pub returns-in-Some-clause-way : goal.returns-in-Some-clause-way
returns-in-Some-clause-way c = λ d st.
    let x = c.in-Some.circuit in
    let s : Stands (shown c.self.inside) d = subst (λ z. Stands z d) (sym c.self.view_is) st in
    let is : x ≡ circuit_to d (address c.args.peer.0) = ap id_or_zero (sym c.in-Some.is) ∙ c.to.ensures.model d s.circuits in
    let l : lives (d.circuits.circuit_at x).end ≡ true = subst (λ o. IfSome o (λ i. lives (d.circuits.circuit_at i).end ≡ true)) c.in-Some.is (c.to.ensures.lives d s.circuits) in
    let room = (and_parts (lives (d.circuits.circuit_at x).end) (has_room d x) (sym (c.has_room.ensures.model d s.circuits) ∙ c.if-has_room.true)).1 in
    sym (way_living d (address c.args.peer.0) x is st.none l ∙ ap (λ b. cond b (Ok (Some x)) (Err SessionsFull)) room)

pub returns-in-Some-2-clause-way : goal.returns-in-Some-2-clause-way
returns-in-Some-2-clause-way c = λ d st.
    let x = c.in-Some.circuit in
    let s : Stands (shown c.self.inside) d = subst (λ z. Stands z d) (sym c.self.view_is) st in
    let is : x ≡ circuit_to d (address c.args.peer.0) = ap id_or_zero (sym c.in-Some.is) ∙ c.to.ensures.model d s.circuits in
    let l : lives (d.circuits.circuit_at x).end ≡ true = subst (λ o. IfSome o (λ i. lives (d.circuits.circuit_at i).end ≡ true)) c.in-Some.is (c.to.ensures.lives d s.circuits) in
    let room : has_room d x ≡ false = ap (λ b. b && has_room d x) (sym l) ∙ sym (c.has_room.ensures.model d s.circuits) ∙ c.if-has_room.false in
    sym (way_living d (address c.args.peer.0) x is st.none l ∙ ap (λ b. cond b (Ok (Some x)) (Err SessionsFull)) room)

pub returns-in-None-clause-way : goal.returns-in-None-clause-way
returns-in-None-clause-way c = λ d st.
    let s : Stands (shown c.self.inside) d = subst (λ z. Stands z d) (sym c.self.view_is) st in
    let is = ap id_or_zero (sym c.in-None.is) ∙ c.to.ensures.model d s.circuits in
    let many = c.living.ensures.model d s.circuits in
    sym (way_none d (address c.args.peer.0) is ∙ ap (λ b. cond b (cond (nat_lt d.circuits.drawn 65535) (Ok None) (Err IdsOut)) (Err CircuitsFull)) (le-ltb _ _ (omega (arith, many, c.if-living-ge-CIRCUITS.true))))

pub returns-in-None-2-clause-way : goal.returns-in-None-2-clause-way
returns-in-None-2-clause-way c = λ d st.
    let s : Stands (shown c.self.inside) d = subst (λ z. Stands z d) (sym c.self.view_is) st in
    let is = ap id_or_zero (sym c.in-None.is) ∙ c.to.ensures.model d s.circuits in
    let many = c.living.ensures.model d s.circuits in
    let last = c.drawn.ensures.model d s.circuits in
    sym (way_none d (address c.args.peer.0) is
    ∙ ap (λ b. cond b (cond (nat_lt d.circuits.drawn 65535) (Ok None) (Err IdsOut)) (Err CircuitsFull)) (lt-ltb _ _ (omega (arith, many, c.if-living-ge-CIRCUITS.false)))
    ∙ ap (λ b. cond b (Ok None) (Err IdsOut)) (le-ltb _ _ (omega (arith, last, c.if-drawn.true))))

pub returns-in-None-3-clause-way : goal.returns-in-None-3-clause-way
returns-in-None-3-clause-way c = λ d st.
    let s : Stands (shown c.self.inside) d = subst (λ z. Stands z d) (sym c.self.view_is) st in
    let is = ap id_or_zero (sym c.in-None.is) ∙ c.to.ensures.model d s.circuits in
    let many = c.living.ensures.model d s.circuits in
    let last = c.drawn.ensures.model d s.circuits in
    sym (way_none d (address c.args.peer.0) is
    ∙ ap (λ b. cond b (cond (nat_lt d.circuits.drawn 65535) (Ok None) (Err IdsOut)) (Err CircuitsFull)) (lt-ltb _ _ (omega (arith, many, c.if-living-ge-CIRCUITS.false)))
    ∙ ap (λ b. cond b (Ok None) (Err IdsOut)) (lt-ltb _ _ (omega (arith, last, c.if-drawn.false, c.drawn.type_inv))))
