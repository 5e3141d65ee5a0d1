use Rattle.std.proofs.Common.{◌≡◌, ◌*◌, Bool, true, false, not, ◌&&◌, nat_eq, refl, sym, ap, subst, ◌∙◌}
use Rattle.lat_model.specs.ends.Timers.{passed}
use Rattle.lat_model.specs.sessions.Sessions.{held}
use Rattle.lat_circuit.specs.Stands.{Stands}
use Rattle.lat_circuit.proofs.Agreeing.{cheap_first}
use Rattle.lat_circuit.proofs.circuit.Circuit.is_unused.Goals as goal

twice : (y : Bool) → not (not y) ≡ y
twice true = refl
twice false = refl

pub returns-then-keepalive_is_over : goal.returns-then-keepalive_is_over
returns-then-keepalive_is_over c = λ e st.
    let here = subst (λ k. Stands k e) (sym c.self.view_is) st in
    let free = nat_eq (held e.half.sessions) 0 in
    let over = ap (λ n. e.master && e.running && passed n (1000 * e.keepalive) e) here.moments.empty_at in
    ap not (c.is_held.ensures e st)
    ∙ twice free
    ∙ ap (λ b. b && free) (sym c.if-keepalive_is_over.true ∙ c.keepalive_is_over.ensures.model e st ∙ over)
    ∙ cheap_first e.master e.running (passed e.empty_at (1000 * e.keepalive) e) free

pub returns-else-keepalive_is_over : goal.returns-else-keepalive_is_over
returns-else-keepalive_is_over c = λ e st.
    let here = subst (λ k. Stands k e) (sym c.self.view_is) st in
    let free = nat_eq (held e.half.sessions) 0 in
    let over = ap (λ n. e.master && e.running && passed n (1000 * e.keepalive) e) here.moments.empty_at in
    c.if-keepalive_is_over.false
    ∙ ap (λ b. b && free) (sym c.if-keepalive_is_over.false ∙ c.keepalive_is_over.ensures.model e st ∙ over)
    ∙ cheap_first e.master e.running (passed e.empty_at (1000 * e.keepalive) e) free
