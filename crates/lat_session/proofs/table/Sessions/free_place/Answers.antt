use Rattle.std.proofs.Common.{◌≡◌, ◌-◌, ◌<◌, ◌≤◌, ◌∙◌, sym, ap, arith, true, false, cond, length, lt-ltb, is_some, Some, None}
use Rattle.std.proofs.lemmas.Bool.{le-ltb}
use Rattle.lat_model.specs.sessions.Hearing.{is_full}
use Rattle.lat_model.specs.sessions.Sessions.{held, least_free}
use Rattle.lat_session.specs.States.{held_in}
use Rattle.lat_session.specs.Table.{Table}
use Rattle.lat_session.proofs.Counts.{free_place, place_left}
use Rattle.lat_session.proofs.HearAsked.{full_by, free_by}
use Rattle.lat_session.proofs.table.Sessions.free_place.Goals as goal

pub returns-then-held-self-clause-model : goal.returns-then-held-self-clause-model
returns-then-held-self-clause-model c = λ e st.
    let agreed : c.self.inside.agreed ≡ e.agreed = ap (λ (z : Table). z.agreed) (c.self.view_is ∙ st.is) in
    let full : is_full e ≡ true = full_by e.agreed (held e) (omega (arith, agreed, c.held.ensures.model e st, c.if-held-self.true)) in
    sym (ap (λ b. cond b None (Some (least_free e - 1))) full)

pub returns-clause-model : goal.returns-clause-model
returns-clause-model c = λ e st.
    let agreed : c.self.inside.agreed ≡ e.agreed = ap (λ (z : Table). z.agreed) (c.self.view_is ∙ st.is) in
    let less : held e < e.agreed = omega (arith, agreed, c.held.ensures.model e st, c.if-held-self.false) in
    let free : is_full e ≡ false = free_by e.agreed (held e) less in
    c.first_free.ensures ∙ free_place c.args.self.now e st less ∙ sym (ap (λ b. cond b None (Some (least_free e - 1))) free)

pub returns-then-held-self-clause-room : goal.returns-then-held-self-clause-room
returns-then-held-self-clause-room c =
    let agreed = ap (λ (z : Table). z.agreed) c.self.view_is in
    sym (le-ltb _ _ (omega (arith, agreed, c.held.ensures.value, c.if-held-self.true)))

pub returns-clause-room : goal.returns-clause-room
returns-clause-room c =
    let t = c.args.self.now in
    let agreed = ap (λ (z : Table). z.agreed) c.self.view_is in
    let less : held_in t.sessions < t.agreed = omega (arith, agreed, c.held.ensures.value, c.if-held-self.false) in
    let most : t.agreed ≤ length t.sessions = omega (arith, agreed, c.self.invariant.2, ap (λ (z : Table). length z.sessions) c.self.view_is) in
    ap is_some c.first_free.ensures ∙ place_left t.sessions t.agreed less most ∙ sym (lt-ltb _ _ less)
