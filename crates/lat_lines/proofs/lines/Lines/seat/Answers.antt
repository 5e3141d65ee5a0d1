use Rattle.std.proofs.Common.{◌≡◌, suc, true, find, length, refl, sym, ap, ap₂, subst, ◌∙◌, arith}
use Rattle.std.specs.Option.{IfSome}
use Rattle.std.proofs.lemmas.Bool.{true≢false}
use Rattle.lat_queue.specs.Histories.{some_key}
use Rattle.lat_stream.specs.Kept.{saturated}
use Rattle.lat_lines.specs.circuits.Info.{telling, telling_of}
use Rattle.lat_machines.specs.cores.Cores.{Seat}
use Rattle.lat_lines.specs.declared.seat.Seat as own
use Rattle.lat_lines.specs.Kept.{Kept, Holds, IsLine}
use Rattle.lat_lines.specs.Stands.{Stands}
use Rattle.lat_lines.specs.Opens.{session_begun, seated_core}
use Rattle.lat_lines.specs.Shown.{shown}
use Rattle.lat_model.specs.circuits.Ids.{is_id_of}
use Rattle.lat_lines.proofs.circuits.Ids.{drawn_core}
use Rattle.lat_lines.proofs.OnLines.{found, found_holds, is_seat_of}
use Rattle.lat_lines.proofs.Pigeons.{one_more}
use Rattle.lat_lines.proofs.Seating.{stands_push, begins, holds_push, none_found, none_is}
use Rattle.lat_lines.proofs.lines.Lines.seat.Goals as goal

pub returns-then-is_some-clause-state : goal.returns-then-is_some-clause-state
returns-then-is_some-clause-state c = λ d serial st h l leads wanted.
    let f = found_holds d c.args.line c.seat_of.result (found c.args.self.now d c.args.line st c.seat_of.result (c.seat_of.ensures ∙ ap (find (is_seat_of c.args.line)) (c.as_slice.ensures.value ∙ ap (λ z. z.seats) c.self.view_is))) in
    absurd (true≢false (sym c.if-is_some.true ∙ c.is_some.ensures ∙ f ∙ h))

pub returns-then-is_some-clause-side : goal.returns-then-is_some-clause-side
returns-then-is_some-clause-side c = λ d st h l.
    let f = found_holds d c.args.line c.seat_of.result (found c.args.self.now d c.args.line st c.seat_of.result (c.seat_of.ensures ∙ ap (find (is_seat_of c.args.line)) (c.as_slice.ensures.value ∙ ap (λ z. z.seats) c.self.view_is))) in
    absurd (true≢false (sym c.if-is_some.true ∙ c.is_some.ensures ∙ f ∙ h))

pub push_reserved-requires : goal.push_reserved-requires
push_reserved-requires c =
    let k = shown c.self.inside in
    let line = subst (λ z. IsLine z.lines c.args.line) (sym c.self.view_is) c.requires.line in
    let none = none_found c.args.line k.seats (sym (ap (find (is_seat_of c.args.line)) c.as_slice.ensures.value) ∙ sym c.seat_of.ensures ∙ none_is c.seat_of.result (sym c.is_some.ensures ∙ c.if-is_some.false)) in
    let few = one_more k c.args.line c.self.invariant.0 line none in
    omega (arith, few, c.self.invariant.1, c.self.inside.seats.ok.0)

pub invariant_of-self : goal.invariant_of-self
invariant_of-self c =
    let k = shown c.self.inside in
    let line = subst (λ z. IsLine z.lines c.args.line) (sym c.self.view_is) c.requires.line in
    let none = none_found c.args.line k.seats (sym (ap (find (is_seat_of c.args.line)) c.as_slice.ensures.value) ∙ sym c.seat_of.ensures ∙ none_is c.seat_of.result (sym c.is_some.ensures ∙ c.if-is_some.false)) in
    let s : own.Seat = record { line = c.args.line; key = c.args.key; session = c.begun-session.result } in (
      subst (λ ss. Holds (record k { seats = ss; made = c.saturating_add-self-inside.result })) (sym c.push_reserved.ensures.items) (holds_push k s c.saturating_add-self-inside.result c.self.invariant.0 line none c.begun-session.ensures.unended),
      omega (arith, c.push_reserved.ensures.capacity, c.self.invariant.1),
      c.self.invariant.2,
    )

pub returns-in-Some-clause-state : goal.returns-in-Some-clause-state
returns-in-Some-clause-state c = λ d serial st h l leads wanted.
    let k = shown c.self.inside in
    let s : own.Seat = record { line = c.args.line; key = c.args.key; session = c.begun-session.result } in
    let t : Seat = record { line = c.args.line; circuit = c.args.circuit; id = c.args.session; serial = serial; key = some_key c.args.key } in
    let line = subst (λ z. IsLine z.lines c.args.line) (sym c.self.view_is) c.requires.line in
    let st2 : Stands k d = subst (λ z. Stands z d) (sym c.self.view_is) st in
    let within = subst (λ o. IfSome o (λ u. is_id_of k.circuits.first k.circuits.drawn c.args.circuit ≡ true)) c.in-Some.is c.info.ensures.within in
    let tells = subst (λ o. IfSome o (λ u. telling u ≡ telling_of d c.args.circuit c.args.session)) c.in-Some.is (c.info.ensures.model d st2.circuits) in
    let drawn : is_id_of d.circuits.first d.circuits.drawn c.args.circuit ≡ true = sym (drawn_core k.circuits d c.args.circuit st2.circuits) ∙ within in
    let made : c.saturating_add-self-inside.result ≡ saturated (suc (length d.seats)) = let m = st2.seated.made in omega (arith, m, c.saturating_add-self-inside.ensures) in
    let begun = begins k d t c.args.key c.begun-session.result c.args.service c.args.request st2 h line l leads wanted drawn refl (c.begun-session.ensures.value ∙ ap₂ (λ n u. session_begun n c.args.circuit c.args.session c.args.service c.args.request u) made tells) in
    subst (λ ss. Stands (record k { seats = ss; made = c.saturating_add-self-inside.result }) (seated_core d t)) (sym c.push_reserved.ensures.items) (stands_push k d t s c.saturating_add-self-inside.result st2 begun made)

pub returns-in-Some-clause-side : goal.returns-in-Some-clause-side
returns-in-Some-clause-side c = λ d st h l.
    let k = shown c.self.inside in
    let st2 : Stands k d = subst (λ z. Stands z d) (sym c.self.view_is) st in
    let side : (d.circuits.circuit_at c.args.circuit).end.half.sessions.master ≡ k.circuits.server =
    subst (λ o. IfSome o (λ u. (d.circuits.circuit_at c.args.circuit).end.half.sessions.master ≡ k.circuits.server)) c.in-Some.is (c.info.ensures.side d st2.circuits) in
    side ∙ ap (λ (z : Kept). z.circuits.server) c.self.view_is
