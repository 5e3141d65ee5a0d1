use Rattle.std.proofs.Common.{find, sym, ap, subst, ◌∙◌}
use Rattle.lat_lines.specs.Answers.{ready_at}
use Rattle.lat_lines.specs.Stands.{Stands}
use Rattle.lat_lines.specs.Shown.{shown}
use Rattle.lat_lines.proofs.OnLines.{HasSeat, Found, found, is_seat_of}
use Rattle.lat_lines.proofs.Telling.{waiting_told, waiting_none}
use Rattle.lat_lines.proofs.lines.Lines.waiting.Goals as goal

pub returns-in-Some-clause-value : goal.returns-in-Some-clause-value
returns-in-Some-clause-value c =
    c.waiting.ensures.value
    ∙ ap (ready_at (shown c.self.inside)) (sym c.in-Some.is ∙ c.seat_of.ensures ∙ ap (find (is_seat_of c.args.line)) c.as_slice.ensures.value)
    ∙ ap (λ k. ready_at k (find (is_seat_of c.args.line) k.seats)) c.self.view_is

pub returns-in-Some-clause-model : goal.returns-in-Some-clause-model
returns-in-Some-clause-model c = λ d st.
    let k = shown c.self.inside in
    let st2 : Stands k d = subst (λ z. Stands z d) (sym c.self.view_is) st in
    let f : HasSeat d c.args.line c.in-Some.seat = subst (Found d c.args.line) c.in-Some.is (found k d c.args.line st2 c.seat_of.result (c.seat_of.ensures ∙ ap (find (is_seat_of c.args.line)) c.as_slice.ensures.value)) in
    c.waiting.ensures.model d st2.circuits ∙ waiting_told k d c.args.line c.in-Some.seat st2 f

pub returns-in-None-clause-value : goal.returns-in-None-clause-value
returns-in-None-clause-value c =
    ap (ready_at (shown c.self.inside)) (sym c.in-None.is ∙ c.seat_of.ensures ∙ ap (find (is_seat_of c.args.line)) c.as_slice.ensures.value)
    ∙ ap (λ k. ready_at k (find (is_seat_of c.args.line) k.seats)) c.self.view_is

pub returns-in-None-clause-model : goal.returns-in-None-clause-model
returns-in-None-clause-model c = λ d st.
    let f = subst (Found d c.args.line) c.in-None.is (found c.args.self.now d c.args.line st c.seat_of.result (c.seat_of.ensures ∙ ap (find (is_seat_of c.args.line)) (c.as_slice.ensures.value ∙ ap (λ z. z.seats) c.self.view_is))) in
    waiting_none d c.args.line f
