use Rattle.std.proofs.Common.{find, sym, ap, subst, ◌∙◌}
use Rattle.lat_lines.specs.Stands.{Stands}
use Rattle.lat_lines.specs.Shown.{shown}
use Rattle.lat_lines.proofs.OnLines.{HasSeat, Found, found, is_seat_of}
use Rattle.lat_lines.proofs.Telling.{room_told, room_none}
use Rattle.lat_lines.proofs.lines.Lines.room.Goals as goal

pub returns-in-Some : goal.returns-in-Some
returns-in-Some c = λ d st.
    let k = shown c.self.inside in
    let st2 : Stands k d = subst (λ z. Stands z d) (sym c.self.view_is) st in
    let f : HasSeat d c.args.line c.in-Some.seat = subst (Found d c.args.line) c.in-Some.is (found k d c.args.line st2 c.seat_of.result (c.seat_of.ensures ∙ ap (find (is_seat_of c.args.line)) c.as_slice.ensures.value)) in
    c.room.ensures d st2.circuits ∙ room_told k d c.args.line c.in-Some.seat st2 f

pub returns-in-None : goal.returns-in-None
returns-in-None c = λ d st.
    let f = subst (Found d c.args.line) c.in-None.is (found c.args.self.now d c.args.line st c.seat_of.result (c.seat_of.ensures ∙ ap (find (is_seat_of c.args.line)) (c.as_slice.ensures.value ∙ ap (λ z. z.seats) c.self.view_is))) in
    room_none d c.args.line f
