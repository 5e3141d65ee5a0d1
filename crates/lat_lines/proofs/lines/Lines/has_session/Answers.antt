use Rattle.lat_lines.proofs.OnLines.{found, found_holds, is_seat_of}
use Rattle.std.proofs.Common.{find, ap, ◌∙◌}
use Rattle.lat_lines.proofs.lines.Lines.has_session.Goals as goal

pub returns : goal.returns
returns c = λ d st.
    c.is_some.ensures
    ∙ found_holds d c.args.line c.seat_of.result (found c.args.self.now d c.args.line st c.seat_of.result (c.seat_of.ensures ∙ ap (find (is_seat_of c.args.line)) (c.as_slice.ensures.value ∙ ap (λ z. z.seats) c.self.view_is)))
