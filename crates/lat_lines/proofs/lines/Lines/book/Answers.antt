use Rattle.std.proofs.Common.{◌≡◌, ◌-◌, ◌<◌, find, length, Some, rules, tests, sym, ap, ap₂, subst, ◌∙◌, arith}
use Rattle.std.specs.Option.{option_map}
use Rattle.std.proofs.lemmas.Option.{slice_get-get_or}
use Rattle.lat_lines.specs.Kept.{IsLine}
use Rattle.lat_lines.specs.Stands.{Stands, session_shown}
use Rattle.lat_lines.specs.Shown.{shown}
use Rattle.lat_lines.proofs.OnLines.{found, is_seat_of}
use Rattle.lat_lines.proofs.Telling.{present_told, last_told, session_in, book_with}
use Rattle.lat_lines.proofs.lines.Lines.book.Goals as goal

pub returns : goal.returns
returns c = λ d st.
    let k = shown c.self.inside in
    let is : c.map.result ≡ option_map session_in c.seat_of.result = search (rules, tests) in
    let st2 : Stands k d = subst (λ z. Stands z d) (sym c.self.view_is) st in
    let f = found k d c.args.line st2 c.seat_of.result (c.seat_of.ensures ∙ ap (find (is_seat_of c.args.line)) c.as_slice.ensures.value) in
    let line : IsLine k.lines c.args.line = subst (λ z. IsLine z.lines c.args.line) (sym c.self.view_is) c.requires in
    let within : c.args.line - 1 < length k.last = omega (arith, line.0, line.1, c.self.invariant.0.last) in
    let last = slice_get-get_or k.last (c.args.line - 1) c.index.result.now within ∙ ap Some (sym c.index.ensures) in
    ap₂ book_with (ap (option_map session_shown) is ∙ present_told d c.args.line c.seat_of.result f) (last_told k d c.args.line c.index.result.now st2 line last)
