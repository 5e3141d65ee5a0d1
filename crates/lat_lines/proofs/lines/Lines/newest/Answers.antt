use Rattle.std.proofs.Common.{◌≡◌, false, sym, ap, ◌∙◌, rules, tests}
use Rattle.std.specs.Option.{option_map, option_or}
use Rattle.lat_machines.specs.cores.Lines.{line_exists}
use Rattle.lat_lines.specs.Stands.{session_shown, session_info}
use Rattle.lat_lines.proofs.Looking.{newest_told, none_newest}
use Rattle.lat_lines.proofs.lines.Lines.newest.Goals as goal

pub returns-then-not-exists : goal.returns-then-not-exists
returns-then-not-exists c = λ d st.
    let none : line_exists c.args.self.now.lines c.args.line ≡ false = sym c.exists.ensures.value ∙ c.if-not-exists.true in
    sym (ap (option_map session_info) (none_newest c.args.self.now d c.args.line st none))

pub returns : goal.returns
returns c = λ d st.
    let is : c.or.result ≡ option_or c.book-present.result.present c.book-present.result.last = search (rules, tests) in
    ap (option_map session_shown) is ∙ newest_told d c.args.line c.book-present.result (c.book-present.ensures d st)
