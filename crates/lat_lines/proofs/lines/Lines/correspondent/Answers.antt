use Rattle.std.proofs.Common.{◌≡◌, ◌∙◌, rules, tests}
use Rattle.std.specs.Option.{option_map}
use Rattle.lat_machines.specs.cores.Looks.{newest}
use Rattle.lat_lines.proofs.Looking.{whom_of, whom_told}
use Rattle.lat_lines.proofs.lines.Lines.correspondent.Goals as goal

pub returns : goal.returns
returns c = λ d st.
    let is : c.map.result ≡ option_map whom_of c.newest.result = search (rules, tests) in
    is ∙ whom_told c.newest.result (newest d c.args.line) (c.newest.ensures d st)
