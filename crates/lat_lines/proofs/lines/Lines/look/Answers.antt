use Rattle.std.proofs.Common.{◌∙◌}
use Rattle.lat_machines.specs.cores.Looks.{newest}
use Rattle.lat_lines.proofs.Looking.{number_told, end_told}
use Rattle.lat_lines.proofs.lines.Lines.look.Goals as goal

pub returns-clause-model : goal.returns-clause-model
returns-clause-model c = λ d st.
    let r = c.newest-session.result in
    let told = c.newest-session.ensures d st in
    λ i. record {
      newest = (c.number_of.ensures ∙ number_told r (newest d c.args.line) told) i;
      state = c.state.ensures d st i;
      waiting = c.waiting.ensures.model d st i;
      room = c.room.ensures d st i;
      end = (end_told r (newest d c.args.line) c.end_of.result told c.end_of.ensures) i;
    }
