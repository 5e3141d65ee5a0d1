use Rattle.std.proofs.Common.{◌<◌, sym, ap, ◌∙◌, arith}
use Rattle.lat_machines.specs.cores.Cores.{no_seat}
use Rattle.lat_machines.specs.cores.Lines.{last_on}
use Rattle.lat_machines.specs.cores.Books.{LineSession}
use Rattle.lat_laws.specs.tales.Rows.{figures_of}
use Rattle.lat_replay.proofs.roster.Stages.{connected}
use Rattle.lat_replay.proofs.roster.Telling.{figures_before}
use Rattle.lat_replay.proofs.roster.sessions.connect.Goals as goal

pub returns-clause-stage : goal.returns-clause-stage
returns-clause-stage c = λ u x front rest s k target h n.
    let l : c.args.newcomer.line < 256 = omega arith in
    connected u x front rest s k target c.args.roster.now c.connects.new.self h
    (c.connects.ensures.shows k s (figures_of x.server.core (last_on s.line no_seat front)) h.shows
    (record { line = sym n.line; circuit = sym (ap (λ (z : LineSession). z.circuit) n.shown); id = sym (ap (λ (z : LineSession). z.session) n.shown) })
    (λ z. figures_before x.server.core front s.line c.args.newcomer.last c.figures_of-before.result (h.placed s.line (λ y. z (h.shows.server_lines c.args.newcomer.line l ∙ (ap k.server_lines n.line ∙ y)))) n.last c.figures_of-before.ensures))
