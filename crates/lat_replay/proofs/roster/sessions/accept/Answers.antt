use Rattle.std.proofs.Common.{◌<◌, suc, refl, ap, ◌∙◌, subst, length, arith}
use Rattle.lat_machines.specs.cores.Cores.{no_seat}
use Rattle.lat_machines.specs.cores.Lines.{last_on}
use Rattle.lat_replay.specs.roster.Roster.{HasRows}
use Rattle.lat_laws.specs.tales.Keeping.{accepts}
use Rattle.lat_laws.specs.tales.Mates.{mate_by_ids}
use Rattle.lat_laws.specs.tales.Rows.{figures_of}
use Rattle.lat_replay.proofs.roster.Stages.{accepted}
use Rattle.lat_replay.proofs.roster.Telling.{figures_before}
use Rattle.lat_replay.proofs.roster.sessions.accept.Goals as goal

pub returns-clause-stage : goal.returns-clause-stage
returns-clause-stage g c = λ u x front rest t k target q h n.
    let l : c.args.newcomer.line < 256 = omega arith in
    let place = c.mate_of-place.ensures.is u x (suc (length front)) t k q n.shown h.shows (h.named refl) in
    accepted u x front rest t k target c.args.roster.now c.accepts.new.self h
    (subst (λ z. HasRows c.accepts.new.self (accepts z (mate_by_ids u x t) (figures_of x.node.core (last_on t.line no_seat front)) k)) n.line
    (subst (λ z. HasRows c.accepts.new.self (accepts c.args.newcomer.line z (figures_of x.node.core (last_on t.line no_seat front)) k)) place
    (c.accepts.ensures.shows k (figures_of x.node.core (last_on t.line no_seat front)) h.shows
    (λ z. figures_before x.node.core front t.line c.args.newcomer.last c.figures_of-before.result (h.placed t.line (λ y. z (h.shows.node_lines c.args.newcomer.line l ∙ (ap k.node_lines n.line ∙ y)))) n.last c.figures_of-before.ensures))))
